use Rattle.packets.proofs.Ledger.{free_again}
use Rattle.packets.proofs.next_free.Goals as goal

pub returns : goal.returns
returns c = free_again
