use Rattle.packets.proofs.Ledger.{calls_in_bound}
use Rattle.packets.proofs.calls_in_bound.Goals as goal

pub returns : goal.returns
returns c = calls_in_bound
