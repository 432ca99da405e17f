use Rattle.packets.proofs.Arbiter.{decided}
use Rattle.packets.proofs.decided.Goals as goal

pub returns : goal.returns
returns c = decided
