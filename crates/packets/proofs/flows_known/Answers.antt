use Rattle.packets.proofs.Placed.{flows_known}
use Rattle.packets.proofs.flows_known.Goals as goal

pub returns : goal.returns
returns c = flows_known
