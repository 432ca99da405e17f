use Rattle.packets.proofs.Placed.{open_placed}
use Rattle.packets.proofs.open_placed.Goals as goal

pub returns : goal.returns
returns c = open_placed
