use Rattle.packets.proofs.Response.{holds}
use Rattle.packets.proofs.in_bound.Goals as goal

pub returns : goal.returns
returns c = holds
