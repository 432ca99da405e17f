use Rattle.packets.proofs.Response.{gone}
use Rattle.packets.proofs.never_open.Goals as goal

pub returns : goal.returns
returns c = gone
