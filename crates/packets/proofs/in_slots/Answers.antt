use Rattle.packets.proofs.Response.{holds_in_slots}
use Rattle.packets.proofs.in_slots.Goals as goal

pub returns : goal.returns
returns c = holds_in_slots
