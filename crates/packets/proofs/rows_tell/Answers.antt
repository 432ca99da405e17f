use Rattle.packets.proofs.Rows.{rows_tell}
use Rattle.packets.proofs.rows_tell.Goals as goal

pub returns : goal.returns
returns c = rows_tell
