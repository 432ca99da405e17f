use Rattle.history.proofs.Upheld.{abandon_upholds}
use Rattle.history.proofs.abandon_upholds.Goals as goal

pub returns : goal.returns
returns c = abandon_upholds
