use Rattle.history.proofs.Upheld.{arbitrate_upholds}
use Rattle.history.proofs.arbitrate_upholds.Goals as goal

pub returns : goal.returns
returns c = arbitrate_upholds
