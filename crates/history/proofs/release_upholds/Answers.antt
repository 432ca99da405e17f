use Rattle.history.proofs.Upheld.{release_upholds}
use Rattle.history.proofs.release_upholds.Goals as goal

pub returns : goal.returns
returns c = release_upholds
