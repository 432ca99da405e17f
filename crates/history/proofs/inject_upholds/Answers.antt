use Rattle.history.proofs.Upheld.{inject_upholds}
use Rattle.history.proofs.inject_upholds.Goals as goal

pub returns : goal.returns
returns c = inject_upholds
