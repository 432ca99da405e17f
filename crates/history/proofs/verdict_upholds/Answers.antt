use Rattle.history.proofs.Upheld.{verdict_upholds}
use Rattle.history.proofs.verdict_upholds.Goals as goal

pub returns : goal.returns
returns c = verdict_upholds
