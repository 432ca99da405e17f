use Rattle.history.proofs.Upheld.{report_upholds}
use Rattle.history.proofs.report_upholds.Goals as goal

pub returns : goal.returns
returns c = report_upholds
