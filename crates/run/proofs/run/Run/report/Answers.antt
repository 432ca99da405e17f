use Rattle.history.proofs.Upheld.{report_upholds}
use Rattle.run.proofs.run.Run.report.Goals as goal

pub returns-clause-promise : goal.returns-clause-promise
returns-clause-promise g c = report_upholds _ _ _ _ _ _ c.report_step.ensures.answer
