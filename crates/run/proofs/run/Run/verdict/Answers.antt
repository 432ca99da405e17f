use Rattle.history.proofs.Upheld.{verdict_upholds}
use Rattle.run.proofs.run.Run.verdict.Goals as goal

pub returns-clause-promise : goal.returns-clause-promise
returns-clause-promise g c = λ k. verdict_upholds _ _ _ k _ _ c.verdict_step.ensures.answer
