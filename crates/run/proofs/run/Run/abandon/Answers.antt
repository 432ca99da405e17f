use Rattle.history.proofs.Upheld.{abandon_upholds}
use Rattle.run.proofs.run.Run.abandon.Goals as goal

pub returns-clause-promise : goal.returns-clause-promise
returns-clause-promise g c = λ k. abandon_upholds _ _ _ k _ _ c.abandon_step.ensures.after
