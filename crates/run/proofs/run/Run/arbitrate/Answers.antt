use Rattle.history.proofs.Upheld.{arbitrate_upholds}
use Rattle.run.proofs.run.Run.arbitrate.Goals as goal

pub returns-clause-promise : goal.returns-clause-promise
returns-clause-promise g c = λ k. arbitrate_upholds _ _ _ k _ c.arbitrate_step.ensures
