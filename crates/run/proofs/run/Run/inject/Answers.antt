use Rattle.history.proofs.Upheld.{inject_upholds}
use Rattle.run.proofs.run.Run.inject.Goals as goal

pub returns-clause-promise : goal.returns-clause-promise
returns-clause-promise g c = inject_upholds _ _ _ _ _ _ _ c.inject_step.ensures.after
