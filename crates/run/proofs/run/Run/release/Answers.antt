use Rattle.history.proofs.Upheld.{release_upholds}
use Rattle.run.proofs.run.Run.release.Goals as goal

pub returns-clause-promise : goal.returns-clause-promise
returns-clause-promise g c = release_upholds _ _ _ _ _ _ _ _ c.release_step.ensures
