use Rattle.timing.proofs.Figures.{figures_are}
use Rattle.timing.proofs.figures_exact.Goals as goal

pub returns : goal.returns
returns c = figures_are
