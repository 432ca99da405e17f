use Rattle.timing.proofs.Staircase.{demand_rises}
use Rattle.timing.proofs.demand_rises.Goals as goal

pub returns : goal.returns
returns c = demand_rises
