use Rattle.std.proofs.Common.{◌-◌, ◌≤◌}
use Rattle.staircase.proofs.Steps.{Climbing}
use Rattle.staircase.proofs.search.least_solution.Given as goal

abbrev pub invariant-loop-y : goal.invariant-loop-y
invariant-loop-y g l = (g.S.Staircase.floor l.stairs ≤ l.most) × Climbing (g.S.Staircase.value l.stairs) (g.S.Staircase.floor l.stairs) l.most l.rounds l.x

abbrev pub decreases-loop-y : goal.decreases-loop-y
decreases-loop-y g l = l.most - l.x
