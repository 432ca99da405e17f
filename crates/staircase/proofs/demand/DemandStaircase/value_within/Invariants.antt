use Rattle.std.proofs.Common.{◌≡◌, ◌+◌, ◌≤◌, take, vec_items, sum_by}
use Rattle.staircase.specs.Terms.{charge}
use Rattle.staircase.proofs.demand.DemandStaircase.value_within.Given as goal

abbrev pub invariant-loop-term : goal.invariant-loop-term
invariant-loop-term l =
    (l.sum ≤ l.most) × (l.sum ≡ l.self.ground + sum_by (charge l.x) (take l.term-index (vec_items l.self.terms)))
