use Rattle.std.proofs.Common.{◌≡◌, ℕ, ◌+◌, vec_items, sum_by}
use Rattle.staircase.specs.Terms.{charge}
use Rattle.timing.specs.Counts.{sum_to}
use Rattle.timing.specs.Model.{Table, delay}
use Rattle.timing.specs.Figures.{bound_of}
use Rattle.analysis.specs.Rivals.{next, Met}
use Rattle.analysis.proofs.bounding.Rivals.demand.Given as goal

abbrev pub invariant-loop-k : goal.invariant-loop-k
invariant-loop-k l =
    (l.demand.ground ≡ l.ground)
    × ((b : Table) → Met b l.self → (x : ℕ) → sum_by (charge x) (vec_items l.demand.terms) ≡ sum_to (l.k + 1) (delay b (bound_of b) (next l.self) x))
