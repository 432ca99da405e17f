-- Terms that charge for a window, and the demand that they add up to. Assumes nothing.
use Rattle.std.specs.Prelude.{ℕ, ◌+◌, ◌*◌, cond, List, Some, None, sum_by, Option, ◌==◌}
use Rattle.staircase.specs.declared.term.Term.{Term}
use Rattle.timing.specs.Counts.{ceil_div}

-- the cost, for each separation that a window of x cycles and the jitter touch
unfoldable pub charge : ℕ → Term → ℕ
charge x t = ceil_div (x + t.jitter) t.separation * t.cost

-- a term by its three numbers
abbrev pub seen : Option Term → Option (ℕ × ℕ × ℕ)
seen None = None
seen (Some t) = Some (t.jitter, t.separation, t.cost)

abbrev pub term_for : ℕ → ℕ → ℕ → Option (ℕ × ℕ × ℕ)
term_for jitter separation cost = cond (separation == 0) None (Some (jitter, separation, cost))

-- the floor, and what each term charges
unfoldable pub demanded : ℕ → List Term → ℕ → ℕ
demanded floor terms x = floor + sum_by (charge x) terms
