-- What the search for a least solution answers. Assumes nothing.
--   within: a value, or none where it passes a limit
--   climbed: the search's answer and its evaluations
--   Settles: what is so found, in words of solutions alone
use Rattle.std.specs.Prelude.{◌≡◌, ℕ, suc, ◌<◌, cond, Some, None, Option, nat_le}
use Rattle.staircase.specs.declared.search.Climb.{Climb}
use Rattle.timing.specs.Staircase.{Least, climb, rounds}

abbrev pub within : ℕ → ℕ → Option ℕ
within most v = cond (nat_le v most) (Some v) None

-- nothing is evaluated where even the floor passes the limit
abbrev pub climbed : (ℕ → ℕ) → ℕ → ℕ → Climb
climbed f floor most =
    cond (nat_le floor most)
    (record { least = climb f most (suc most) floor; rounds = rounds f most (suc most) floor })
    (record { least = None; rounds = 0 })

-- the least of all solutions if it is within the limit, or none where every solution passes the limit
abbrev pub Settles : (ℕ → ℕ) → ℕ → Option ℕ → Type 0
Settles f most (Some x) = Least f most x
Settles f most None = (y : ℕ) → f y ≡ y → most < y
