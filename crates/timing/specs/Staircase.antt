-- The least solution of f x ≡ x, for an f that never falls, and the search for it. Assumes nothing.
use Rattle.std.specs.Prelude.{◌≡◌, ℕ, zero, suc, ◌+◌, ◌-◌, ◌*◌, ◌/◌, ◌<◌, ◌≤◌, cond, ◌||◌, Some, None, Option, ◌==◌, nat_lt}
use Rattle.timing.specs.Counts.{sum_to}
use Rattle.timing.specs.Model.{Table, Flow, Lawful, alone, share, demand}

abbrev pub Rising : (ℕ → ℕ) → Type 0
Rising f = (x y : ℕ) → x ≤ y → f x ≤ f y

pub record Least (f : ℕ → ℕ) (D x : ℕ) : Type 0 where
  pub solves : f x ≡ x
  pub within : x ≤ D
  pub least : (y : ℕ) → f y ≡ y → x ≤ y

-- f at x, then at each result, until a result is its argument or passes D; k is more than enough evaluations
unfoldable pub climb : (ℕ → ℕ) → ℕ → ℕ → ℕ → Option ℕ
climb f D zero x = None
climb f D (suc k) x = cond (f x == x) (Some x) (cond (nat_lt D (f x)) None (climb f D k (f x)))

-- how many evaluations that takes
unfoldable pub rounds : (ℕ → ℕ) → ℕ → ℕ → ℕ → ℕ
rounds f D zero x = 0
rounds f D (suc k) x = suc (cond (f x == x || nat_lt D (f x)) 0 (rounds f D k (f x)))

-- The search from a, below which f has no value, in steps of S: it finds the least solution if one is at most D, and tells that none is otherwise.
pub record Searched (f : ℕ → ℕ) (S a D : ℕ) : Type 0 where
  pub found : (x : ℕ) → climb f D (suc D) a ≡ Some x → Least f D x
  pub none : climb f D (suc D) a ≡ None → (y : ℕ) → f y ≡ y → D < y
  pub few : rounds f D (suc D) a ≤ (D - a) / S + 1

abbrev pub SearchFinds : Type 0
SearchFinds = (f : ℕ → ℕ) (S a D : ℕ) → 0 < S → Rising f → ((x : ℕ) → (q : ℕ) × (f x ≡ a + q * S)) → a ≤ D → Searched f S a D

-- The right side of a flow's equation is such a staircase.
abbrev pub DemandRises : Type 0
DemandRises =
    (b : Table) → Lawful b → (R : ℕ → Option ℕ) (i : ℕ) → Flow b i →
    Rising (demand b R i) × ((x : ℕ) → demand b R i x ≡ ((b.S - b.e i) + b.S + alone b i) + sum_to i (share b R i x) * b.S)
