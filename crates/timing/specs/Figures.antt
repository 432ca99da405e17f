-- The bounds of a table: for each flow in turn the least solution of its equation, if that is within the deadline. Assumes nothing.
use Rattle.std.specs.Prelude.{◌≡◌, ℕ, zero, suc, ◌+◌, ◌-◌, ◌/◌, ◌≤◌, Bool, true, cond, not, ◌&&◌, ◌||◌, is_some, Some, None, Option, ◌==◌, nat_le}
use Rattle.timing.specs.Counts.{every_to}
use Rattle.timing.specs.Model.{Table, Flow, Lawful, Bounds, alone, demand}
use Rattle.timing.specs.Staircase.{Least, climb, rounds}

-- where the search begins: the right side without the delays
unfoldable pub base : Table → ℕ → ℕ
base b i = (b.S - b.e i) + b.S + alone b i

-- every flow that delays i has a bound
unfoldable pub settled : Table → (ℕ → Option ℕ) → ℕ → Bool
settled b R i = every_to i (λ h. not (b.H h i) || is_some (R h))

-- there is something to search for
unfoldable pub searched : Table → (ℕ → Option ℕ) → ℕ → Bool
searched b R i = ((nat_le 1 i && nat_le i b.z) && settled b R i) && nat_le (base b i) (b.D i)

unfoldable pub figure_of : Table → (ℕ → Option ℕ) → ℕ → Option ℕ
figure_of b R i = cond (searched b R i) (climb (demand b R i) (b.D i) (suc (b.D i)) (base b i)) None

-- the bounds of the flows below n
unfoldable pub bounds_to : Table → ℕ → ℕ → Option ℕ
bounds_to b zero i = None
bounds_to b (suc n) i = cond (i == n) (figure_of b (bounds_to b n) n) (bounds_to b n i)

unfoldable pub bound_of : Table → ℕ → Option ℕ
bound_of b i = bounds_to b (suc i) i

-- the evaluations of the right side that this takes
unfoldable pub rounds_of : Table → ℕ → ℕ
rounds_of b i = cond (searched b (bound_of b) i) (rounds (demand b (bound_of b) i) (b.D i) (suc (b.D i)) (base b i)) 0

-- A flow is bounded exactly when all that delay it are and its equation has a solution within the deadline; the bound is the least solution.
pub record Exact (b : Table) (i : ℕ) : Type 0 where
  pub above : (x h : ℕ) → bound_of b i ≡ Some x → b.H h i ≡ true → (y : ℕ) × (bound_of b h ≡ Some y)
  pub least : (x : ℕ) → bound_of b i ≡ Some x → Least (demand b (bound_of b) i) (b.D i) x
  pub bounded : (x : ℕ) → ((h : ℕ) → b.H h i ≡ true → (y : ℕ) × (bound_of b h ≡ Some y)) → demand b (bound_of b) i x ≡ x → x ≤ b.D i →
      (y : ℕ) × (bound_of b i ≡ Some y)
  pub few : rounds_of b i ≤ (b.D i - base b i) / b.S + 1

abbrev pub FiguresExact : Type 0
FiguresExact = (b : Table) → Lawful b → ((i : ℕ) → Flow b i → Exact b i) × Bounds b (bound_of b)
