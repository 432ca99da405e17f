-- Steps along one axis: where `toward` stands after j steps. Pure numbers.
use Rattle.std.specs.Prelude.{◌≡◌, ℕ, ◌+◌, ◌-◌, ◌<◌, ◌≤◌, min, max, ◌≢◌}
use Rattle.std.proofs.Common.{⊎_elim, arith}
use Rattle.std.proofs.lemmas.Bool.{cases_lt, cond-true, cond-false, lt-ltb, le-ltb}
use Rattle.mesh.specs.Grid.{distance, toward}

-- upward, where the target is above
pub toward_up : (a b j : ℕ) → a < b → toward a b j ≡ min (a + j) b
toward_up a b j h = cond-true _ _ _ (lt-ltb a b h)

-- downward, where it is not
pub toward_down : (a b j : ℕ) → b ≤ a → toward a b j ≡ max (a - j) b
toward_down a b j h = cond-false _ _ _ (le-ltb a b h)

pub toward_start : (a b : ℕ) → toward a b 0 ≡ a
toward_start a b =
    ⊎_elim (λ h. omega (arith, toward_up a b 0 h)) (λ h. omega (arith, toward_down a b 0 h)) (cases_lt a b)

pub toward_end : (a b j : ℕ) → distance a b ≤ j → toward a b j ≡ b
toward_end a b j far =
    ⊎_elim (λ h. omega (arith, toward_up a b j h)) (λ h. omega (arith, toward_down a b j h)) (cases_lt a b)

-- it stays among m columns or rows
pub toward_within : (a b j m : ℕ) → a < m → b < m → toward a b j < m
toward_within a b j m ha hb =
    ⊎_elim (λ h. omega (arith, toward_up a b j h)) (λ h. omega (arith, toward_down a b j h)) (cases_lt a b)

-- no place is come to twice
pub toward_apart : (a b j k : ℕ) → j < k → j < distance a b → toward a b j ≢ toward a b k
toward_apart a b j k less near same =
    ⊎_elim
    (λ h. omega (arith, toward_up a b j h, toward_up a b k h))
    (λ h. omega (arith, toward_down a b j h, toward_down a b k h))
    (cases_lt a b)

pub step_up : (a b j : ℕ) → a < b → j < distance a b → (toward a b (j + 1) ≡ toward a b j + 1) × (toward a b j < b)
step_up a b j h near = omega (arith, toward_up a b j h, toward_up a b (j + 1) h)

pub step_down : (a b j : ℕ) → b ≤ a → j < distance a b → (toward a b (j + 1) ≡ toward a b j - 1) × (0 < toward a b j)
step_down a b j h near = omega (arith, toward_down a b j h, toward_down a b (j + 1) h)
