-- An optional number is there or not. Assumes nothing.
use Rattle.std.proofs.Common.{◌≡◌, ℕ, ◌⊎◌, Some, None, Option, refl, inl, inr}

pub cases_option : (o : Option ℕ) → (o ≡ None) ⊎ ((t : ℕ) × (o ≡ Some t))
cases_option None = inl refl
cases_option (Some t) = inr (t, refl)
