-- A value under a limit. Assumes nothing.
use Rattle.std.proofs.Common.{◌≡◌, ℕ, ◌<◌, ◌≤◌, Bool, true, false, cond, leb, Some, None, Option, refl, arith}
use Rattle.std.proofs.lemmas.Bool.{leb-true, leb-false}
use Rattle.staircase.specs.Climbs.{within}

-- what an evaluation under a limit tells
pub within_some : (most v y : ℕ) → Some y ≡ within most v → (y ≡ v) × (y ≤ most)
within_some most v y e = by (leb v most) refl e
  where
    by : (t : Bool) → leb v most ≡ t → Some y ≡ cond t (Some v) None → (y ≡ v) × (y ≤ most)
    by true test same = let is : y ≡ v = cc in (is, omega (arith, leb-true v most test))
    by false test same = cc

pub within_none : (most v : ℕ) → None ≡ within most v → most < v
within_none most v e = by (leb v most) refl e
  where
    by : (t : Bool) → leb v most ≡ t → ◌≡◌ {A = Option ℕ} None (cond t (Some v) None) → most < v
    by true test same = cc
    by false test same = leb-false v most test
