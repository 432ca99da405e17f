-- What terms charge never falls as the window grows. Assumes nothing.
-- These lemmas stand here, and not in proofs/, since a law of an impl cites only specs/ of its own crate.
use Rattle.std.specs.Prelude.{ℕ, ◌+◌, ◌≤◌, List, [], ◌∷◌, sum_by}
use Rattle.std.proofs.Common.{mul-le-mul_right, arith}
use Rattle.std.proofs.lemmas.List.Sums.{sum_by-cons}
use Rattle.staircase.specs.declared.term.Term.{Term}
use Rattle.staircase.specs.Terms.{charge, demanded}
use Rattle.timing.proofs.Ceil.{ceil_mono}

charge_rises : (x y : ℕ) → x ≤ y → (t : Term) → charge x t ≤ charge y t
unfolding charge
charge_rises x y le t = mul-le-mul_right t.cost (ceil_mono (x + t.jitter) (y + t.jitter) t.separation t.some (omega arith))

charges_rise : (x y : ℕ) → x ≤ y → (ts : List Term) → sum_by (charge x) ts ≤ sum_by (charge y) ts
charges_rise x y le [] = omega arith
charges_rise x y le (t ∷ ts) = omega (arith, sum_by-cons (charge x) t ts, sum_by-cons (charge y) t ts, charge_rises x y le t, charges_rise x y le ts)

pub demanded_rises : (g : ℕ) (ts : List Term) (x y : ℕ) → x ≤ y → demanded g ts x ≤ demanded g ts y
unfolding demanded
demanded_rises g ts x y le = omega (arith, charges_rise x y le ts)

pub demanded_grounded : (g : ℕ) (ts : List Term) (x : ℕ) → g ≤ demanded g ts x
unfolding demanded
demanded_grounded g ts x = omega arith
