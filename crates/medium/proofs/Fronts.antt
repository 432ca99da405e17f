-- The front of a longer list, for a medium that keeps its levels in the front of an array.
use Rattle.std.proofs.Common.{◌≡◌, ℕ, zero, suc, ◌<◌, ◌≤◌, cond, ltb, List, [], ◌∷◌, length, get_or, take, set, Some, None, refl, ap, ⊎_elim, arith}
use Rattle.std.proofs.lemmas.List.{length-take-le, get_or-take}
use Rattle.std.proofs.lemmas.Bool.{cases_lt}
use Rattle.std.proofs.lemmas.Bool.Decides.{nat_tests}
use Rattle.medium.specs.declared.level.Level.{Level}
use Rattle.medium.specs.declared.level.Level.TheVariants.{Recessive}
use Rattle.medium.specs.Levels.{read_at}

-- A write to a front is a write to the whole.
pub take_set_in : {X : Type 0} (n : ℕ) (xs : List X) (i : ℕ) (x : X) → take n (set xs i x) ≡ set (take n xs) i x
take_set_in zero [] i x = refl
take_set_in zero (y ∷ ys) i x = refl
take_set_in (suc n) [] i x = refl
take_set_in (suc n) (y ∷ ys) zero x = refl
take_set_in (suc n) (y ∷ ys) (suc i) x = ap (λ zs. y ∷ zs) (take_set_in n ys i x)

-- A read within a front is a read of the whole.
pub read_front : (n : ℕ) (ls : List Level) (k : ℕ) → n ≤ length ls → cond (ltb k n) (Some (get_or ls k Recessive)) None ≡ read_at (take n ls) k
read_front n ls k few =
    let wide : length (take n ls) ≡ n = length-take-le n ls few in
    ⊎_elim
    (λ (l : k < n). let same = get_or-take n ls k Recessive l in grind (arith, nat_tests))
    (λ (l : n ≤ k). grind (arith, nat_tests))
    (cases_lt k n)
