-- Looking for a link in a route, and the two questions in the words of the library: link by link, all in one go, and in chunks. Assumes nothing.
use Rattle.std.proofs.Common.{◌≡◌, ℕ, zero, suc, ◌*◌, Bool, true, false, ◌||◌, List, [], ◌∷◌, ◌++◌, take, drop, refl, sym, ap, ap₂, ◌∙◌, arith, ◌==◌}
use Rattle.std.proofs.Math.Bool.{or_assoc}
use Rattle.std.proofs.Math.Nat.{zero-mul, suc-mul}
use Rattle.std.proofs.lemmas.List.{take-append-drop, drop-drop}
use Rattle.std.proofs.lemmas.Bool.Decides.{nat_tests}
use Rattle.std.specs.List.{list_any, fold}
use Rattle.std.specs.Simd.{first_chunks}
use Rattle.fabric.specs.Paths.{has, shares}

turned : (x y : ℕ) → (x == y) ≡ (y == x)
turned x y = grind (arith, nat_tests)

pub has_any : (link : ℕ) (xs : List ℕ) → has link xs ≡ list_any (λ x. x == link) xs
unfolding has
has_any link [] = refl
has_any link (x ∷ xs) = ap₂ (λ a b. a || b) (turned link x) (has_any link xs)

pub shares_any : (p q : List ℕ) → shares p q ≡ list_any (λ x. has x q) p
unfolding shares
shares_any [] q = refl
shares_any (x ∷ p) q = ap (λ b. has x q || b) (shares_any p q)

folded_from : (link : ℕ) (found : Bool) (xs : List ℕ) → fold (λ f x. f || (x == link)) found xs ≡ (found || has link xs)
unfolding has
folded_from link true [] = refl
folded_from link false [] = refl
folded_from link found (x ∷ xs) =
    folded_from link (found || (x == link)) xs ∙ or_assoc found (x == link) (has link xs) ∙ ap (λ t. found || (t || has link xs)) (turned x link)

pub has_fold : (link : ℕ) (xs : List ℕ) → has link xs ≡ fold (λ f x. f || (x == link)) false xs
has_fold link xs = sym (folded_from link false xs)

has_append : (link : ℕ) (xs ys : List ℕ) → has link (xs ++ ys) ≡ (has link xs || has link ys)
unfolding has
has_append link [] ys = refl
has_append link (x ∷ xs) ys = ap (λ t. link == x || t) (has_append link xs ys) ∙ sym (or_assoc (link == x) (has link xs) (has link ys))

next_chunk : (n k : ℕ) (xs : List ℕ) → drop (k * n) (drop n xs) ≡ drop (suc k * n) xs
next_chunk n k xs = drop-drop (k * n) n xs ∙ ap (λ d. drop d xs) (omega (arith, suc-mul k n))

-- Among the first k chunks of n, or in what stands after them.
pub has_chunks : (link n k : ℕ) (xs : List ℕ) → has link xs ≡ (list_any (has link) (first_chunks n k xs) || has link (drop (k * n) xs))
has_chunks link n zero xs = ap (λ d. has link (drop d xs)) (sym (zero-mul n))
has_chunks link n (suc k) xs =
    let first = has link (take n xs) in
    let others = list_any (has link) (first_chunks n k (drop n xs)) in
    ap (has link) (sym (take-append-drop n xs))
    ∙ has_append link (take n xs) (drop n xs)
    ∙ ap (λ t. first || t) (has_chunks link n k (drop n xs) ∙ ap (λ ys. others || has link ys) (next_chunk n k xs))
    ∙ sym (or_assoc first others (has link (drop (suc k * n) xs)))
