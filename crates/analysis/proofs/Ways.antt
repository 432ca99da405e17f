-- Tests over the flows above a flow. Assumes nothing.
use Rattle.std.proofs.Common.{◌≡◌, ℕ, zero, suc, ◌+◌, ◌-◌, ◌<◌, ◌≤◌, Bool, true, false, not, ◌&&◌, ◌||◌, List, [], ◌∷◌, length, get_or, Some, None, Option, unwrap_or, sym, refl, ap, ◌∙◌, inl, inr, arith}
use Rattle.std.proofs.Math.Bool.{and_assoc, and-true}
use Rattle.std.proofs.lemmas.List.FromFn.{length-range_with_len, get_or-range_with_len, length-enumerate_from, get_or-enumerate_from}
use Rattle.std.specs.List.{list_all, range_with_len, enumerate_from}
use Rattle.std.proofs.lemmas.Bool.{cases_Bool}
use Rattle.timing.specs.Counts.{every_to}
use Rattle.timing.specs.Model.{Table, figure}
use Rattle.analysis.specs.declared.row.Row.{Row}
use Rattle.analysis.specs.Standing.{Ordered}

-- there is no flow 0
pub none_first : (b : Table) → Ordered b → (i : ℕ) → b.H 0 i ≡ false
none_first b ordered i =
    elim (cases_Bool (b.H 0 i)) [
      | inl delays ↦ absurd (omega (arith, (ordered 0 i delays).0))
      | inr free ↦ free
    ]

pub holds_when_free : (p q : Bool) → p ≡ false → (not p || q) ≡ true
holds_when_free p q e = ap (λ (t : Bool). not t || q) e

-- a test of each item of a list, whose items stand for the numbers from a on
every_list :
    {X : Type 0} (q : ℕ → Bool) (test : X → Bool) (xs : List X) (a : ℕ) → ((k : ℕ) (d : X) → k < length xs → test (get_or xs k d) ≡ q (a + k)) →
    every_to (a + length xs) q ≡ (every_to a q && list_all test xs)
unfolding every_to
every_list q test [] a same =
    let all : a + 0 ≡ a = omega arith in
    ap (λ n. every_to n q) all ∙ sym (and-true (every_to a q))
every_list q test (x ∷ xs) a same =
    let first : a + 0 ≡ a = omega arith in
    let here = same 0 x (omega arith) ∙ ap q first in
    let rest =
    every_list q test xs (suc a) (λ k d less.
    let place : a + suc k ≡ suc a + k = omega arith in
    same (suc k) d (omega arith) ∙ ap q place) in
    let all : a + length (x ∷ xs) ≡ suc a + length xs = omega arith in
    ap (λ n. every_to n q) all
    ∙ rest
    ∙ and_assoc (every_to a q) (q a) (list_all test xs)
    ∙ ap (λ t. every_to a q && (t && list_all test xs)) (sym here)

-- where nothing is asked of 0, a test of the numbers from 1 on is one of all below n
pub every_range : (q test : ℕ → Bool) (n : ℕ) → q 0 ≡ true → ((k : ℕ) → 1 ≤ k → k < n → test k ≡ q k) → list_all test (range_with_len 1 (n - 1)) ≡ every_to n q
unfolding every_to
every_range q test zero none same = refl
every_range q test (suc m) none same =
    let count : suc m - 1 ≡ m = omega arith in
    let all : 1 + length (range_with_len 1 m) ≡ suc m = omega (arith, length-range_with_len 1 m) in
    let each =
    every_list q test (range_with_len 1 m) 1 (λ k d less.
    let inside : k < m = omega (arith, length-range_with_len 1 m) in
    ap test (get_or-range_with_len 1 m k d inside) ∙ same (1 + k) (omega arith) (omega arith)) in
    ap (λ k. list_all test (range_with_len 1 k)) count
    ∙ sym (ap (λ t. t && list_all test (range_with_len 1 m)) none)
    ∙ sym each
    ∙ ap (λ k. every_to k q) all

-- the same for a test of each row of a list with its place
pub every_row :
    (q : ℕ → Bool) (test : ℕ × Row → Bool) (rows : List Row) → q 0 ≡ true → ((k : ℕ) (d : Row) → k < length rows → test (k, get_or rows k d) ≡ q (k + 1)) →
    list_all test (enumerate_from 0 rows) ≡ every_to (length rows + 1) q
unfolding every_to
every_row q test rows none same =
    let count = length-enumerate_from 0 rows in
    let all : 1 + length (enumerate_from 0 rows) ≡ length rows + 1 = omega arith in
    let each =
    every_list q test (enumerate_from 0 rows) 1 (λ k d less.
    let inside : k < length rows = omega arith in
    let place : k + 1 ≡ 1 + k = omega arith in
    let number : 0 + k ≡ k = omega arith in
    ap test (get_or-enumerate_from 0 rows k d inside) ∙ ap (λ (n : ℕ). test (n, get_or rows k d.1)) number ∙ same k d.1 inside ∙ ap q place) in
    sym (ap (λ t. t && list_all test (enumerate_from 0 rows)) none) ∙ sym each ∙ ap (λ k. every_to k q) all

-- a figure is 0 where there is none
pub figure_or : (o : Option ℕ) → unwrap_or o 0 ≡ figure o
unfolding figure
figure_or None = refl
figure_or (Some x) = refl
