-- What the words of a node bank tell of an interval: before any pull, after one, and of the first n nodes.
use Rattle.std.proofs.Common.{◌≡◌, ℕ, zero, suc, ◌+◌, ◌-◌, ◌%◌, ◌^◌, ◌<◌, ◌≤◌, Bool, true, false, ◌||◌, ◌==◌, ◌≢◌, List, length, get_or, set, replicate, sym, refl, ap, ◌∙◌, ⊎_elim, zero-add, arith}
use Rattle.std.specs.List.{list_any, range_with_len}
use Rattle.std.proofs.lemmas.List.Elements.{All-from_get_or}
use Rattle.std.proofs.lemmas.List.Folds.{list_any_at, list_any_none}
use Rattle.std.proofs.lemmas.List.FromFn.{length-range_with_len, get_or-range_with_len}
use Rattle.std.specs.Int.RustNames.{bit_or}
use Rattle.std.proofs.lemmas.Nat.Bits.{bit_at-zero, bit_at_or, bit_at-pow_same, bit_at-pow_other, bit_at-lt}
use Rattle.std.proofs.lemmas.List.{get_or-set_same, get_or-set_other, get_or-replicate, get_or_past, length-replicate}
use Rattle.std.proofs.lemmas.Bool.{cases_eq, cases_lt}
use Rattle.std.proofs.lemmas.Bool.Decides.{nat_tests}
use Rattle.medium.specs.Pulls.{word_of, bit_at, pulled_by, marked, pulled_under, pulled_at, bank_levels}
use Rattle.medium.specs.declared.level.Level.TheVariants.{Dominant}
use Rattle.medium.proofs.LevelLists.{levels_last}

-- What is told of the first n nodes is told of the numbers below n.
pub under_any : (ws : List ℕ) (k n : ℕ) → list_any (λ a. pulled_by ws a k) (range_with_len 0 n) ≡ pulled_under ws k n
unfolding pulled_under
under_any ws k n = refl

-- One node's pull is enough.
under_from : (ws : List ℕ) (k n a : ℕ) → a < n → pulled_by ws a k ≡ true → pulled_under ws k n ≡ true
unfolding pulled_under
under_from ws k n a l e =
    let P = λ (b : ℕ). pulled_by ws b k in
    list_any_at P (range_with_len 0 n) a 0 (omega (arith, length-range_with_len 0 n)) (ap P (get_or-range_with_len 0 n a 0 l ∙ zero-add a) ∙ e)

-- Tests that agree on each number of a range agree on whether one passes.
any_same : (p q : ℕ → Bool) (a n : ℕ) → ((i : ℕ) → i < a + n → p i ≡ q i) → list_any p (range_with_len a n) ≡ list_any q (range_with_len a n)
any_same p q a zero f = refl
any_same p q a (suc n) f =
    ap (λ b. b || list_any p (range_with_len (a + 1) n)) (f a (omega arith)) ∙ ap (λ b. q a || b) (any_same p q (a + 1) n (λ i l. f i (omega arith)))

-- Words that agree on each node agree on all.
under_same : (ws vs : List ℕ) (k n : ℕ) → ((a : ℕ) → a < n → pulled_by ws a k ≡ pulled_by vs a k) → pulled_under ws k n ≡ pulled_under vs k n
unfolding pulled_under
under_same ws vs k n f = any_same (λ a. pulled_by ws a k) (λ a. pulled_by vs a k) 0 n (λ a l. f a (omega arith))

-- Words in which no node pulled the interval tell of none.
under_clear : (ws : List ℕ) (k n : ℕ) → ((a : ℕ) → a < n → pulled_by ws a k ≡ false) → pulled_under ws k n ≡ false
unfolding pulled_under
under_clear ws k n f =
    let P = λ (a : ℕ). pulled_by ws a k in
    let wide = length-range_with_len 0 n in
    list_any_none P (range_with_len 0 n)
    (All-from_get_or (λ a. P a ≡ false) (range_with_len 0 n) 0 (λ i l. ap P (get_or-range_with_len 0 n i 0 (omega arith) ∙ zero-add i) ∙ f i (omega arith)))

-- The bit that is set by `or`.
bit_same : (w b : ℕ) → bit_at (bit_or w (2 ^ b)) b ≡ true
bit_same w b =
    let both = bit_at_or w (2 ^ b) b in
    let one = bit_at-pow_same b in
    let small = bit_at-lt w b in
    grind (arith, nat_tests)

-- The other bits.
bit_other : (w b c : ℕ) → (c ≢ b) → bit_at (bit_or w (2 ^ b)) c ≡ bit_at w c
bit_other w b c ne =
    let both = bit_at_or w (2 ^ b) c in
    let none = bit_at-pow_other b c ne in
    grind (arith, nat_tests)

-- A cleared word, or none, is 0.
zeros : (i : ℕ) → ◌≡◌ {A = ℕ} (get_or (replicate 512 0) i 0) 0
zeros i =
    ⊎_elim
    (λ (l : i < 512). get_or-replicate 512 i 0 0 l)
    (λ (l : 512 ≤ i). get_or_past (replicate 512 0) i 0 (omega (arith, length-replicate {A = ℕ} 512 0)))
    (cases_lt i 512)

-- Words that were cleared whole: nobody pulled any interval.
pub cleared : (k : ℕ) → pulled_at (replicate 512 0) k ≡ false
cleared k = under_clear (replicate 512 0) k 256 (λ a l. ap (λ w. bit_at w (k % 64)) (zeros (word_of a k)) ∙ ap (λ n. n == 1) (bit_at-zero (k % 64)))

-- A pull of interval j by a node is told.
pulled_here : (ws : List ℕ) (node j : ℕ) → length ws ≡ 512 → node < 256 → j < 128 → pulled_by (marked ws node j) node j ≡ true
pulled_here ws node j long n l =
    ap (λ w. bit_at w (j % 64)) (get_or-set_same ws (word_of node j) _ 0 (omega arith)) ∙ bit_same (get_or ws (word_of node j) 0) (j % 64)

-- It leaves the other intervals as they were, for every node.
pulled_other : (ws : List ℕ) (node j a k : ℕ) → length ws ≡ 512 → node < 256 → j < 128 → a < 256 → k < 128 → (k ≡ j → ⊥) → pulled_by (marked ws node j) a k ≡ pulled_by ws a k
pulled_other ws node j a k long n l m i ne =
    let here = word_of node j in
    let there = word_of a k in
    let w = get_or ws here 0 in
    ⊎_elim
    (λ (eq : there ≡ here).
    let apart : k % 64 ≡ j % 64 → ⊥ = omega arith in
    ap (λ x. bit_at (get_or (marked ws node j) x 0) (k % 64)) eq
    ∙ ap (λ x. bit_at x (k % 64)) (get_or-set_same ws here (bit_or w (2 ^ (j % 64))) 0 (omega arith))
    ∙ bit_other w (j % 64) (k % 64) apart
    ∙ ap (λ x. bit_at (get_or ws x 0) (k % 64)) (sym eq))
    (λ (no : there ≡ here → ⊥). ap (λ x. bit_at x (k % 64)) (get_or-set_other ws here there (bit_or w (2 ^ (j % 64))) 0 no))
    (cases_eq there here)

-- A pull of interval j leaves the others as they were.
pub other_same : (ws : List ℕ) (node j k : ℕ) → length ws ≡ 512 → node < 256 → j < 128 → k < 128 → (k ≡ j → ⊥) → pulled_at (marked ws node j) k ≡ pulled_at ws k
other_same ws node j k long n l m ne = under_same (marked ws node j) ws k 256 (λ a q. pulled_other ws node j a k long n l q m ne)

-- A pull of the last of n intervals makes its level dominant, and leaves the others.
pub pull_last : (ws : List ℕ) (node n : ℕ) → length ws ≡ 512 → node < 256 → 0 < n → n ≤ 128 → bank_levels (marked ws node (n - 1)) n ≡ set (bank_levels ws n) (n - 1) Dominant
pull_last ws node n long m some few =
    let j = n - 1 in
    let vs = marked ws node j in
    levels_last (pulled_at ws) (pulled_at vs) n some (under_from vs j 256 node m (pulled_here ws node j long m (omega arith)))
    (λ i l ne. other_same ws node j i long m (omega arith) (omega arith) ne)
