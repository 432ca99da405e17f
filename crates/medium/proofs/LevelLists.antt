-- The levels of intervals of which a function tells whether somebody pulled them: how many, each one, one more, and the last one pulled.
use Rattle.std.specs.Prelude.{◌≡◌, ℕ, ◌+◌, ◌-◌, ◌<◌, ◌≤◌, Bool, true, false, cond, [], ◌∷◌, ◌++◌, length, get_or, Some, None, ◌≢◌, nat_lt, slice_index_or, slice_set}
use Rattle.std.proofs.Common.{sym, ap, ◌∙◌, ⊎_elim, arith, length-set}
use Rattle.std.proofs.lemmas.List.FromFn.{length-map-range_with_len, get_or-map-range_with_len, map-range_with_len_more}
use Rattle.std.proofs.lemmas.List.{get_or-set_same, get_or-set_other, ext_get_or}
use Rattle.std.proofs.lemmas.Bool.{cases_eq, cases_lt}
use Rattle.std.proofs.lemmas.Bool.Decides.{nat_tests}
use Rattle.medium.specs.declared.level.Level.TheVariants.{Recessive, Dominant}
use Rattle.medium.specs.Levels.{level_of, levels_of, read_at}

-- As many levels as intervals.
pub levels_length : (f : ℕ → Bool) (n : ℕ) → length (levels_of f n) ≡ n
levels_length f n = length-map-range_with_len (λ k. level_of (f k)) 0 n

-- The level of each.
levels_at : (f : ℕ → Bool) (n i : ℕ) → i < n → slice_index_or (levels_of f n) i Recessive ≡ level_of (f i)
levels_at f n i l = get_or-map-range_with_len (λ k. level_of (f k)) 0 n i i Recessive l (omega arith)

-- A read of what the function tells is a read of the list.
pub levels_read : (f : ℕ → Bool) (n k : ℕ) → cond (nat_lt k n) (Some (level_of (f k))) None ≡ read_at (levels_of f n) k
levels_read f n k =
    let wide = levels_length f n in
    ⊎_elim
    (λ (l : k < n). let same = levels_at f n k l in grind (arith, nat_tests))
    (λ (l : n ≤ k). grind (arith, nat_tests))
    (cases_lt k n)

-- An interval that nobody pulled opens recessive.
pub levels_more : (f : ℕ → Bool) (n : ℕ) → f n ≡ false → levels_of f (n + 1) ≡ levels_of f n ++ (Recessive ∷ [])
levels_more f n e = map-range_with_len_more (λ k. level_of (f k)) 0 n n (omega arith) ∙ ap (λ b. levels_of f n ++ (level_of b ∷ [])) e

-- A pull of the last of n intervals makes it dominant, and leaves the others.
pub levels_last : (f g : ℕ → Bool) (n : ℕ) → 0 < n → g (n - 1) ≡ true → ((i : ℕ) → i < n → (i ≢ n - 1) → g i ≡ f i) → levels_of g n ≡ slice_set (levels_of f n) (n - 1) Dominant
levels_last f g n some here there =
    let j = n - 1 in
    let old = levels_of f n in
    let wide = levels_length f n in
    ext_get_or Recessive (levels_of g n) (slice_set old j Dominant) (levels_length g n ∙ sym (length-set old j Dominant ∙ wide))
    (λ i l.
    let within : i < n = omega (arith, levels_length g n) in
    ⊎_elim
    (λ (eq : i ≡ j). levels_at g n i within ∙ ap (λ k. level_of (g k)) eq ∙ ap level_of here ∙ sym (ap (λ x. get_or (slice_set old j Dominant) x Recessive) eq ∙ get_or-set_same old j Dominant Recessive (omega arith)))
    (λ (ne : i ≡ j → ⊥). levels_at g n i within ∙ ap level_of (there i within ne) ∙ sym (get_or-set_other old j i Dominant Recessive ne ∙ levels_at f n i within))
    (cases_eq i j))
