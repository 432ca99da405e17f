-- The marks of a flow, for the flows above it. Assumes nothing.
--   firsts: f at 0 and on, n times; flags_of: flow i's marks, with any after them, which tell nothing
use Rattle.std.proofs.Common.{◌≡◌, ℕ, zero, suc, ◌-◌, ◌<◌, ◌≤◌, Bool, false, ◌||◌, ltb, List, [], ◌∷◌, ◌++◌, length, get_or, replicate, sym, refl, ap, ◌∙◌, arith}
use Rattle.std.proofs.lemmas.List.{length-append, length-replicate}
use Rattle.std.proofs.lemmas.Bool.{cond-false, or_from, le-ltb}
use Rattle.analysis.specs.declared.above.Above.{Above}
use Rattle.analysis.specs.Marks.{marked}
use Rattle.analysis.specs.Standing.{Marks}
use Rattle.timing.specs.Model.{Table}

abbrev pub firsts : (ℕ → Bool) → ℕ → List Bool
firsts f zero = []
firsts f (suc n) = f 0 ∷ firsts (λ k. f (suc k)) n

length-firsts : (f : ℕ → Bool) (n : ℕ) → length (firsts f n) ≡ n
length-firsts f zero = refl
length-firsts f (suc n) = ap suc (length-firsts (λ k. f (suc k)) n)

get_or-firsts : (f : ℕ → Bool) (n : ℕ) (rest : List Bool) (k : ℕ) → k < n → get_or (firsts f n ++ rest) k false ≡ f k
get_or-firsts f zero rest k less = absurd (omega arith)
get_or-firsts f (suc n) rest zero less = refl
get_or-firsts f (suc n) rest (suc k) less = get_or-firsts (λ j. f (suc j)) n rest k (omega arith)

begins-with :
    (f : ℕ → Bool) (n : ℕ) (flags : List Bool) → n ≤ length flags → ((k : ℕ) → k < n → get_or flags k false ≡ f k) → (rest : List Bool) × (flags ≡ firsts f n ++ rest)
begins-with f zero flags long each = (flags, refl)
begins-with f (suc n) [] long each = absurd (omega arith)
begins-with f (suc n) (x ∷ flags) long each =
    let more = begins-with (λ k. f (suc k)) n flags (omega arith) (λ k less. each (suc k) (omega arith)) in
    (more.0, λ j. each 0 (omega arith) j ∷ more.1 j)

marked_is : (a : Above) (h : ℕ) → 1 ≤ h → h ≤ 128 → marked a h ≡ get_or a.flags (h - 1) false
marked_is a h low high =
    cond-false (ltb h 1 || ltb 128 h) false (get_or a.flags (h - 1) false) (or_from (ltb h 1) (ltb 128 h) (le-ltb h 1 low) (le-ltb 128 h high))

abbrev pub flags_of : Table → ℕ → List Bool → List Bool
flags_of b i rest = firsts (λ k. b.H (suc k) i) (i - 1) ++ rest

module _ (b : Table) (i : ℕ) (few : i ≤ 128) where
  pub marks-are : (a : Above) → Marks b a i → (rest : List Bool) × (a.flags ≡ flags_of b i rest)
  marks-are a marks =
      begins-with (λ k. b.H (suc k) i) (i - 1) a.flags (omega (arith, a.long)) (λ k less.
      ap (λ n. get_or a.flags n false) (omega arith) ∙ sym (marked_is a (suc k) (omega arith) (omega arith)) ∙ marks (suc k) (omega arith) (omega arith))

  pub marks-of : (rest : List Bool) (long : length (flags_of b i rest) ≡ 128) → Marks b (record { flags = flags_of b i rest; long = long }) i
  marks-of rest long h low high =
      marked_is (record { flags = flags_of b i rest; long = long }) h low (omega arith)
      ∙ get_or-firsts (λ k. b.H (suc k) i) (i - 1) rest (h - 1) (omega arith)
      ∙ ap (λ n. b.H n i) (omega arith)

  pub no_more : length (flags_of b i (replicate (128 - (i - 1)) false)) ≡ 128
  no_more =
      length-append (firsts (λ k. b.H (suc k) i) (i - 1)) (replicate (128 - (i - 1)) false)
      ∙ omega (arith, length-firsts (λ k. b.H (suc k) i) (i - 1), length-replicate (128 - (i - 1)) false)
