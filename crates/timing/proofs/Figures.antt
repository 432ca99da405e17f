-- The bounds of a table are what they should be. Assumes nothing.
use Rattle.std.proofs.Common.{◌≡◌, ℕ, zero, suc, ◌+◌, ◌-◌, ◌*◌, ◌/◌, ◌<◌, ◌≤◌, Bool, true, false, cond, not, ◌&&◌, ◌||◌, eqb, leb, is_some as option_is_some, Some, None, Option, sym, refl, ap, ◌∙◌, ap₂, inl, inr, arith}
use mathlib.Core.Path.{fun_ext}
use Rattle.std.proofs.lemmas.Bool.{cases_lt, cases_Bool, both_ways, and_parts, and_from, or_cases, or_left, or_right, not-true, not_from_false, cond-true, cond-false, eq-eqb, ne_eqb, le-leb, leb-true}
use Rattle.timing.specs.Counts.{sum_to, ceil_div}
use Rattle.timing.specs.Model.{Table, Flow, Lawful, within, figure, alone, jitter, share, delay, demand}
use Rattle.timing.specs.Staircase.{Least, climb, rounds, Searched}
use Rattle.timing.specs.Figures.{base, settled, searched, figure_of, bounds_to, bound_of, rounds_of, Exact, FiguresExact}
use Rattle.timing.proofs.Sums.{sum_eq, every_true, every_eq, every_from}
use Rattle.timing.proofs.Options.{cases_option}
use Rattle.timing.proofs.Staircase.{search_finds, demand_rises}

is_some : (o : Option ℕ) → option_is_some o ≡ true → (y : ℕ) × (o ≡ Some y)
is_some None e = absurd (both_ways false refl e)
is_some (Some y) e = (y, refl)

some_is : (o : Option ℕ) (y : ℕ) → o ≡ Some y → option_is_some o ≡ true
some_is o y e = ap (λ (p : Option ℕ). option_is_some p) e

module _ (b : Table) where
  -- the equation of a flow asks only for the bounds of the flows before it
  module _ (R R' : ℕ → Option ℕ) (i : ℕ) (same : (h : ℕ) → h < i → R h ≡ R' h) where
    demand_same : demand b R i ≡ demand b R' i
    unfolding demand delay jitter
    demand_same =
        fun_ext
        (λ x. ap (λ (n : ℕ). (b.S - b.e i) + b.S + alone b i + n)
        (sum_eq i (delay b R i x) (delay b R' i x)
        (λ h lt.
        ap (λ (o : Option ℕ). cond (b.H h i) (ceil_div (x + cond (within b h i) 0 (figure o - alone b h - b.S + b.pause)) (b.T h) * b.w h * b.S) 0)
        (same h lt))))

    settled_same : settled b R i ≡ settled b R' i
    unfolding settled
    settled_same =
        every_eq i (λ h. not (b.H h i) || option_is_some (R h)) (λ h. not (b.H h i) || option_is_some (R' h))
        (λ h lt. ap (λ (o : Option ℕ). not (b.H h i) || option_is_some o) (same h lt))

    figure_same : figure_of b R i ≡ figure_of b R' i
    unfolding figure_of searched
    figure_same =
        ap₂ (λ (t : Bool) (f : ℕ → ℕ). cond (((leb 1 i && leb i b.z) && t) && leb (base b i) (b.D i)) (climb f (b.D i) (suc (b.D i)) (base b i)) None)
        settled_same demand_same

  bounds_at : (i : ℕ) → bound_of b i ≡ figure_of b (bounds_to b i) i
  unfolding bound_of bounds_to
  bounds_at i = cond-true (eqb i i) (figure_of b (bounds_to b i) i) (bounds_to b i i) (eq-eqb i i refl)

  bounds_below : (n h : ℕ) → h < n → bounds_to b n h ≡ bound_of b h
  unfolding bound_of bounds_to
  bounds_below zero h lt = absurd (omega arith)
  bounds_below (suc n) h lt =
      elim (cases_lt h n) [
        | inl less ↦
            cond-false (eqb h n) (figure_of b (bounds_to b n) n) (bounds_to b n h) (ne_eqb h n (λ e. omega arith)) ∙ bounds_below n h less
        | inr more ↦
            let same : n ≡ h = omega arith in
            ap (λ (k : ℕ). bounds_to b (suc k) h) same
      ]

  pub bound_is : (i : ℕ) → bound_of b i ≡ figure_of b (bound_of b) i
  bound_is i = bounds_at i ∙ figure_same (bounds_to b i) (bound_of b) i (bounds_below i)

module _ (b : Table) (law : Lawful b) (i : ℕ) where
  abbrev F : ℕ → ℕ
  F = demand b (bound_of b) i

  -- what a search rests on
  record Basis : Type 0 where
    flow : Flow b i
    above : (h : ℕ) → b.H h i ≡ true → (y : ℕ) × (bound_of b h ≡ Some y)
    low : base b i ≤ b.D i

  basis : searched b (bound_of b) i ≡ true → Basis
  unfolding searched settled
  basis e =
      let p = and_parts ((leb 1 i && leb i b.z) && settled b (bound_of b) i) (leb (base b i) (b.D i)) e in
      let q = and_parts (leb 1 i && leb i b.z) (settled b (bound_of b) i) p.0 in
      let r = and_parts (leb 1 i) (leb i b.z) q.0 in
      record {
        flow = record { from = leb-true 1 i r.0; upto = leb-true i b.z r.1 };
        above = λ h hi.
            elim (or_cases (not (b.H h i)) (option_is_some (bound_of b h)) (every_true i h (λ g. not (b.H g i) || option_is_some (bound_of b g)) q.1 (law.higher h i hi).1)) [
              | inl no-share ↦ absurd (both_ways (b.H h i) (not-true (b.H h i) no-share) hi)
              | inr some-bound ↦ is_some (bound_of b h) some-bound
            ];
        low = leb-true (base b i) (b.D i) p.1;
      }

  from_basis : Basis → searched b (bound_of b) i ≡ true
  unfolding searched settled
  from_basis q =
      and_from ((leb 1 i && leb i b.z) && settled b (bound_of b) i) (leb (base b i) (b.D i))
      (and_from (leb 1 i && leb i b.z) (settled b (bound_of b) i)
      (and_from (leb 1 i) (leb i b.z) (le-leb 1 i q.flow.from) (le-leb i b.z q.flow.upto))
      (every_from i (λ h. not (b.H h i) || option_is_some (bound_of b h))
      (λ h lt.
      elim (cases_Bool (b.H h i)) [
        | inl yes-share ↦ let r = q.above h yes-share in or_right (not (b.H h i)) (option_is_some (bound_of b h)) (some_is (bound_of b h) r.0 r.1)
        | inr no-share ↦ or_left (not (b.H h i)) (option_is_some (bound_of b h)) (not_from_false (b.H h i) no-share)
      ])))
      (le-leb (base b i) (b.D i) q.low)

  searching : Basis → Searched F b.S (base b i) (b.D i)
  unfolding base
  searching q =
      let r = demand_rises b law (bound_of b) i q.flow in
      search_finds F b.S (base b i) (b.D i) law.slot r.0 (λ x. (sum_to i (share b (bound_of b) i x), r.1 x)) q.low

  bound_found : (x : ℕ) → bound_of b i ≡ Some x → Basis × Least F (b.D i) x
  unfolding figure_of
  bound_found x e =
      let at = sym (bound_is b i) ∙ e in
      elim (cases_Bool (searched b (bound_of b) i)) [
        | inl yes-searched ↦
            let q = basis yes-searched in
            (q, (searching q).found x (sym (cond-true (searched b (bound_of b) i) (climb F (b.D i) (suc (b.D i)) (base b i)) None yes-searched) ∙ at))
        | inr not-searched ↦
            let none = cond-false (searched b (bound_of b) i) (climb F (b.D i) (suc (b.D i)) (base b i)) None not-searched in cc
      ]

  -- where a search is made the bound is its answer
  answer : searched b (bound_of b) i ≡ true → bound_of b i ≡ climb F (b.D i) (suc (b.D i)) (base b i)
  unfolding figure_of
  answer e = bound_is b i ∙ cond-true (searched b (bound_of b) i) (climb F (b.D i) (suc (b.D i)) (base b i)) None e

  bounded :
      Flow b i → (x : ℕ) → ((h : ℕ) → b.H h i ≡ true → (y : ℕ) × (bound_of b h ≡ Some y)) → F x ≡ x → x ≤ b.D i → (y : ℕ) × (bound_of b i ≡ Some y)
  unfolding base
  bounded flow x above e le =
      let q : Basis = record { flow = flow; above = above; low = omega (arith, (demand_rises b law (bound_of b) i flow).1 x) } in
      let at = answer (from_basis q) in
      elim (cases_option (bound_of b i)) [
        | inl none ↦ absurd (omega (arith, (searching q).none (sym at ∙ none) x e))
        | inr some ↦ some
      ]

  few_rounds : rounds_of b i ≤ (b.D i - base b i) / b.S + 1
  unfolding rounds_of
  few_rounds =
      let n = rounds F (b.D i) (suc (b.D i)) (base b i) in
      elim (cases_Bool (searched b (bound_of b) i)) [
        | inl yes-searched ↦ omega (arith, cond-true (searched b (bound_of b) i) n 0 yes-searched, (searching (basis yes-searched)).few)
        | inr not-searched ↦ omega (arith, cond-false (searched b (bound_of b) i) n 0 not-searched)
      ]

  exact : Flow b i → Exact b i
  exact flow =
      record {
        above = λ x h e hi. (bound_found x e).0.above h hi;
        least = λ x e. (bound_found x e).1;
        bounded = bounded flow;
        few = few_rounds;
      }

pub figures_are : FiguresExact
figures_are b law = (
  exact b law,
  λ i x e.
      let q = bound_found b law i x e in
      record { flow = q.0.flow; due = q.1.within; higher = q.0.above; solves = sym q.1.solves },
)
