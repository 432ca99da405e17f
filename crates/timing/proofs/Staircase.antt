-- The search for a least solution, and the staircases of a table. Assumes nothing.
use Rattle.std.proofs.Common.{◌≡◌, ℕ, zero, suc, ◌+◌, ◌-◌, ◌*◌, ◌/◌, ◌<◌, ◌≤◌, cond, ◌||◌, eqb, ltb, ◌⊎◌, Some, None, Option, sym, refl, ap, ◌∙◌, subst, inl, inr, mul-le-mul_right, suc-mul, lt_of_mul-lt-mul_right, le-div_iff_mul-le, zero-mul, arith}
use Rattle.std.proofs.lemmas.Bool.{cases_lt, cases_Bool, cases_eq, or_left, or_right, or_from, cond-true, cond-false, eq-eqb, ne_eqb, lt-ltb, le-ltb}
use Rattle.timing.specs.Counts.{sum_to, ceil_div}
use Rattle.timing.specs.Model.{Table, Flow, Lawful, alone, jitter, share, demand}
use Rattle.timing.specs.Staircase.{Rising, Least, climb, rounds, SearchFinds, DemandRises}
use Rattle.timing.proofs.Ceil.{ceil_mono}
use Rattle.timing.proofs.Sums.{sum_le}
use Rattle.timing.proofs.Equation.{delays}

module _ (f : ℕ → ℕ) (D : ℕ) where
  -- the three ways of one evaluation
  pub climb_here : (k x : ℕ) → f x ≡ x → climb f D (suc k) x ≡ Some x
  unfolding climb
  climb_here k x e = cond-true (eqb (f x) x) (Some x) (cond (ltb D (f x)) None (climb f D k (f x))) (eq-eqb (f x) x e)

  pub climb_past : (k x : ℕ) → (f x ≡ x → ⊥) → D < f x → climb f D (suc k) x ≡ None
  unfolding climb
  climb_past k x ne lt =
      cond-false (eqb (f x) x) (Some x) (cond (ltb D (f x)) None (climb f D k (f x))) (ne_eqb (f x) x ne)
      ∙ cond-true (ltb D (f x)) None (climb f D k (f x)) (lt-ltb D (f x) lt)

  pub climb_on : (k x : ℕ) → (f x ≡ x → ⊥) → f x ≤ D → climb f D (suc k) x ≡ climb f D k (f x)
  unfolding climb
  climb_on k x ne le =
      cond-false (eqb (f x) x) (Some x) (cond (ltb D (f x)) None (climb f D k (f x))) (ne_eqb (f x) x ne)
      ∙ cond-false (ltb D (f x)) None (climb f D k (f x)) (le-ltb D (f x) le)

  climb_none : (x : ℕ) → climb f D 0 x ≡ None
  unfolding climb
  climb_none x = refl

  pub rounds_stop : (k x : ℕ) → (f x ≡ x) ⊎ (D < f x) → rounds f D (suc k) x ≡ 1
  unfolding rounds
  rounds_stop k x stop =
      ap suc
      (cond-true (eqb (f x) x || ltb D (f x)) 0 (rounds f D k (f x))
      (elim stop [
        | inl e ↦ or_left (eqb (f x) x) (ltb D (f x)) (eq-eqb (f x) x e)
        | inr lt ↦ or_right (eqb (f x) x) (ltb D (f x)) (lt-ltb D (f x) lt)
      ]))

  pub rounds_on : (k x : ℕ) → (f x ≡ x → ⊥) → f x ≤ D → rounds f D (suc k) x ≡ suc (rounds f D k (f x))
  unfolding rounds
  rounds_on k x ne le =
      ap suc
      (cond-false (eqb (f x) x || ltb D (f x)) 0 (rounds f D k (f x))
      (or_from (eqb (f x) x) (ltb D (f x)) (ne_eqb (f x) x ne) (le-ltb D (f x) le)))

  module _ (rising : Rising f) where
    -- nothing below x solves
    pub found : (k x : ℕ) → x ≤ D → ((y : ℕ) → f y ≡ y → x ≤ y) → (r : ℕ) → climb f D k x ≡ Some r → Least f D r
    found zero x le low r e = let none = climb_none x in cc
    found (suc k) x le low r e =
        elim (cases_eq (f x) x) [
          | inl same ↦
              let here = climb_here k x same in
              let at : x ≡ r = cc in
              subst (Least f D) at (record { solves = same; within = le; least = low })
          | inr ne ↦
              elim (cases_lt D (f x)) [
                | inl past ↦ let none = climb_past k x ne past in cc
                | inr on ↦ found k (f x) on (λ y s. omega (arith, rising x y (low y s))) r (sym (climb_on k x ne on) ∙ e)
              ]
        ]

    -- k evaluations are enough from x on
    pub missed : (k x : ℕ) → x ≤ f x → D < x + k → ((y : ℕ) → f y ≡ y → x ≤ y) → climb f D k x ≡ None → (y : ℕ) → f y ≡ y → D < y
    missed zero x up fuel low e y s = omega (arith, low y s)
    missed (suc k) x up fuel low e y s =
        elim (cases_eq (f x) x) [
          | inl same ↦ let here = climb_here k x same in cc
          | inr ne ↦
              let next : f x ≤ y = omega (arith, rising x y (low y s)) in
              elim (cases_lt D (f x)) [
                | inl past ↦ omega arith
                | inr on ↦
                    missed k (f x) (rising x (f x) up) (omega arith) (λ z u. omega (arith, rising x z (low z u))) (sym (climb_on k x ne on) ∙ e) y s
              ]
        ]

    -- each evaluation but the last climbs a step of S
    few :
        (S a : ℕ) → ((x : ℕ) → (q : ℕ) × (f x ≡ a + q * S)) → (k x p : ℕ) → x ≡ a + p * S → x ≤ f x → x ≤ D →
        (r : ℕ) × (rounds f D k x ≤ suc r) × (r * S + x ≤ D)
    few S a steps zero x p at up le = (0, omega (arith, unfolded x), omega arith)
      where
        unfolded : (x : ℕ) → rounds f D 0 x ≡ 0
        unfolded x = unfold rounds in refl
    few S a steps (suc k) x p at up le =
        elim (cases_eq (f x) x) [
          | inl same ↦ (0, omega (arith, rounds_stop k x (inl same)), omega arith)
          | inr ne ↦
              elim (cases_lt D (f x)) [
                | inl past ↦ (0, omega (arith, rounds_stop k x (inr past)), omega arith)
                | inr on ↦
                    let q = steps x in
                    let higher : p < q.0 = lt_of_mul-lt-mul_right S (omega arith) in
                    let old = few S a steps k (f x) q.0 q.1 (rising x (f x) up) on in
                    (suc old.0, omega (arith, rounds_on k x ne on), omega (arith, suc-mul old.0 S, mul-le-mul_right S higher, suc-mul p S))
              ]
        ]

pub search_finds : SearchFinds
search_finds f S a D pos rising steps le =
    let least : (x : ℕ) → a ≤ f x = λ x. omega (arith, (steps x).1) in
    let low : (y : ℕ) → f y ≡ y → a ≤ y = λ y s. omega (arith, least y) in
    record {
      found = found f D rising (suc D) a le low;
      none = missed f D rising (suc D) a (least a) (omega arith) low;
      few =
          let r = few f D rising S a steps (suc D) a 0 (omega (arith, zero-mul S)) (least a) le in
          let fits : r.0 ≤ (D - a) / S = (le-div_iff_mul-le pos).1 (omega arith) in
          omega arith;
    }

module _ (b : Table) (law : Lawful b) (R : ℕ → Option ℕ) (i : ℕ) (is_flow : Flow b i) where
  share_rises : (h x y : ℕ) → x ≤ y → share b R i x h ≤ share b R i y h
  unfolding share
  share_rises h x y le =
      elim (cases_Bool (b.H h i)) [
        | inl yes-share ↦
            let at = law.higher h i yes-share in
            let flow : Flow b h = record { from = at.0; upto = omega (arith, is_flow.upto) } in
            let pos : 0 < b.T h = omega (arith, law.slot, law.spaced h flow) in
            let more = ceil_mono (x + jitter b R h i) (y + jitter b R h i) (b.T h) pos (omega arith) in
            omega (
              arith,
              mul-le-mul_right (b.w h) more,
              cond-true (b.H h i) (ceil_div (x + jitter b R h i) (b.T h) * b.w h) 0 yes-share,
              cond-true (b.H h i) (ceil_div (y + jitter b R h i) (b.T h) * b.w h) 0 yes-share,
            )
        | inr no-share ↦ omega (arith, cond-false (b.H h i) (ceil_div (x + jitter b R h i) (b.T h) * b.w h) 0 no-share)
      ]

  pub shares_rise : (x y : ℕ) → x ≤ y → sum_to i (share b R i x) ≤ sum_to i (share b R i y)
  shares_rise x y le = sum_le i (share b R i x) (share b R i y) (λ h lt. share_rises h x y le)

  pub demand_is : (x : ℕ) → demand b R i x ≡ ((b.S - b.e i) + b.S + alone b i) + sum_to i (share b R i x) * b.S
  unfolding demand
  demand_is x = omega (arith, delays b R i x)

pub demand_rises : DemandRises
demand_rises b law R i flow = (
  λ x y le.
      omega
      (arith, demand_is b law R i flow x, demand_is b law R i flow y, mul-le-mul_right b.S (shares_rise b law R i flow x y le)),
  demand_is b law R i flow,
)
