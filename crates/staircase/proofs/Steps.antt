-- One evaluation after the other of the search for a least solution. Assumes nothing.
use Rattle.std.proofs.Common.{◌≡◌, ℕ, suc, ◌+◌, ◌-◌, ◌<◌, ◌≤◌, Bool, true, false, cond, leb, Some, None, Option, sym, refl, ap, ◌∙◌, subst, ap₂, inl, inr, arith}
use Rattle.std.proofs.lemmas.Bool.{cond-true, le-leb, leb-true, leb-false}
use Rattle.staircase.specs.declared.search.Climb.{Climb}
use Rattle.staircase.specs.Climbs.{climbed, Settles}
use Rattle.timing.specs.Staircase.{Rising, climb, rounds}
use Rattle.timing.proofs.Staircase.{climb_here, climb_past, climb_on, rounds_stop, rounds_on, found, missed}

-- after n evaluations, the next being at x: as many as can still come give the rest of the answer
pub record Climbing (f : ℕ → ℕ) (a D n x : ℕ) : Type 0 where
  pub low : x ≤ D
  pub up : x ≤ f x
  pub few : n ≤ x
  pub answer : climb f D (suc D) a ≡ climb f D (suc D - n) x
  pub count : rounds f D (suc D) a ≡ n + rounds f D (suc D - n) x

module _ (f : ℕ → ℕ) (a D : ℕ) where
  pub begins : a ≤ f a → a ≤ D → Climbing f a D 0 a
  begins up low =
      let all : suc D - 0 ≡ suc D = omega arith in
      record { low = low; up = up; few = omega arith; answer = ap (λ k. climb f D k a) (sym all); count = omega (arith, ap (λ k. rounds f D k a) all) }

  -- the evaluations that can still come are more than none
  more : (n x : ℕ) → Climbing f a D n x → suc D - n ≡ suc (D - n)
  more n x at = omega (arith, at.few, at.low)

  pub goes_on : Rising f → (n x y : ℕ) → Climbing f a D n x → y ≡ f x → (y ≡ x → ⊥) → y ≤ D → Climbing f a D (n + 1) y
  goes_on rising n x y at is ne le =
      let left : suc D - (n + 1) ≡ D - n = omega arith in
      let up : x ≤ f x = at.up in
      let on : f x ≤ D = omega arith in
      let differs : f x ≡ x → ⊥ = λ e. ne (is ∙ e) in
      let few : n ≤ x = at.few in
      let strict : x < f x = less x (f x) up differs in
      record {
        low = le;
        up = subst (λ (t : ℕ). t ≤ f t) (sym is) (rising x (f x) up);
        few = omega arith;
        answer = at.answer ∙ ap (λ k. climb f D k x) (more n x at) ∙ climb_on f D (D - n) x differs on ∙ ap₂ (climb f D) (sym left) (sym is);
        count =
            let old = at.count ∙ ap (λ k. n + rounds f D k x) (more n x at) in
            let step = rounds_on f D (D - n) x differs on in
            let same = ap₂ (rounds f D) (sym left) (sym is) in
            omega arith;
      }
    where
      less : (u v : ℕ) → u ≤ v → (v ≡ u → ⊥) → u < v
      less u v h ne = omega arith

  -- the whole answer, where the search is made
  made : a ≤ D → (o : Option ℕ) (n : ℕ) → climb f D (suc D) a ≡ o → rounds f D (suc D) a ≡ n → record { least = o; rounds = n } ≡ climbed f a D
  made low o n e r =
      sym (cond-true (leb a D) (record { least = climb f D (suc D) a; rounds = rounds f D (suc D) a }) (record { least = None; rounds = 0 }) (le-leb a D low) ∙ both)
    where
      both : ◌≡◌ {A = Climb} (record { least = climb f D (suc D) a; rounds = rounds f D (suc D) a }) (record { least = o; rounds = n })
      both = λ i. record { least = e i; rounds = r i }

  pub ends_here : a ≤ D → (n x : ℕ) → Climbing f a D n x → f x ≡ x → record { least = Some x; rounds = n + 1 } ≡ climbed f a D
  ends_here low n x at e =
      made low (Some x) (n + 1) (at.answer ∙ ap (λ k. climb f D k x) (more n x at) ∙ climb_here f D (D - n) x e)
      (at.count ∙ ap (λ k. n + rounds f D k x) (more n x at) ∙ ap (λ k. n + k) (rounds_stop f D (D - n) x (inl e)))

  pub ends_past : a ≤ D → (n x : ℕ) → Climbing f a D n x → D < f x → record { least = None; rounds = n + 1 } ≡ climbed f a D
  ends_past low n x at past =
      let le : x ≤ D = at.low in
      let differs : f x ≡ x → ⊥ = λ e. omega arith in
      made low None (n + 1) (at.answer ∙ ap (λ k. climb f D k x) (more n x at) ∙ climb_past f D (D - n) x differs past)
      (at.count ∙ ap (λ k. n + rounds f D k x) (more n x at) ∙ ap (λ k. n + k) (rounds_stop f D (D - n) x (inr past)))

  module _ (rising : Rising f) (ground : (x : ℕ) → a ≤ f x) where
    -- a solution is no lower than the ground
    low_solutions : (y : ℕ) → f y ≡ y → a ≤ y
    low_solutions y s = omega (arith, ground y)

    settles : a ≤ D → (o : Option ℕ) → climb f D (suc D) a ≡ o → Settles f D o
    settles low (Some x) e = found f D rising (suc D) a low low_solutions x e
    settles low None e = missed f D rising (suc D) a (ground a) (omega arith) low_solutions e

    -- what the answer's definition says of solutions
    settled_by : (t : Bool) → leb a D ≡ t → Settles f D (cond {A = Climb} t (record { least = climb f D (suc D) a; rounds = rounds f D (suc D) a }) (record { least = None; rounds = 0 })).least
    settled_by true e = settles (leb-true a D e) (climb f D (suc D) a) refl
    settled_by false e = λ y s. omega (arith, leb-false a D e, low_solutions y s)

    pub settled : (c : Climb) → c ≡ climbed f a D → Settles f D c.least
    settled c e = subst (λ (o : Option ℕ). Settles f D o) (sym (ap (λ (k : Climb). k.least) e)) (settled_by (leb a D) refl)
