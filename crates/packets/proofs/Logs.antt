-- The releases of a list of calls, by slot and flow. Assumes nothing.
use Rattle.std.proofs.Common.{◌≡◌, ℕ, ◌+◌, ◌*◌, ◌<◌, ◌≤◌, cond, ◌&&◌, eqb, ◌⊎◌, List, [], ◌∷◌, Some, None, Option, sym, refl, ap, ◌∙◌, subst, inl, inr, arith}
use Rattle.std.proofs.lemmas.Bool.{cases_eq, cases_Bool, and_parts, and_from, cond-true, cond-false, eq-eqb, ne_eqb, eqb-true}
use Rattle.timing.specs.Model.{Table, Flow}
use Rattle.packets.specs.Calls.{Call, release, inject, slot_of, last_of, Accepted}
use Rattle.packets.proofs.Steps.{slot_same, slot_suc}

-- the time of the release of flow i into slot n
unfoldable pub rel_of : List Call → ℕ → ℕ → Option ℕ
rel_of [] n i = None
rel_of (release j t ∷ l) n i = cond (eqb n (slot_of l) && eqb i j) (Some t) (rel_of l n i)
rel_of (inject ∷ l) n i = rel_of l n i

-- the newest release
pub rel_here : (l : List Call) (j t : ℕ) → rel_of (release j t ∷ l) (slot_of l) j ≡ Some t
unfolding rel_of
rel_here l j t =
    cond-true (eqb (slot_of l) (slot_of l) && eqb j j) (Some t) (rel_of l (slot_of l) j)
    (and_from (eqb (slot_of l) (slot_of l)) (eqb j j) (eq-eqb (slot_of l) (slot_of l) refl) (eq-eqb j j refl))

-- the others
pub rel_there : (l : List Call) (j t n i : ℕ) → ((n ≡ slot_of l) × (i ≡ j) → ⊥) → rel_of (release j t ∷ l) n i ≡ rel_of l n i
unfolding rel_of
rel_there l j t n i other =
    elim (cases_Bool (eqb n (slot_of l) && eqb i j)) [
      | inl both ↦
          let p = and_parts (eqb n (slot_of l)) (eqb i j) both in
          absurd (other (eqb-true n (slot_of l) p.0, eqb-true i j p.1))
      | inr one-not ↦ cond-false (eqb n (slot_of l) && eqb i j) (Some t) (rel_of l n i) one-not
    ]

pub rel_cases : (l : List Call) (j t n i u : ℕ) → rel_of (release j t ∷ l) n i ≡ Some u → ((n ≡ slot_of l) × (i ≡ j) × (u ≡ t)) ⊎ (rel_of l n i ≡ Some u)
unfolding rel_of
rel_cases l j t n i u e =
    elim (cases_Bool (eqb n (slot_of l) && eqb i j)) [
      | inl both ↦
          let p = and_parts (eqb n (slot_of l)) (eqb i j) both in
          inl (
            eqb-true n (slot_of l) p.0,
            eqb-true i j p.1,
            cc (cond-true (eqb n (slot_of l) && eqb i j) (Some t) (rel_of l n i) both),
          )
      | inr one-not ↦ inr (sym (cond-false (eqb n (slot_of l) && eqb i j) (Some t) (rel_of l n i) one-not) ∙ e)
    ]

-- nothing is released into a later slot
pub rel_upto : (l : List Call) (n i u : ℕ) → rel_of l n i ≡ Some u → n ≤ slot_of l
unfolding rel_of
rel_upto [] n i u e = cc
rel_upto (release j t ∷ l) n i u e =
    elim (rel_cases l j t n i u e) [
      | inl here ↦ omega (arith, slot_same l j t)
      | inr there ↦ omega (arith, slot_same l j t, rel_upto l n i u there)
    ]
rel_upto (inject ∷ l) n i u e = omega (arith, slot_suc l, rel_upto l n i u e)

pub rel_past : (l : List Call) (n i : ℕ) → slot_of l < n → rel_of l n i ≡ None
rel_past l n i lt = go (rel_of l n i) refl
  where
    go : (o : Option ℕ) → rel_of l n i ≡ o → rel_of l n i ≡ None
    go None e = e
    go (Some u) e = absurd (omega (arith, rel_upto l n i u e))

-- a flow's last release is no earlier than any other
pub rel_last : (b : Table) (l : List Call) → Accepted b l → (n i u : ℕ) → rel_of l n i ≡ Some u → (s : ℕ) × (last_of l i ≡ Some s) × (u ≤ s)
unfolding rel_of last_of
rel_last b [] ok n i u e = cc
rel_last b (release j t ∷ l) ok n i u e =
    elim (cases_eq i j) [
      | inl same ↦
          let last = cond-true (eqb i j) (Some t) (last_of l i) (eq-eqb i j same) in
          elim (rel_cases l j t n i u e) [
            | inl here ↦ (t, last, omega arith)
            | inr there ↦
                let old = rel_last b l ok.1 n i u there in
                (t, last, omega (arith, ok.0.apart old.0 (sym (ap (last_of l) same) ∙ old.1)))
          ]
      | inr other ↦
          elim (rel_cases l j t n i u e) [
            | inl here ↦ absurd (other here.1)
            | inr there ↦
                let old = rel_last b l ok.1 n i u there in
                (old.0, cond-false (eqb i j) (Some t) (last_of l i) (ne_eqb i j other) ∙ old.1, old.2)
          ]
    ]
rel_last b (inject ∷ l) ok n i u e = rel_last b l ok n i u e

-- what a run asks of its releases
pub rel_known : (b : Table) (l : List Call) → Accepted b l → (n i u : ℕ) → rel_of l n i ≡ Some u → Flow b i
unfolding rel_of
rel_known b [] ok n i u e = cc
rel_known b (release j t ∷ l) ok n i u e =
    elim (rel_cases l j t n i u e) [
      | inl here ↦ subst (Flow b) (sym here.1) ok.0.flow
      | inr there ↦ rel_known b l ok.1 n i u there
    ]
rel_known b (inject ∷ l) ok n i u e = rel_known b l ok n i u e

pub rel_on_time :
    (b : Table) (l : List Call) → Accepted b l → (n i u : ℕ) → rel_of l n i ≡ Some u →
    (n * b.S + b.e i ≤ u + b.S) × (u < n * b.S + b.e i)
unfolding rel_of
rel_on_time b [] ok n i u e = cc
rel_on_time b (release j t ∷ l) ok n i u e =
    elim (rel_cases l j t n i u e) [
      | inl here ↦
          let end : b.e i ≡ b.e j = ap b.e here.1 in
          let slot : n * b.S ≡ slot_of l * b.S = ap (λ (k : ℕ). k * b.S) here.0 in
          (omega (arith, ok.0.in_time, here.2), omega (arith, ok.0.not_ahead, here.2))
      | inr there ↦ rel_on_time b l ok.1 n i u there
    ]
rel_on_time b (inject ∷ l) ok n i u e = rel_on_time b l ok n i u e

pub rel_apart :
    (b : Table) (l : List Call) → Accepted b l → (m n i s u : ℕ) → m < n → rel_of l m i ≡ Some s → rel_of l n i ≡ Some u → s + b.T i ≤ u
unfolding rel_of
rel_apart b [] ok m n i s u lt e₁ e₂ = cc
rel_apart b (release j t ∷ l) ok m n i s u lt e₁ e₂ =
    elim (rel_cases l j t n i u e₂) [
      | inl here ↦
          elim (rel_cases l j t m i s e₁) [
            | inl too ↦ absurd (omega arith)
            | inr earlier ↦
                let old = rel_last b l ok.1 m i s earlier in
                let apart = ok.0.apart old.0 (sym (ap (last_of l) here.1) ∙ old.1) in
                omega (arith, ap b.T here.1)
          ]
      | inr there ↦
          elim (rel_cases l j t m i s e₁) [
            | inl late ↦ absurd (omega (arith, rel_upto l n i u there))
            | inr earlier ↦ rel_apart b l ok.1 m n i s u lt earlier there
          ]
    ]
rel_apart b (inject ∷ l) ok m n i s u lt e₁ e₂ = rel_apart b l ok m n i s u lt e₁ e₂
