-- A flow has at most one open packet, so a slot's grants and denials can be written one flow at a time. Assumes nothing.
use Rattle.std.proofs.Common.{◌≡◌, ℕ, zero, suc, ◌<◌, ◌≤◌, Bool, true, false, cond, ltb, List, [], ◌∷◌, ◌++◌, map, length, get_or, set, sym, refl, ◌∙◌, subst, ap₂, inl, inr, arith}
use Rattle.std.proofs.lemmas.Bool.{cases_lt, both_ways, cond-true, cond-false, lt-ltb, le-ltb}
use Rattle.std.specs.List.{AllByRecursion}
use Rattle.timing.specs.Model.{Table}
use Rattle.packets.specs.Calls.{Call, release, inject, slot_of, Packet, wants, granted, counted, ledger, Accepted}
use Rattle.packets.proofs.Steps.{counted_flow}
use Rattle.packets.proofs.Ledger.{wants_cases, wants_here, wants_there, wants_rest, wants_none, count_done}

module _ (b : Table) where
  -- no two open packets are of one flow
  abbrev pub Single : List Packet → Type 0
  Single [] = Unit {0}
  Single (p ∷ ps) = (p.grants < b.w p.flow → wants b ps p.flow ≡ false) × Single ps

  false_from : (t : Bool) → (t ≡ true → ⊥) → t ≡ false
  false_from true no_way = absurd (no_way refl)
  false_from false no_way = refl

  pub wants_new : (q : Packet) (i : ℕ) → (i ≡ q.flow → ⊥) → (ps : List Packet) → wants b (ps ++ (q ∷ [])) i ≡ true → wants b ps i ≡ true
  wants_new q i ne [] e =
      elim (wants_cases b q [] i e) [
        | inl here ↦ absurd (ne here.0)
        | inr there ↦ there
      ]
  wants_new q i ne (p ∷ ps) e =
      elim (wants_cases b p (ps ++ (q ∷ [])) i e) [
        | inl here ↦ wants_here b p ps i here.0 here.1
        | inr there ↦ wants_there b p ps i (wants_new q i ne ps there)
      ]

  single_push : (q : Packet) (ps : List Packet) → wants b ps q.flow ≡ false → Single ps → Single (ps ++ (q ∷ []))
  single_push q [] free s = (λ few. wants_none b q.flow, tt)
  single_push q (p ∷ ps) free s = (
    λ few.
        false_from (wants b (ps ++ (q ∷ [])) p.flow)
        (λ e.
        both_ways (wants b ps p.flow) (s.0 few)
        (wants_new q p.flow (λ same. both_ways (wants b (p ∷ ps) q.flow) free (wants_here b p ps q.flow (sym same) few)) ps e)),
    single_push q ps (wants_rest b p ps q.flow free) s.1,
  )

  -- a packet that is open after a slot was so before it
  pub was_open : (won : ℕ → Bool) (p : Packet) → (counted b won p).grants < b.w (counted b won p).flow → p.grants < b.w p.flow
  unfolding counted
  was_open won p lt = omega arith

  pub wants_counted : (won : ℕ → Bool) (i : ℕ) (ps : List Packet) → wants b (map (counted b won) ps) i ≡ true → wants b ps i ≡ true
  wants_counted won i [] e = e
  wants_counted won i (p ∷ ps) e =
      elim (wants_cases b (counted b won p) (map (counted b won) ps) i e) [
        | inl here ↦ wants_here b p ps i (here.0 ∙ counted_flow b won p) (was_open won p here.1)
        | inr there ↦ wants_there b p ps i (wants_counted won i ps there)
      ]

  single_counted : (won : ℕ → Bool) (ps : List Packet) → Single ps → Single (map (counted b won) ps)
  unfolding counted
  single_counted won [] s = tt
  single_counted won (p ∷ ps) s = (
    λ few.
        false_from (wants b (map (counted b won) ps) p.flow)
        (λ e. both_ways (wants b ps p.flow) (s.0 (was_open won p few)) (wants_counted won p.flow ps e)),
    single_counted won ps s.1,
  )

  pub single : (l : List Call) → Accepted b l → Single (ledger b l)
  unfolding ledger
  single [] ok = tt
  single (release i t ∷ l) ok =
      single_push (record { flow = i; time = t; first = slot_of l; grants = 0; denials = 0 }) (ledger b l) ok.0.free (single l ok.1)
  single (inject ∷ l) ok = single_counted (granted b (wants b (ledger b l))) (ledger b l) (single l ok)

  -- the packets once the flows below n are written
  unfoldable pub upto : (ℕ → Bool) → ℕ → Packet → Packet
  upto won n p = cond (ltb p.flow n) (counted b won p) p

  upto_below : (won : ℕ → Bool) (n : ℕ) (p : Packet) → p.flow < n → upto won n p ≡ counted b won p
  unfolding upto
  upto_below won n p lt = cond-true (ltb p.flow n) (counted b won p) p (lt-ltb p.flow n lt)

  upto_above : (won : ℕ → Bool) (n : ℕ) (p : Packet) → n ≤ p.flow → upto won n p ≡ p
  unfolding upto
  upto_above won n p le = cond-false (ltb p.flow n) (counted b won p) p (le-ltb p.flow n le)

  remade : (p q : Packet) → q.flow ≡ p.flow → q.time ≡ p.time → q.first ≡ p.first → q.grants ≡ p.grants → q.denials ≡ p.denials → q ≡ p
  remade p q e₁ e₂ e₃ e₄ e₅ = λ i. record { flow = e₁ i; time = e₂ i; first = e₃ i; grants = e₄ i; denials = e₅ i }

  -- a packet that is not open stays
  pub closed_stays : (won : ℕ → Bool) (p : Packet) → b.w p.flow ≤ p.grants → counted b won p ≡ p
  closed_stays won p done =
      let e = count_done b won p done in
      let plain : ((counted b won p).flow ≡ p.flow) × ((counted b won p).time ≡ p.time) × ((counted b won p).first ≡ p.first) =
      unfold counted in (refl, refl, refl)
      in
      remade p (counted b won p) plain.0 plain.1 plain.2 e.0 e.1

  -- a packet that is not an open one of flow n is not written with flow n
  upto_same : (won : ℕ → Bool) (n : ℕ) (p : Packet) → (n ≡ p.flow → p.grants < b.w p.flow → ⊥) → upto won (suc n) p ≡ upto won n p
  upto_same won n p other =
      elim (cases_lt p.flow n) [
        | inl below ↦ upto_below won (suc n) p (omega arith) ∙ sym (upto_below won n p below)
        | inr from ↦
            elim (cases_lt n p.flow) [
              | inl above ↦ upto_above won (suc n) p above ∙ sym (upto_above won n p from)
              | inr upper ↦
                  let same : n ≡ p.flow = omega arith in
                  elim (cases_lt p.grants (b.w p.flow)) [
                    | inl few ↦ absurd (other same few)
                    | inr done ↦ upto_below won (suc n) p (omega arith) ∙ closed_stays won p done ∙ sym (upto_above won n p from)
                  ]
            ]
      ]

  pub upto_none : (won : ℕ → Bool) (ps : List Packet) → map (upto won 0) ps ≡ ps
  upto_none won [] = refl
  upto_none won (p ∷ ps) = ap₂ ◌∷◌ (upto_above won 0 p (omega arith)) (upto_none won ps)

  pub upto_all : (won : ℕ → Bool) (n : ℕ) (ps : List Packet) → AllByRecursion (λ p. p.flow < n) ps → map (upto won n) ps ≡ map (counted b won) ps
  upto_all won n [] all = refl
  upto_all won n (p ∷ ps) all = ap₂ ◌∷◌ (upto_below won n p all.0) (upto_all won n ps all.1)

  -- flow n has no open packet: nothing is written
  pub upto_skip : (won : ℕ → Bool) (n : ℕ) (ps : List Packet) → wants b ps n ≡ false → map (upto won (suc n)) ps ≡ map (upto won n) ps
  upto_skip won n [] free = refl
  upto_skip won n (p ∷ ps) free =
      ap₂ ◌∷◌ (upto_same won n p (λ same few. both_ways (wants b (p ∷ ps) n) free (wants_here b p ps n same few)))
      (upto_skip won n ps (wants_rest b p ps n free))

  -- a flow with an open packet at place k wants
  pub wants_at : (d : Packet) (n : ℕ) (ps : List Packet) (k : ℕ) → k < length ps → n ≡ (get_or ps k d).flow → (get_or ps k d).grants < b.w (get_or ps k d).flow → wants b ps n ≡ true
  wants_at d n [] k lt at few = absurd (omega arith)
  wants_at d n (p ∷ ps) zero lt at few = wants_here b p ps n at few
  wants_at d n (p ∷ ps) (suc k) lt at few = wants_there b p ps n (wants_at d n ps k (omega arith) at few)

  -- flow n's open packet stands at place k: that place alone is written
  pub upto_set :
      (won : ℕ → Bool) (d : Packet) (n : ℕ) (ps : List Packet) (k : ℕ) → Single ps → k < length ps → n ≡ (get_or ps k d).flow →
      (get_or ps k d).grants < b.w (get_or ps k d).flow → map (upto won (suc n)) ps ≡ set (map (upto won n) ps) k (counted b won (get_or ps k d))
  upto_set won d n [] k s lt at few = absurd (omega arith)
  upto_set won d n (p ∷ ps) zero s lt at few =
      ap₂ ◌∷◌ (upto_below won (suc n) p (omega arith)) (upto_skip won n ps (subst (λ (i : ℕ). wants b ps i ≡ false) (sym at) (s.0 few)))
  upto_set won d n (p ∷ ps) (suc k) s lt at few =
      ap₂ ◌∷◌
      (upto_same won n p
      (λ same own.
      both_ways (wants b ps n) (subst (λ (i : ℕ). wants b ps i ≡ false) (sym same) (s.0 own)) (wants_at d n ps k (omega arith) at few)))
      (upto_set won d n ps k s.1 (omega arith) at few)
