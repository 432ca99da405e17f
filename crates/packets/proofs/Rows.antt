-- What a run keeps of its flows tells of the ledger. Assumes nothing.
use Rattle.std.proofs.Common.{◌≡◌, ℕ, suc, ◌+◌, ◌<◌, Bool, eqb, ltb, List, [], ◌∷◌, get_or, sym, refl, ap, ◌∙◌, inl, inr, arith}
use Rattle.std.proofs.lemmas.Bool.{cases_eq, cond-true, cond-false, eq-eqb, ne_eqb}
use Rattle.timing.specs.Counts.{one}
use Rattle.timing.specs.Model.{Table, Lawful}
use Rattle.packets.specs.Runs.{waiting, before, left}
use Rattle.packets.specs.Calls.{Call, release, inject, slot_of, Packet, wants, granted, counted, ledger, left_of, made_of, place_of, Accepted, RowsTell}
use Rattle.packets.proofs.Flows.{left_some_of}
use Rattle.packets.proofs.Arbiter.{granted_same}
use Rattle.packets.proofs.Slots.{winners, winners_from}
use Rattle.packets.proofs.Steps.{left_start, left_own, left_other, left_inject, made_release, made_inject, place_own, place_other, place_inject, new_of, ledger_length, packet_new, packet_kept, packet_counted, counted_flow}
use Rattle.packets.proofs.Logs.{rel_of, rel_here, rel_there, rel_past}
use Rattle.packets.proofs.Ledger.{Wait, link, wants_are, left_kept, wait_next, none_here, count_open}

module _ (b : Table) (law : Lawful b) where
  -- the parts left are those that wait in the run of the calls
  pub left_waits : (l : List Call) → Accepted b l → (i : ℕ) → left_of b l i ≡ Wait b (rel_of l) (slot_of l) i
  unfolding rel_of slot_of left_of
  left_waits [] ok i = unfold left before waiting in refl
  left_waits (release j t ∷ l) ok i =
      let n = slot_of l in
      let none = none_here b (rel_of l) n j (ledger b l) (link b law l ok.1) (law.parts j ok.0.flow) ok.0.free in
      elim (cases_eq i j) [
        | inl same ↦
            cond-true (eqb i j) (b.w i) (left_of b l i) (eq-eqb i j same)
            ∙ sym (left_some_of b (rel_of (release j t ∷ l)) (winners b (rel_of (release j t ∷ l))) n i t (ap (rel_of (release j t ∷ l) n) same ∙ rel_here l j t))
        | inr ne ↦
            cond-false (eqb i j) (b.w i) (left_of b l i) (ne_eqb i j ne) ∙ left_waits l ok.1 i
            ∙ sym (left_kept b (rel_of l) (rel_of (release j t ∷ l)) n j t (rel_there l j t) (rel_here l j t) none i ne)
      ]
  left_waits (inject ∷ l) ok i =
      let n = slot_of l in
      let old = left_waits l ok i in
      let won = winners_from b (rel_of l) n (λ k. ltb 0 (left_of b l k)) (λ k. ap (λ (r : ℕ). ltb 0 r) (left_waits l ok k)) i in
      omega (arith, wait_next b (rel_of l) n (λ k. rel_past l (suc n) k (omega arith)) i, ap one won)

  -- a flow wants exactly when parts of it are left
  pub wanting : (l : List Call) → Accepted b l → (i : ℕ) → wants b (ledger b l) i ≡ ltb 0 (left_of b l i)
  wanting l ok i = wants_are b (rel_of l) (slot_of l) (ledger b l) (link b law l ok) i ∙ ap (λ (r : ℕ). ltb 0 r) (sym (left_waits l ok i))

  -- where the open packet stands
  record At (l : List Call) (i : ℕ) : Type 0 where
    place : place_of l i < made_of l
    flow : (d : Packet) → (get_or (ledger b l) (place_of l i) d).flow ≡ i
    left : (d : Packet) → left_of b l i + (get_or (ledger b l) (place_of l i) d).grants ≡ b.w i

  stands : (l : List Call) → Accepted b l → (i : ℕ) → 0 < left_of b l i → At l i
  stands [] ok i pos = absurd (omega (arith, left_start b i))
  stands (release j t ∷ l) ok i pos =
      let made = made_release l j t in
      elim (cases_eq i j) [
        | inl same ↦
            let k = place_own l j t i same in
            let here : (d : Packet) → get_or (ledger b (release j t ∷ l)) (place_of (release j t ∷ l) i) d ≡ new_of l j t =
            λ d. ap (λ (n : ℕ). get_or (ledger b (release j t ∷ l)) n d) k ∙ packet_new b l j t d
            in
            record {
              place = omega arith;
              flow = λ d. ap (λ (q : Packet). q.flow) (here d) ∙ sym same;
              left = λ d. omega (arith, left_own b l j t i same, ap (λ (q : Packet). q.grants) (here d));
            }
        | inr ne ↦
            let k = place_other l j t i ne in
            let r = left_other b l j t i ne in
            let old = stands l ok.1 i (omega arith) in
            let there : (d : Packet) → get_or (ledger b (release j t ∷ l)) (place_of (release j t ∷ l) i) d ≡ get_or (ledger b l) (place_of l i) d =
            λ d. ap (λ (n : ℕ). get_or (ledger b (release j t ∷ l)) n d) k ∙ packet_kept b l j t (place_of l i) d old.place
            in
            record {
              place = omega (arith, old.place);
              flow = λ d. ap (λ (q : Packet). q.flow) (there d) ∙ old.flow d;
              left = λ d. omega (arith, ap (λ (q : Packet). q.grants) (there d), old.left d);
            }
      ]
  stands (inject ∷ l) ok i pos =
      let won : ℕ → Bool = granted b (wants b (ledger b l)) in
      let less = left_inject b l i in
      let k = place_inject l i in
      let old = stands l ok i (omega arith) in
      let same : won i ≡ granted b (λ k. ltb 0 (left_of b l k)) i = granted_same b (wants b (ledger b l)) (λ k. ltb 0 (left_of b l k)) (wanting l ok) i in
      let there : (d : Packet) → get_or (ledger b (inject ∷ l)) (place_of (inject ∷ l) i) d ≡ counted b won (get_or (ledger b l) (place_of l i) d) =
      λ d. ap (λ (n : ℕ). get_or (ledger b (inject ∷ l)) n d) k ∙ packet_counted b l (place_of l i) d old.place
      in
      record {
        place = omega (arith, old.place, made_inject l);
        flow = λ d. ap (λ (q : Packet). q.flow) (there d) ∙ counted_flow b won (get_or (ledger b l) (place_of l i) d) ∙ old.flow d;
        left = λ d.
            let q = get_or (ledger b l) (place_of l i) d in
            let own : b.w q.flow ≡ b.w i = ap b.w (old.flow d) in
            let few : q.grants < b.w q.flow = omega (arith, old.left d) in
            omega
            (arith, ap (λ (x : Packet). x.grants) (there d), (count_open b won q few).0, ap (λ (n : ℕ). one (won n)) (old.flow d), ap one same, old.left d);
      }

pub rows_tell : RowsTell
rows_tell b law l ok i =
    record {
      count = ledger_length b l;
      wanting = wanting b law l ok i;
      place = λ pos. (stands b law l ok i pos).place;
      flow = λ pos. (stands b law l ok i pos).flow;
      left = λ pos. (stands b law l ok i pos).left;
    }
