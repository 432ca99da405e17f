-- An open packet is its flow's newest, and every packet is of a flow of the table. Assumes nothing.
use Rattle.std.proofs.Common.{◌≡◌, ℕ, ◌<◌, Bool, true, ltb, List, [], ◌∷◌, get_or, sym, refl, ap, ◌∙◌, inl, inr, arith}
use Rattle.std.proofs.ByRecursion.{All-get_or}
use Rattle.std.proofs.lemmas.Bool.{cases_lt, both_ways, ltb-true}
use Rattle.timing.specs.Model.{Table, Lawful}
use Rattle.packets.specs.Calls.{Call, release, inject, slot_of, Packet, is_open, wants, granted, counted, ledger, left_of, made_of, place_of, Accepted, no_packet, OpenPlaced, FlowsKnown}
use Rattle.packets.proofs.Steps.{made_start, made_release, made_inject, place_own, place_other, place_inject, new_of, ledger_length, packet_new, packet_kept, packet_counted, counted_flow}
use Rattle.packets.proofs.Logs.{rel_of, rel_known}
use Rattle.packets.proofs.Ledger.{Tied, link, open_lt, lt_open}
use Rattle.packets.proofs.Rows.{rows_tell}
use Rattle.packets.proofs.Written.{wants_at, was_open}

module _ (b : Table) where
  -- the flow of an open packet wants
  pub open_wants : (l : List Call) (p : ℕ) (d : Packet) → p < made_of l → is_open b (get_or (ledger b l) p d) ≡ true → wants b (ledger b l) (get_or (ledger b l) p d).flow ≡ true
  open_wants l p d lt e =
      wants_at b d (get_or (ledger b l) p d).flow (ledger b l) p (omega (arith, ledger_length b l)) refl (open_lt b (get_or (ledger b l) p d) e)

  placed :
      (l : List Call) → Accepted b l → (p : ℕ) → p < made_of l → is_open b (get_or (ledger b l) p no_packet) ≡ true →
      place_of l (get_or (ledger b l) p no_packet).flow ≡ p
  placed [] ok p lt e = absurd (omega (arith, made_start))
  placed (release j t ∷ l) ok p lt e =
      let at : Packet → ℕ = λ q. place_of (release j t ∷ l) q.flow in
      elim (cases_lt p (made_of l)) [
        | inl old ↦
            let q = get_or (ledger b l) p no_packet in
            let kept = packet_kept b l j t p no_packet old in
            let still : is_open b q ≡ true = sym (ap (is_open b) kept) ∙ e in
            ap at kept
            ∙ place_other l j t q.flow
            (λ same. both_ways (wants b (ledger b l) j) ok.0.free (sym (ap (wants b (ledger b l)) same) ∙ open_wants l p no_packet old still))
            ∙ placed l ok.1 p old still
        | inr new ↦
            let same : p ≡ made_of l = omega (arith, made_release l j t) in
            let last : get_or (ledger b (release j t ∷ l)) p no_packet ≡ new_of l j t =
            ap (λ (k : ℕ). get_or (ledger b (release j t ∷ l)) k no_packet) same ∙ packet_new b l j t no_packet
            in
            ap at last ∙ place_own l j t j refl ∙ sym same
      ]
  placed (inject ∷ l) ok p lt e =
      let won : ℕ → Bool = granted b (wants b (ledger b l)) in
      let q = get_or (ledger b l) p no_packet in
      let old : p < made_of l = omega (arith, made_inject l) in
      let told = packet_counted b l p no_packet old in
      let few = open_lt b (counted b won q) (sym (ap (is_open b) told) ∙ e) in
      ap (λ (x : Packet). place_of (inject ∷ l) x.flow) told ∙ ap (place_of (inject ∷ l)) (counted_flow b won q) ∙ place_inject l q.flow
      ∙ placed l ok p old (lt_open b q (was_open b won q few))

-- what the run of the calls tells of the packet at a place
pub tied_at :
    (b : Table) → Lawful b → (l : List Call) → Accepted b l → (p : ℕ) (d : Packet) → p < made_of l → Tied b (rel_of l) (slot_of l) (get_or (ledger b l) p d)
tied_at b law l ok p d lt = All-get_or (Tied b (rel_of l) (slot_of l)) (ledger b l) p d (omega (arith, ledger_length b l)) (link b law l ok).all

pub flows_known : FlowsKnown
flows_known b law l ok p lt =
    let q = get_or (ledger b l) p no_packet in
    rel_known b l ok q.first q.flow q.time (tied_at b law l ok p no_packet lt).released

pub open_placed : OpenPlaced
open_placed b law l ok p lt e =
    let i = (get_or (ledger b l) p no_packet).flow in
    let waits : ltb 0 (left_of b l i) ≡ true = sym (rows_tell b law l ok i).wanting ∙ open_wants b l p no_packet lt e in
    (placed b l ok p lt e, ltb-true 0 (left_of b l i) waits, flows_known b law l ok p lt)
