-- A table that passed all checks is lawful. Assumes nothing.
use Rattle.std.proofs.Common.{◌≡◌, ℕ, zero, suc, ◌+◌, ◌*◌, ◌<◌, ◌≤◌, Bool, true, false, ◌||◌, eqb, ltb, leb, List, [], ◌∷◌, length, is_err, None, refl, ap, ◌∙◌, inl, inr, mul-le-mul_right, mul-pos, zero-mul, arith}
use Rattle.std.proofs.lemmas.Bool.{cases_lt, or_parts, ltb-false, eqb-false}
use Rattle.fabric.specs.Routes.{Route}
use Rattle.table.specs.declared.fault.LoadFault.{LoadFault}
use Rattle.table.specs.declared.fault.LoadFault.TheVariants.{Record, Separation, Route as NoRoute, Capacity}
use Rattle.table.specs.declared.header.Header.{Header}
use Rattle.table.specs.declared.profile.Profile.{Profile}
use Rattle.table.specs.declared.records.FlowRecord.{FlowRecord}
use Rattle.table.specs.Checks.{first_fault, outside}
use Rattle.table.proofs.Firsts.{both_passed}
use Rattle.parts.specs.declared.slot.Slot.{Slot}
use Rattle.parts.specs.Slots.{slot_for}
use Rattle.parts.specs.Split.{parts_of}
use Rattle.timing.specs.Model.{Flow, Lawful}
use Rattle.timing.proofs.Ceil.{ceil_above}
use Rattle.analysis.specs.Loading.{each_flow, wrong, fault_in, record_byte, record_checks, route_checks, route_checks_of}
use Rattle.analysis.specs.Tables.{record_of, route_of, flits_of, table_of}
use Rattle.analysis.proofs.Loads.{ordered}
use Rattle.analysis.proofs.Opening.{Opened, Sound}

-- where all flows pass, each does
pub each_passed : (checks : ℕ → List (Bool × LoadFault)) (n i : ℕ) → first_fault (each_flow checks n) ≡ None → 1 ≤ i → i ≤ n → first_fault (checks i) ≡ None
unfolding each_flow
each_passed checks zero i e low high = absurd (omega arith)
each_passed checks (suc n) i e low high =
    let parts = both_passed (each_flow checks n) (checks (suc n)) e in
    elim (cases_lt n i) [
      | inl last ↦ let same : i ≡ suc n = omega arith in ap (λ k. first_fault (checks k)) same ∙ parts.1
      | inr before ↦ each_passed checks n i parts.0 low before
    ]

-- a check that passes
passes_head : (t : Bool) (f : LoadFault) (rest : List (Bool × LoadFault)) → first_fault ((t, f) ∷ rest) ≡ None → (t ≡ false) × (first_fault rest ≡ None)
passes_head true f rest e = let z : ◌≡◌ {A = ℕ} 0 1 = cc in absurd (omega arith)
passes_head false f rest e = (refl, e)

pub record Right (slot : ℕ) (r : FlowRecord) : Type 0 where
  pub payload : 1 ≤ r.payload
  pub separation : 1 ≤ r.separation
  pub deadline : r.deadline ≤ r.separation
  pub slot_fits : slot ≤ r.separation

pub right : (h : Header) (nodes slot i : ℕ) (r : FlowRecord) → first_fault (record_checks h nodes slot i r) ≡ None → Right slot r
right h nodes slot i r e =
    let a = passes_head (wrong nodes r) (Record i (record_byte h i)) ((ltb r.separation slot, Separation i (record_byte h i)) ∷ []) e in
    let b = passes_head (ltb r.separation slot) (Separation i (record_byte h i)) [] a.1 in
    let parts = (or_parts (leb nodes r.source || leb nodes r.destination || eqb r.source r.destination)
    (outside 1 65535 r.payload || (eqb r.separation 0 || eqb r.deadline 0) || ltb r.separation r.deadline) a.0).1 in
    let due = or_parts (outside 1 65535 r.payload || (eqb r.separation 0 || eqb r.deadline 0)) (ltb r.separation r.deadline) parts in
    let sizes = or_parts (outside 1 65535 r.payload) (eqb r.separation 0 || eqb r.deadline 0) due.0 in
    let times = or_parts (eqb r.separation 0) (eqb r.deadline 0) sizes.1 in
    let some = or_parts (ltb r.payload 1) (ltb 65535 r.payload) sizes.0 in
    record {
      payload = ltb-false r.payload 1 some.0;
      separation = positive r.separation (eqb-false r.separation 0 times.0);
      deadline = ltb-false r.separation r.deadline due.1;
      slot_fits = ltb-false r.separation slot b.0;
    }
  where
    positive : (n : ℕ) → (n ≡ 0 → ⊥) → 1 ≤ n
    positive n ne = omega arith

-- a part carries a flit
carries : (h : Header) (i : ℕ) (route : Route) (flits : ℕ) → first_fault (route_checks h i route flits) ≡ None → 1 ≤ flits
carries h i route flits e =
    let byte = record_byte h i in
    ltb-false flits 1 (passes_head (ltb flits 1) (Capacity i byte) [] (passes_head (is_err route) (NoRoute i byte (fault_in route)) ((ltb flits 1, Capacity i byte) ∷ []) e).1).0

module _ (h : Header) (p : Profile) (rs : List FlowRecord) (route : ℕ → ℕ → ℕ → Route) (nodes : ℕ) where
  abbrev slot : Slot
  slot = slot_for h p

  pub lawful :
      Opened h → Sound p → length rs ≡ h.flows → 0 < slot.length →
      first_fault (each_flow (λ i. record_checks h nodes slot.length i (record_of rs i)) h.flows) ≡ None →
      first_fault (each_flow (route_checks_of h slot p rs route) h.flows) ≡ None → Lawful (table_of slot p rs route)
  unfolding table_of parts_of
  lawful ok small count some records routes =
      let at = λ (i : ℕ) (f : Flow (table_of slot p rs route) i).
      right h nodes slot.length i (record_of rs i) (each_passed (λ k. record_checks h nodes slot.length k (record_of rs k)) h.flows i records f.from (omega (arith, f.upto, count))) in
      record {
        slot = some;
        ends = λ i f. omega (arith, mul-le-mul_right {m = i} {n = h.flows + h.spare} p.interval (omega (arith, f.upto, count)));
        parts = λ i f.
            let flits = carries h i (route_of slot p rs route i) (flits_of slot p rs route i) (each_passed (route_checks_of h slot p rs route) h.flows i routes f.from (omega (arith, f.upto, count))) in
            let size = flits_of slot p rs route i * p.flit in
            ceil_above 0 (record_of rs i).payload size (mul-pos flits small.flit) (omega (arith, zero-mul size, (at i f).payload));
        spaced = λ i f. (at i f).slot_fits;
        due = λ i f. (at i f).deadline;
        higher = ordered slot p rs route;
      }
