-- A table that passed all checks has small figures, so that a run can reckon with them. Assumes nothing.
--   short_slot: a slot of it has less than 2 ^ 30 cycles
--   small_rows: its flows come from nodes below 256, and their last parts are on their way for less than 2 ^ 60 cycles
use Rattle.std.proofs.Common.{◌≡◌, ℕ, zero, suc, ◌+◌, ◌-◌, ◌^◌, ◌<◌, ◌≤◌, Bool, true, false, ◌||◌, eqb, ltb, leb, List, [], ◌∷◌, ◌++◌, map, length, get_or, is_some, Some, None, Option, unwrap_or, sym, refl, ap, subst, mul-le-mul, arith}
use Rattle.std.proofs.lemmas.List.{get_or-map, length-map}
use Rattle.std.proofs.lemmas.Bool.{or_parts, leb-false, ltb-false}
use Rattle.fabric.specs.declared.path.Path.{Path}
use Rattle.fabric.specs.Paths.{links_in}
use Rattle.fabric.specs.Routes.{Route}
use Rattle.fabric.proofs.Kept.{kept_length}
use Rattle.table.specs.declared.fault.LoadFault.{LoadFault}
use Rattle.table.specs.declared.fault.LoadFault.TheVariants.{Record, Separation}
use Rattle.table.specs.declared.header.Header.{Header}
use Rattle.table.specs.declared.profile.Profile.{Profile}
use Rattle.table.specs.declared.records.FlowRecord.{FlowRecord}
use Rattle.table.specs.Checks.{first_fault, outside, header_checks, section_checks}
use Rattle.table.specs.File.{header_of, flows_of}
use Rattle.table.specs.Profiles.{profile_at}
use Rattle.table.proofs.Firsts.{both_passed}
use Rattle.parts.specs.declared.slot.Slot.{Slot}
use Rattle.parts.specs.Slots.{slot_for}
use Rattle.parts.specs.Split.{last_flits, tail_of}
use Rattle.parts.proofs.Sizes.{last_le}
use Rattle.analysis.specs.declared.row.Row.{Row}
use Rattle.analysis.specs.Loading.{load_checks, flow_checks, misfit_checks, each_flow, record_checks, route_checks_of, record_byte, wrong, profile_of, no_profile}
use Rattle.analysis.specs.Rows.{RowFits, RowsFit}
use Rattle.analysis.specs.Tables.{record_of, path_of, flits_of, table_of}
use Rattle.analysis.proofs.Laws.{each_passed}
use Rattle.analysis.proofs.Opening.{Opened, opened, sound, slot_short}
use Rattle.rows.specs.declared.flow_row.FlowRow.{FlowRow}
use Rattle.rows.specs.Blank.{idle}
use Rattle.rows.specs.Small.{IsSmall, Small}
use Rattle.run.proofs.Loads.{opened_first}

-- the profile of a header that knows one
there : (o : Option Profile) → is_some o ≡ true → Some (unwrap_or o no_profile) ≡ o
there (Some p) e = refl
there None e = cc

-- a built-in profile is quick
record Quick (p : Profile) : Type 0 where
  pub routing : p.routing ≤ 3
  pub transfer : p.transfer ≤ 2

quick_at : (q p : Profile) → ◌≡◌ {A = Option Profile} (Some p) (Some q) → q.routing ≤ 3 → q.transfer ≤ 2 → Quick p
quick_at q p e a b = let same : q ≡ p = cc in subst Quick same (record { routing = a; transfer = b })

quick : (n : ℕ) (p : Profile) → Some p ≡ profile_at n → Quick p
quick zero p e = cc
quick (suc zero) p e = quick_at (record { interval = 1; routing = 3; transfer = 1; pause = 0; flit = 4 }) p e (omega arith) (omega arith)
quick (suc (suc zero)) p e = quick_at (record { interval = 1; routing = 3; transfer = 1; pause = 6; flit = 4 }) p e (omega arith) (omega arith)
quick (suc (suc (suc zero))) p e = quick_at (record { interval = 4; routing = 3; transfer = 2; pause = 8; flit = 8 }) p e (omega arith) (omega arith)
quick (suc (suc (suc (suc zero)))) p e = quick_at (record { interval = 2; routing = 1; transfer = 1; pause = 0; flit = 16 }) p e (omega arith) (omega arith)
quick (suc (suc (suc (suc (suc n))))) p e = cc

-- a check that passes
clear_head : (t : Bool) (f : LoadFault) (rest : List (Bool × LoadFault)) → first_fault ((t, f) ∷ rest) ≡ None → t ≡ false
clear_head true f rest e = cc
clear_head false f rest e = refl

record Sized (nodes : ℕ) (r : FlowRecord) : Type 0 where
  pub source : r.source < nodes
  pub payload : r.payload ≤ 65535

sized : (h : Header) (nodes slot i : ℕ) (r : FlowRecord) → first_fault (record_checks h nodes slot i r) ≡ None → Sized nodes r
sized h nodes slot i r e =
    let right = clear_head (wrong nodes r) (Record i (record_byte h i)) ((ltb r.separation slot, Separation i (record_byte h i)) ∷ []) e in
    let all = or_parts (leb nodes r.source || leb nodes r.destination || eqb r.source r.destination)
    (outside 1 65535 r.payload || (eqb r.separation 0 || eqb r.deadline 0) || ltb r.separation r.deadline) right in
    let ends = or_parts (leb nodes r.source || leb nodes r.destination) (eqb r.source r.destination) all.0 in
    let nodes-are = or_parts (leb nodes r.source) (leb nodes r.destination) ends.0 in
    let due = or_parts (outside 1 65535 r.payload || (eqb r.separation 0 || eqb r.deadline 0)) (ltb r.separation r.deadline) all.1 in
    let sizes = or_parts (outside 1 65535 r.payload) (eqb r.separation 0 || eqb r.deadline 0) due.0 in
    let some = or_parts (ltb r.payload 1) (ltb 65535 r.payload) sizes.0 in
    record { source = leb-false nodes r.source nodes-are.0; payload = ltb-false 65535 r.payload some.1 }

tail_short : (p : Profile) (hops flits : ℕ) → Quick p → hops ≤ 64 → flits ≤ 65535 → tail_of p hops flits < 2 ^ 60
unfolding tail_of
tail_short p hops flits swift few small =
    let routed : hops - 1 ≤ 64 = omega arith in
    let more : flits + 1 ≤ 65536 = omega arith in
    omega (arith, mul-le-mul routed swift.routing, mul-le-mul few swift.transfer, mul-le-mul more swift.transfer)

few_links : (path : Path) → length (links_in path) ≤ 64
few_links path = omega (arith, kept_length path, path.few)

module _ (bs : List ℕ) (nodes most : ℕ) (route : ℕ → ℕ → ℕ → Route) (fine : first_fault (load_checks bs nodes route most) ≡ None) where
  abbrev h : Header
  h = header_of bs

  abbrev p : Profile
  p = profile_of (header_of bs)

  abbrev slot : Slot
  slot = slot_for (header_of bs) (profile_of (header_of bs))

  abbrev rs : List FlowRecord
  rs = flows_of bs (header_of bs)

  open_is : Opened h
  open_is = opened (length bs) most nodes h (opened_first bs nodes most route fine)

  known : Some p ≡ profile_at h.profile
  known = there (profile_at h.profile) open_is.known

  pub short_slot : slot.length < 2 ^ 30
  short_slot = (slot_short h p open_is (sound h.profile p known)).0

  records : first_fault (each_flow (λ i. record_checks h nodes slot.length i (record_of rs i)) h.flows) ≡ None
  unfolding load_checks
  records =
      let a = both_passed (header_checks (length bs) h) (misfit_checks most nodes h ++ (section_checks (length bs) h ++ flow_checks bs nodes route)) fine in
      let b = both_passed (misfit_checks most nodes h) (section_checks (length bs) h ++ flow_checks bs nodes route) a.1 in
      let c = both_passed (section_checks (length bs) h) (flow_checks bs nodes route) b.1 in
      (both_passed (each_flow (λ i. record_checks h nodes slot.length i (record_of rs i)) h.flows) (each_flow (route_checks_of h slot p rs route) h.flows) c.1).0

  sized_at : (i : ℕ) → 1 ≤ i → i ≤ h.flows → Sized nodes (record_of rs i)
  sized_at i low high = sized h nodes slot.length i (record_of rs i) (each_passed (λ k. record_checks h nodes slot.length k (record_of rs k)) h.flows i records low high)

  tail_is : (i : ℕ) → (table_of slot p rs route).c i ≡ tail_of p (length (path_of slot p rs route i)) (last_flits p (flits_of slot p rs route i) (record_of rs i).payload)
  unfolding table_of
  tail_is i = refl

  small_row : (i : ℕ) (row : Row) → nodes ≤ 256 → 1 ≤ i → i ≤ h.flows → RowFits slot p rs route i row → IsSmall row
  small_row i row few low high fit =
      let size = sized_at i low high in
      let here : row.record.source ≡ (record_of rs i).source = ap (λ (r : FlowRecord). r.source) fit.flow in
      let links : length (links_in row.path) ≡ length (path_of slot p rs route i) = ap length fit.links in
      let flits = last_flits p (flits_of slot p rs route i) (record_of rs i).payload in
      let last : flits ≤ (record_of rs i).payload = last_le p (flits_of slot p rs route i) (record_of rs i).payload (sound h.profile p known).flit in
      let short = tail_short p (length (path_of slot p rs route i)) flits (quick h.profile p known) (omega (arith, few_links row.path)) (omega (arith, size.payload)) in
      record { near = omega (arith, size.source); brief = omega (arith, fit.stands.tail, tail_is i) }

  pub small_rows : (rows : List Row) → nodes ≤ 256 → RowsFit slot p rs route h.flows rows → Small (map idle rows)
  small_rows rows few fit k d less =
      let within : k < length rows = omega (arith, length-map rows idle) in
      let row = get_or rows k d.flow in
      let small = small_row (k + 1) row few (omega arith) (omega (arith, fit.count)) (fit.each k d.flow within) in
      subst (λ (r : FlowRow). IsSmall r.flow) (sym (get_or-map idle rows k d.flow d within)) small
