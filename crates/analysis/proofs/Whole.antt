-- A load from its parts. Assumes nothing.
use Rattle.std.proofs.Common.{◌≡◌, ℕ, ◌≤◌, Bool, List, ◌++◌, length, Some, None, vec_items, Option, sym, ap, ◌∙◌, subst, arith}
use Rattle.fabric.specs.Routes.{Route}
use Rattle.table.specs.declared.fault.LoadFault.{LoadFault}
use Rattle.table.specs.declared.header.Header.{Header}
use Rattle.table.specs.declared.profile.Profile.{Profile}
use Rattle.table.specs.declared.records.FlowRecord.{FlowRecord}
use Rattle.table.specs.File.{header_of, flows_of}
use Rattle.table.specs.Checks.{first_fault, header_checks, section_checks}
use Rattle.table.proofs.Firsts.{first_passed, first_failed}
use Rattle.parts.specs.declared.slot.Slot.{Slot}
use Rattle.parts.specs.Slots.{slot_for}
use Rattle.timing.proofs.Figures.{figures_are}
use Rattle.analysis.specs.declared.loaded.Loaded.{Loaded}
use Rattle.analysis.specs.declared.setting.Setting.{Setting}
use Rattle.analysis.specs.Answers.{Loads, Exactly}
use Rattle.analysis.specs.Settings.{SetFor}
use Rattle.analysis.specs.Loading.{each_flow, misfit_checks, open_checks, record_checks, route_checks_of, profile_of, flow_checks, load_checks, timing_of}
use Rattle.analysis.specs.Rows.{RowsFit}
use Rattle.analysis.specs.Tables.{record_of}
use Rattle.analysis.proofs.Laws.{lawful}
use Rattle.analysis.proofs.Opening.{regrouped, flow_count, opened, sound_known, slot_short}

-- the faults of the records, and of the routes
abbrev records_of : ℕ → Header → Slot → List FlowRecord → ℕ → List (Bool × LoadFault)
records_of nodes h slot rs n = each_flow (λ i. record_checks h nodes slot.length i (record_of rs i)) n

module _ (bs : List ℕ) (nodes limit : ℕ) (route : ℕ → ℕ → ℕ → Route) (count : ℕ) (counted : nodes ≡ count) where
  abbrev H : Header
  H = header_of bs

  abbrev P : Profile
  P = profile_of (header_of bs)

  abbrev S : Slot
  S = slot_for (header_of bs) (profile_of (header_of bs))

  abbrev F : List FlowRecord
  F = flows_of bs (header_of bs)

  abbrev open_checks_lem : List (Bool × LoadFault)
  open_checks_lem = open_checks (length bs) limit nodes (header_of bs)

  regroup : open_checks_lem ++ flow_checks bs nodes route ≡ load_checks bs nodes route limit
  unfolding load_checks
  regroup = regrouped (header_checks (length bs) H) (misfit_checks limit nodes H) (section_checks (length bs) H) (flow_checks bs nodes route)

  -- the checks of the fabric's nodes are those of as many
  whole : first_fault (load_checks bs count route limit) ≡ first_fault (open_checks_lem ++ flow_checks bs nodes route)
  whole = ap (λ (n : ℕ). first_fault (load_checks bs n route limit)) (sym counted) ∙ ap first_fault (sym regroup)

  pub open_fault : (e : LoadFault) → first_fault open_checks_lem ≡ Some e → first_fault (load_checks bs count route limit) ≡ Some e
  open_fault e fault = whole ∙ first_failed open_checks_lem (flow_checks bs nodes route) e fault

  module _ (fine : first_fault open_checks_lem ≡ None) where
    past_open : first_fault (load_checks bs count route limit) ≡ first_fault (flow_checks bs nodes route)
    past_open = whole ∙ first_passed open_checks_lem (flow_checks bs nodes route) fine

    -- the setting and the records, as a load has them at hand
    module _ (s : Setting) (rs : List FlowRecord) (set : SetFor H s) (er : rs ≡ F) where
      records_same : first_fault (records_of nodes s.header s.slot rs (length rs)) ≡ first_fault (records_of nodes H S F H.flows)
      records_same =
          ap (λ (k : Header). first_fault (records_of nodes k s.slot rs (length rs))) set.header_is
          ∙ ap (λ (t : Slot). first_fault (records_of nodes H t rs (length rs))) set.slot_is
          ∙ ap (λ (r : List FlowRecord). first_fault (records_of nodes H S r (length r))) er
          ∙ ap (λ (n : ℕ). first_fault (records_of nodes H S F n)) (flow_count bs H)

      routes_same : first_fault (each_flow (route_checks_of s.header s.slot s.profile rs route) (length rs)) ≡ first_fault (each_flow (route_checks_of H S P F route) H.flows)
      routes_same =
          ap (λ (k : Header). first_fault (each_flow (route_checks_of k s.slot s.profile rs route) (length rs))) set.header_is
          ∙ ap (λ (t : Slot). first_fault (each_flow (route_checks_of H t s.profile rs route) (length rs))) set.slot_is
          ∙ ap (λ (q : Profile). first_fault (each_flow (route_checks_of H S q rs route) (length rs))) set.profile_is
          ∙ ap (λ (r : List FlowRecord). first_fault (each_flow (route_checks_of H S P r route) (length r))) er
          ∙ ap (λ (n : ℕ). first_fault (each_flow (route_checks_of H S P F route) n)) (flow_count bs H)

      -- as many records as the header says, which are few
      pub few : length rs ≤ 128
      few = omega (arith, ap length er, flow_count bs H, (opened (length bs) limit nodes H fine).few)

      pub record_fault : (e : LoadFault) → first_fault (records_of nodes s.header s.slot rs (length rs)) ≡ Some e → first_fault (load_checks bs count route limit) ≡ Some e
      record_fault e fault =
          past_open ∙ first_failed (records_of nodes H S F H.flows) (each_flow (route_checks_of H S P F route) H.flows) e (sym records_same ∙ fault)

      module _ (right : first_fault (records_of nodes s.header s.slot rs (length rs)) ≡ None) where
        pub routes_decide :
            (o : Option LoadFault) → first_fault (each_flow (route_checks_of s.header s.slot s.profile rs route) (length rs)) ≡ o → first_fault (load_checks bs count route limit) ≡ o
        routes_decide o fault =
            past_open
            ∙ first_passed (records_of nodes H S F H.flows) (each_flow (route_checks_of H S P F route) H.flows) (sym records_same ∙ right)
            ∙ sym routes_same
            ∙ fault

        pub loads : (v : Loaded) → v.slot ≡ s.slot → RowsFit s.slot s.profile rs route (length rs) (vec_items v.rows) → Loads bs route v
        loads v at fit =
            record {
              slot_is = at ∙ set.slot_is;
              rows_fit =
                  subst (λ (n : ℕ). RowsFit S P F route n (vec_items v.rows)) (flow_count bs H)
                  (subst (λ (r : List FlowRecord). RowsFit S P r route (length r) (vec_items v.rows)) er
                  (subst (λ (q : Profile). RowsFit S q rs route (length rs) (vec_items v.rows)) set.profile_is
                  (subst (λ (t : Slot). RowsFit t s.profile rs route (length rs) (vec_items v.rows)) set.slot_is fit)));
            }

        pub exactly : first_fault (each_flow (route_checks_of s.header s.slot s.profile rs route) (length rs)) ≡ None → Exactly (timing_of bs route)
        unfolding timing_of
        exactly routed =
            let ok = opened (length bs) limit nodes H fine in
            let law = lawful H P F route nodes ok (sound_known H ok.known) (flow_count bs H) (slot_short H P ok (sound_known H ok.known)).1 (sym records_same ∙ right) (sym routes_same ∙ routed) in
            let figures = figures_are _ law in
            record { lawful = law; figures = figures.0; bounds = figures.1 }
