-- A run that a table was just loaded into stands for the table. Assumes nothing.
use Rattle.std.proofs.Common.{◌≡◌, ℕ, ◌+◌, ◌-◌, ◌*◌, ◌≤◌, Bool, true, false, cond, not, ◌&&◌, ◌||◌, eqb, ltb, List, [], ◌++◌, length, get_or, Some, None, sym, refl, ap, ◌∙◌, subst, ap₂, arith}
use Rattle.std.proofs.lemmas.List.{get_or-map, length-map}
use Rattle.std.proofs.lemmas.Bool.{le-leb, ltb-false, or_parts}
use Rattle.analysis.specs.Answers.{Exactly}
use Rattle.analysis.specs.Loading.{load_checks, flow_checks, misfit_checks, profile_of, timing_of}
use Rattle.analysis.specs.Rows.{RowFits}
use Rattle.analysis.specs.Standing.{InSlot, Stands}
use Rattle.analysis.specs.Tables.{table_of, path_of}
use Rattle.analysis.proofs.Loads.{in_slot}
use Rattle.analysis.proofs.Opening.{flow_count}
use Rattle.calls.specs.declared.record.Record.{Record}
use Rattle.fabric.specs.Paths.{shares}
use Rattle.fabric.specs.Routes.{Route}
use Rattle.packets.specs.Calls.{granted}
use Rattle.packets.proofs.Arbiter.{granted_is}
use Rattle.packets.proofs.Steps.{slot_start, last_start, left_start, made_start, place_start}
use Rattle.parts.specs.declared.slot.Slot.{Slot}
use Rattle.parts.specs.Slots.{slot_for}
use Rattle.rows.specs.declared.flow_row.FlowRow.{FlowRow}
use Rattle.rows.specs.Blank.{idle, no_flow, no_row}
use Rattle.table.specs.declared.fault.LoadFault.TheVariants.{Misfit}
use Rattle.table.specs.declared.profile.Profile.{Profile}
use Rattle.table.specs.declared.records.FlowRecord.{FlowRecord}
use Rattle.table.specs.Checks.{first_fault, header_checks, section_checks}
use Rattle.table.specs.File.{header_of, flows_of}
use Rattle.table.proofs.Firsts.{both_passed}
use Rattle.timing.specs.Model.{Table, Flow}
use Rattle.history.specs.State.{State, row_of, route_of}
use Rattle.history.specs.Counted.{wanted_in}
use Rattle.history.specs.Since.{Since, Lists, Follows}
use Rattle.history.specs.Begun.{Begun, LoadBegins}
use Rattle.history.proofs.Promised.{run_promise, ledger_promise}

-- the flows fit the medium
fits : (bs : List ℕ) (nodes most : ℕ) (route : ℕ → ℕ → ℕ → Route) → first_fault (load_checks bs nodes route most) ≡ None → (header_of bs).flows ≤ most
unfolding load_checks
fits bs nodes most route e =
    let h = header_of bs in
    let rest = (both_passed (header_checks (length bs) h) (misfit_checks most nodes h ++ (section_checks (length bs) h ++ flow_checks bs nodes route)) e).1 in
    let here = (both_passed (misfit_checks most nodes h) (section_checks (length bs) h ++ flow_checks bs nodes route) rest).0 in
    ltb-false most h.flows (or_parts (ltb most h.flows) (not (eqb nodes (h.width * h.height))) (clear (ltb most h.flows || not (eqb nodes (h.width * h.height))) here)).0
  where
    clear : (t : Bool) → cond t (Some Misfit) None ≡ None → t ≡ false
    clear true e = cc
    clear false e = refl

-- the table of a file, by its parts
module _ (slot : Slot) (p : Profile) (rs : List FlowRecord) (route : ℕ → ℕ → ℕ → Route) where
  size : (table_of slot p rs route).z ≡ length rs
  unfolding table_of
  size = refl

  sharing : (h i : ℕ) → 1 ≤ h → (table_of slot p rs route).H h i ≡ (ltb h i && shares (path_of slot p rs route h) (path_of slot p rs route i))
  unfolding table_of
  sharing h i low = ap (λ t. (t && ltb h i) && shares (path_of slot p rs route h) (path_of slot p rs route i)) (le-leb 1 h low)

module _ (bs : List ℕ) (route : ℕ → ℕ → ℕ → Route) (most number : ℕ) (s : State) (enough : (header_of bs).flows ≤ most) (exact : Exactly (timing_of bs route)) (begun : Begun bs route number s) where
  abbrev slot : Slot
  slot = slot_for (header_of bs) (profile_of (header_of bs))

  abbrev b : Table
  b = timing_of bs route

  flows_of_lem : b.z ≡ (header_of bs).flows
  unfolding timing_of
  flows_of_lem = size slot (profile_of (header_of bs)) (flows_of bs (header_of bs)) route ∙ flow_count bs (header_of bs)

  count : length s.rows ≡ b.z
  count = ap length begun.rows ∙ length-map begun.flows idle ∙ begun.fit.count ∙ sym flows_of_lem

  row_is : (i : ℕ) → Flow b i → row_of s i ≡ idle (get_or begun.flows (i - 1) no_flow)
  row_is i f =
      ap (λ (rows : List FlowRow). get_or rows (i - 1) no_row) begun.rows
      ∙ get_or-map idle begun.flows (i - 1) no_flow no_row (omega (arith, f.from, f.upto, count, ap length begun.rows, length-map begun.flows idle))

  fit_at : (i : ℕ) → Flow b i → RowFits slot (profile_of (header_of bs)) (flows_of bs (header_of bs)) route i (row_of s i).flow
  fit_at i f =
      let R = RowFits slot (profile_of (header_of bs)) (flows_of bs (header_of bs)) route in
      let back : i - 1 + 1 ≡ i = omega (arith, f.from) in
      let at = begun.fit.each (i - 1) no_flow (omega (arith, f.from, f.upto, flows_of_lem, begun.fit.count)) in
      subst (λ (r : FlowRow). R i r.flow) (sym (row_is i f)) (subst (λ (n : ℕ). R n (get_or begun.flows (i - 1) no_flow)) back at)

  stands_at : (i : ℕ) → Flow b i → Stands b (row_of s i).flow i
  unfolding timing_of
  stands_at i f = (fit_at i f).stands

  meets : (h i : ℕ) → Flow b h → Flow b i → b.H h i ≡ (ltb h i && shares (route_of s h) (route_of s i))
  unfolding timing_of
  meets h i g f =
      sharing slot (profile_of (header_of bs)) (flows_of bs (header_of bs)) route h i g.from
      ∙ ap₂ (λ (x y : List ℕ). ltb h i && shares x y) (sym (fit_at h g).links) (sym (fit_at i f).links)

  times : InSlot b s.times
  unfolding timing_of
  times = subst (InSlot b) (sym begun.times) (in_slot slot (profile_of (header_of bs)) (flows_of bs (header_of bs)) route)

  nobody : (i : ℕ) → false ≡ granted b (wanted_in b []) i
  nobody i = sym (granted_is b (wanted_in b []) i)

  follows : (i : ℕ) → Flow b i → Follows b [] i (row_of s i).progress
  follows i f =
      subst (λ (r : FlowRow). Follows b [] i r.progress) (sym (row_is i f))
      (record {
        left = sym (left_start b i);
        place = sym (place_start i);
        last = sym (last_start i);
        denials = λ more. absurd (omega arith);
        wanted = refl;
        granted = nobody i;
      })

  pub since_load : Since most b [] s
  since_load =
      record {
        table = record { exact = exact; flows = count; fits = omega (arith, enough, flows_of_lem); times = times; each = stands_at; meets = meets };
        lawful = tt;
        slot = begun.slot ∙ sym slot_start;
        count = begun.count ∙ sym made_start;
        owed = begun.owed;
        ended = begun.ended;
        each = follows;
        levels = begun.levels;
        short = omega (arith, begun.slot);
        waiting = λ e. cc;
        room = λ e. cc;
        free = tt;
      }

pub lists_load : (b : Table) (k : List Record) → Lists b [] k
lists_load b k = record { long = omega (arith, made_start); each = λ p less. absurd (omega (arith, less, made_start)); told = tt }

pub load_begins : LoadBegins
load_begins most number nodes bs route s k fine exact begun =
    let since = since_load bs route most number s (fits bs nodes most route fine) exact begun in
    let b = timing_of bs route in
    record {
      since = since;
      lists = lists_load b k;
      run = run_promise most b [] s since;
      ledger = ledger_promise most b [] s k since (lists_load b k);
    }
