-- One flow more of a load. Assumes nothing.
use Rattle.std.proofs.Common.{◌≡◌, ℕ, ◌+◌, ◌-◌, ◌<◌, ◌≤◌, Bool, true, false, cond, ◌&&◌, ltb, leb, List, [], ◌∷◌, ◌++◌, length, get_or, Some, None, Ok, Err, Result, sym, refl, ap, ◌∙◌, subst, ap₂, inl, inr, arith}
use Rattle.std.proofs.lemmas.List.{length_push, get_or_push, get_or_append_left}
use Rattle.std.proofs.lemmas.Bool.{cases_lt, and_parts, leb-true, ltb-true, le-leb, lt-ltb}
use Rattle.fabric.specs.declared.path.Path.{Path}
use Rattle.fabric.specs.Routes.{Route}
use Rattle.fabric.specs.Paths.{links_in, shares}
use Rattle.table.specs.declared.fault.LoadFault.{LoadFault}
use Rattle.table.specs.declared.header.Header.{Header}
use Rattle.table.specs.declared.profile.Profile.{Profile}
use Rattle.table.specs.declared.records.FlowRecord.{FlowRecord}
use Rattle.table.specs.Checks.{first_fault}
use Rattle.parts.specs.declared.slot.Slot.{Slot}
use Rattle.parts.specs.declared.split.Split.{Split}
use Rattle.parts.specs.Split.{capacity, split_for}
use Rattle.timing.specs.Model.{Table}
use Rattle.analysis.specs.declared.row.Row.{Row}
use Rattle.analysis.specs.Loading.{record_byte, route_checks, route_checks_of}
use Rattle.analysis.specs.Rows.{taken, carried, Meets, Builds, RowFits, RowsFit}
use Rattle.analysis.specs.Standing.{Ordered, InSlot, Stands, Standing, Told}
use Rattle.analysis.specs.Tables.{no_record, record_of, route_of, path_of, flits_of, table_of}

taken_ok : (h : Header) (i : ℕ) (r : Route) (p : List ℕ) → Ok p ≡ taken h i r → r ≡ Ok p
taken_ok h i (Ok q) p e = cc
taken_ok h i (Err x) p e = let z : ◌≡◌ {A = ℕ} 0 1 = cc in absurd (omega arith)

carried_ok :
    (h : Header) (p : Profile) (window i hops payload : ℕ) (s : Split) → Ok s ≡ carried h p window i hops payload →
    (ltb (capacity p window hops) 1 ≡ false) × (s ≡ split_for p window hops payload)
carried_ok h p window i hops payload s e = by (ltb (capacity p window hops) 1) refl e
  where
    by : (t : Bool) → ltb (capacity p window hops) 1 ≡ t → Ok s ≡ cond t (Err (Rattle.table.specs.declared.fault.LoadFault.TheVariants.Capacity i (record_byte h i))) (Ok (split_for p window hops payload)) →
        (ltb (capacity p window hops) 1 ≡ false) × (s ≡ split_for p window hops payload)
    by true test same = let z : ◌≡◌ {A = ℕ} 0 1 = cc in absurd (omega arith)
    by false test same = (test, cc)

-- a route that is there, over which a part carries a flit
no_fault : (h : Header) (i : ℕ) (r : Route) (p : List ℕ) (flits : ℕ) → r ≡ Ok p → ltb flits 1 ≡ false → first_fault (route_checks h i r flits) ≡ None
no_fault h i (Ok q) p flits e few = ap (λ t. cond t (Some (Rattle.table.specs.declared.fault.LoadFault.TheVariants.Capacity i (record_byte h i))) None) few
no_fault h i (Err x) p flits e few = let z : ◌≡◌ {A = ℕ} 0 1 = cc in absurd (omega arith)

module _ (slot : Slot) (p : Profile) (rs : List FlowRecord) (route : ℕ → ℕ → ℕ → Route) where
  abbrev b : Table
  b = table_of slot p rs route

  pub ordered : Ordered b
  unfolding table_of
  ordered h i e =
      let q = and_parts (leb 1 h && ltb h i) (shares (path_of slot p rs route h) (path_of slot p rs route i)) e in
      let r = and_parts (leb 1 h) (ltb h i) q.0 in
      (leb-true 1 h r.0, ltb-true h i r.1)

  pub in_slot : InSlot b slot
  unfolding table_of
  in_slot = record { length_is = refl; pause_is = refl; ends = λ i. refl }

  standing : (n : ℕ) (rows : List Row) → RowsFit slot p rs route n rows → Standing b rows
  standing n rows fit k d less = (fit.each k d less).stands

  higher_is : (h i : ℕ) → 1 ≤ h → h < i → b.H h i ≡ shares (path_of slot p rs route h) (path_of slot p rs route i)
  unfolding table_of
  higher_is h i low high = ap₂ (λ (s t : Bool). (s && t) && shares (path_of slot p rs route h) (path_of slot p rs route i)) (le-leb 1 h low) (lt-ltb h i high)

  meets : (rows : List Row) (path : Path) → RowsFit slot p rs route (length rows) rows → links_in path ≡ path_of slot p rs route (length rows + 1) → Meets b rows path
  meets rows path fit links k d less =
      ap₂ shares (fit.each k d less).links links ∙ sym (higher_is (k + 1) (length rows + 1) (omega arith) (omega arith))

  module _ (rows : List Row) (path : Path) (split : Split) (flow : FlowRecord) (row : Row) (h : Header) where
    abbrev i : ℕ
    i = length rows + 1

    pub row_fits :
        i ≤ length rs → record_of rs i ≡ flow → RowsFit slot p rs route (length rows) rows →
        Ok (links_in path) ≡ taken h i (route i flow.source flow.destination) →
        Ok split ≡ carried h p slot.window i (length (links_in path)) flow.payload → row.record ≡ flow → row.path ≡ path →
        ((t : Table) → Told t slot rows → Meets t rows path → i ≤ t.z → split.parts ≡ t.w i → split.tail ≡ t.c i →
        flow.separation ≡ t.T i → flow.deadline ≡ t.D i → Stands t row i) →
        (first_fault (route_checks_of h slot p rs route i) ≡ None) × RowFits slot p rs route i row
    unfolding table_of
    row_fits inside same fit took carries is at stands =
        let there : route_of slot p rs route i ≡ Ok (links_in path) =
        ap (λ (f : FlowRecord). route i f.source f.destination) same ∙ taken_ok h i (route i flow.source flow.destination) (links_in path) took in
        let links : path_of slot p rs route i ≡ links_in path = ap Rattle.analysis.specs.Tables.links_of there in
        let got = carried_ok h p slot.window i (length (links_in path)) flow.payload split carries in
        let flits : flits_of slot p rs route i ≡ capacity p slot.window (length (links_in path)) = ap (λ l. capacity p slot.window (length l)) links in
        let split-is : split ≡ split_for p slot.window (length (path_of slot p rs route i)) (record_of rs i).payload =
        got.1 ∙ ap₂ (λ l (f : FlowRecord). split_for p slot.window (length l) f.payload) (sym links) (sym same) in (
          no_fault h i (route_of slot p rs route i) (links_in path) (flits_of slot p rs route i) there (ap (λ n. ltb n 1) flits ∙ got.0),
          record {
            flow = is ∙ sym same;
            links = ap links_in at ∙ sym links;
            stands =
                stands b (record { ordered = ordered; times = in_slot; standing = standing (length rows) rows fit }) (meets rows path fit (sym links)) inside (ap (λ (s : Split). s.parts) split-is)
                (ap (λ (s : Split). s.tail) split-is) (ap (λ (f : FlowRecord). f.separation) (sym same)) (ap (λ (f : FlowRecord). f.deadline) (sym same));
          },
        )

  pub no_rows : RowsFit slot p rs route 0 []
  no_rows = record { count = refl; each = λ k d less. absurd (omega arith) }

  -- one row more
  pub row_more : (n : ℕ) (rows : List Row) (row : Row) → RowsFit slot p rs route n rows → RowFits slot p rs route (n + 1) row → RowsFit slot p rs route (n + 1) (rows ++ (row ∷ []))
  row_more n rows row fit new =
      record {
        count = length_push rows row ∙ ap (λ k. k + 1) fit.count;
        each = λ k d less.
            elim (cases_lt k (length rows)) [
              | inl before ↦
                  subst (λ (r : Row). RowFits slot p rs route (k + 1) r) (sym (get_or_append_left rows (row ∷ []) d k before)) (fit.each k d before)
              | inr after ↦
                  let last : length rows ≡ k = omega (arith, less, length_push rows row) in
                  let number : n + 1 ≡ k + 1 = omega (arith, fit.count) in
                  subst (λ (r : Row). RowFits slot p rs route (k + 1) r) (sym (get_or_push rows row d k last))
                  (subst (λ (m : ℕ). RowFits slot p rs route m row) number new)
            ];
      }

  -- what a row's load tells where the rows before were lent as xs
  pub turn_built :
      (h : Header) (n : ℕ) (rows xs : List Row) (flow : FlowRecord) (r : Result Row LoadFault) → xs ≡ rows → RowsFit slot p rs route n rows → n < length rs →
      get_or rs n no_record ≡ flow →
      ((qs : List FlowRecord) → length xs + 1 ≤ length qs → record_of qs (length xs + 1) ≡ flow → RowsFit slot p qs route (length xs) xs →
      Builds (first_fault (route_checks_of h slot p qs route (length xs + 1))) (RowFits slot p qs route (length xs + 1)) r) →
      Builds (first_fault (route_checks_of h slot p rs route (n + 1))) (RowFits slot p rs route (n + 1)) r
  turn_built h n rows xs flow r lent fit less is told =
      let count : length xs ≡ n = ap length lent ∙ fit.count in
      let place : length xs + 1 - 1 ≡ n = omega arith in
      let each = subst (λ (l : List Row). (k : ℕ) (d : Row) → k < length l → RowFits slot p rs route (k + 1) (get_or l k d)) (sym lent) fit.each in
      subst (λ (m : ℕ). Builds (first_fault (route_checks_of h slot p rs route (m + 1))) (RowFits slot p rs route (m + 1)) r) count
      (told rs (omega arith) (ap (λ (m : ℕ). get_or rs m no_record) place ∙ is) (record { count = refl; each = each }))
