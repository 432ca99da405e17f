-- The run that a load of three flows leaves. Assumes nothing.
--   Spare: what a load does not fix of a flow's row, and a run never reads: places past the end of its route, marks of itself and of the flows below it
--   start_of: the run, given these; roomy: a row can hold the flow
use Rattle.std.proofs.Common.{◌≡◌, ℕ, zero, suc, ◌+◌, ◌-◌, ◌<◌, ◌≤◌, Bool, true, false, ◌&&◌, leb, List, [], ◌∷◌, ◌++◌, map, length, get_or, replicate, sym, refl, ap, ◌∙◌, subst, arith, lit<, lit≤}
use Rattle.std.proofs.lemmas.List.{length-append, length-replicate, take_at}
use Rattle.std.proofs.lemmas.Bool.{and_parts, leb-true}
use Rattle.analysis.specs.declared.row.Row.{Row}
use Rattle.analysis.specs.Loading.{profile_of}
use Rattle.analysis.specs.Rows.{RowFits}
use Rattle.analysis.specs.Tables.{record_of, path_of, table_of}
use Rattle.fabric.specs.declared.path.Path.{Path}
use Rattle.fabric.specs.Routes.{Route}
use Rattle.parts.specs.declared.slot.Slot.{Slot}
use Rattle.parts.specs.Slots.{slot_for}
use Rattle.rows.specs.Blank.{idle}
use Rattle.table.specs.declared.profile.Profile.{Profile}
use Rattle.table.specs.declared.records.FlowRecord.{FlowRecord}
use Rattle.table.specs.File.{header_of, flows_of}
use Rattle.timing.specs.Model.{Table, alone}
use Rattle.timing.specs.Figures.{bound_of, rounds_of}
use Rattle.history.specs.Begun.{Begun}
use Rattle.history.specs.State.{State}
use Rattle.run_vectors.proofs.Flags.{flags_of, marks-are, marks-of, no_more}

-- a list of links in the places of a route
abbrev padded : (links : List ℕ) → length links ≤ 64 → Path
padded links few =
    record {
      links = links ++ replicate (64 - length links) 0;
      len = length links;
      long = length-append links (replicate (64 - length links) 0) ∙ omega (arith, length-replicate {A = ℕ} (64 - length links) 0);
      few = few;
    }

each-of-three : (P : ℕ → Row → Type 0) (r r' r'' : Row) → P 1 r → P 2 r' → P 3 r'' → (k : ℕ) (d : Row) → k < 3 → P (k + 1) (get_or (r ∷ r' ∷ r'' ∷ []) k d)
each-of-three P r r' r'' one two three zero d less = one
each-of-three P r r' r'' one two three (suc zero) d less = two
each-of-three P r r' r'' one two three (suc (suc zero)) d less = three
each-of-three P r r' r'' one two three (suc (suc (suc k))) d less = absurd (omega arith)

module _ (slot : Slot) (p : Profile) (rs : List FlowRecord) (route : ℕ → ℕ → ℕ → Route) where
  abbrev b : Table
  b = table_of slot p rs route

  pub record Spare (i : ℕ) : Type 0 where
    pub path : Path
    pub rest : List Bool
    pub long : length (flags_of b i rest) ≡ 128

  abbrev pub row_of : (i : ℕ) → Spare i → Row
  row_of i x =
      record {
        «record» = record_of rs i;
        path = x.path;
        parts = b.w i;
        tail = b.c i;
        alone = alone b i;
        above = record { flags = flags_of b i x.rest; long = x.long };
        bound = bound_of b i;
        rounds = rounds_of b i;
      }

  -- each row that a load may leave is such a row,
  row_is : (i : ℕ) → i ≤ 128 → (r : Row) → RowFits slot p rs route i r → (x : Spare i) × (r ≡ row_of i x)
  row_is i few r fits =
      let s = fits.stands in
      let m = marks-are b i few r.above s.marks in (
        record {
          path = r.path;
          rest = m.0;
          long = subst (λ (l : List Bool). length l ≡ 128) m.1 r.above.long;
        },
        λ j. record {
          «record» = fits.flow j;
          path = r.path;
          parts = s.parts j;
          tail = s.tail j;
          alone = s.alone_is j;
          above = record { flags = m.1 j; long = coe 0 j (k. length (m.1 k) ≡ 128) r.above.long };
          bound = s.bound j;
          rounds = s.rounds j;
        },
      )

  pub rows_are :
      (rows : List Row) → length rows ≡ 3 → ((k : ℕ) (d : Row) → k < length rows → RowFits slot p rs route (k + 1) (get_or rows k d)) →
      (x : Spare 1) × (y : Spare 2) × (z : Spare 3) × (rows ≡ row_of 1 x ∷ row_of 2 y ∷ row_of 3 z ∷ [])
  rows_are [] three each = absurd (omega arith)
  rows_are (r ∷ []) three each = absurd (omega arith)
  rows_are (r ∷ r' ∷ []) three each = absurd (omega arith)
  rows_are (r ∷ r' ∷ r'' ∷ []) three each =
      let x = row_is 1 (lit≤ tt) r (each 0 r (lit< tt)) in
      let y = row_is 2 (lit≤ tt) r' (each 1 r (lit< tt)) in
      let z = row_is 3 (lit≤ tt) r'' (each 2 r (lit< tt)) in
      (x.0, y.0, z.0, λ j. x.1 j ∷ y.1 j ∷ z.1 j ∷ [])
  rows_are (r ∷ r' ∷ r'' ∷ r''' ∷ rows) three each = absurd (omega arith)

  -- and there is one, if it can hold the flow
  abbrev pub roomy : ℕ → Bool
  roomy i = leb (length (path_of slot p rs route i)) 64

  pub row-for : (i : ℕ) → i ≤ 128 → roomy i ≡ true → (x : Spare i) × RowFits slot p rs route i (row_of i x)
  unfolding table_of
  row-for i few room =
      let links = path_of slot p rs route i in
      let rest = replicate (128 - (i - 1)) false in (
        record {
          path = padded links (leb-true (length links) 64 room);
          rest = rest;
          long = no_more b i few;
        },
        record {
          flow = refl;
          links = take_at links (replicate (64 - length links) 0) (length links) refl;
          stands =
              record {
                parts = refl;
                tail = refl;
                alone_is = refl;
                separation = refl;
                deadline = refl;
                marks = marks-of b i few rest (no_more b i few);
                bound = refl;
                rounds = refl;
              };
        },
      )

module _ (bs : List ℕ) (route : ℕ → ℕ → ℕ → Route) where
  abbrev slot : Slot
  slot = slot_for (header_of bs) (profile_of (header_of bs))

  abbrev p : Profile
  p = profile_of (header_of bs)

  abbrev rs : List FlowRecord
  rs = flows_of bs (header_of bs)

  pub record Spares : Type 0 where
    pub first : Spare slot p rs route 1
    pub second : Spare slot p rs route 2
    pub third : Spare slot p rs route 3

  abbrev pub flows_with : Spares → List Row
  flows_with x = row_of slot p rs route 1 x.first ∷ row_of slot p rs route 2 x.second ∷ row_of slot p rs route 3 x.third ∷ []

  abbrev pub start_of : ℕ → Spares → State
  start_of number x =
      record { number = number; slot = 0; times = slot; count = 0; owed = false; ended = false; rows = map idle (flows_with x); levels = [] }

  -- what a load leaves is such a run,
  pub begun-is : (number : ℕ) (s : State) → (header_of bs).flows ≡ 3 → Begun bs route number s → (x : Spares) × (s ≡ start_of number x)
  begun-is number s three begun =
      let rows = rows_are slot p rs route begun.flows (begun.fit.count ∙ three) begun.fit.each in
      let same = begun.rows ∙ ap (map idle) rows.3 in (
        record { first = rows.0; second = rows.1; third = rows.2 },
        λ j. record {
          number = begun.number_is j;
          slot = begun.slot j;
          times = begun.times j;
          count = begun.count j;
          owed = begun.owed j;
          ended = begun.ended j;
          rows = same j;
          levels = begun.levels j;
        },
      )

  -- and there is one, if its rows can hold the flows
  abbrev pub roomy_for : Bool
  roomy_for = roomy slot p rs route 1 && (roomy slot p rs route 2 && roomy slot p rs route 3)

  pub begun-for : (number : ℕ) → (header_of bs).flows ≡ 3 → roomy_for ≡ true → (x : Spares) × Begun bs route number (start_of number x)
  begun-for number three room =
      let tests = and_parts (roomy slot p rs route 1) (roomy slot p rs route 2 && roomy slot p rs route 3) room in
      let more = and_parts (roomy slot p rs route 2) (roomy slot p rs route 3) tests.1 in
      let one = row-for slot p rs route 1 (lit≤ tt) tests.0 in
      let two = row-for slot p rs route 2 (lit≤ tt) more.0 in
      let last = row-for slot p rs route 3 (lit≤ tt) more.1 in
      let x : Spares = record { first = one.0; second = two.0; third = last.0 } in (
        x,
        record {
          number_is = refl;
          slot = refl;
          times = refl;
          count = refl;
          owed = refl;
          ended = refl;
          levels = refl;
          flows = flows_with x;
          rows = refl;
          fit =
              record {
                count = sym three;
                each = each-of-three (RowFits slot p rs route) (row_of slot p rs route 1 one.0) (row_of slot p rs route 2 two.0) (row_of slot p rs route 3 last.0) one.1 two.1 last.1;
              };
        },
      )
