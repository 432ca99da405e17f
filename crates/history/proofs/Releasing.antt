-- A release that is accepted opens a packet; one that meets an open packet is of a flow without a bound. Assumes nothing.
use Rattle.std.proofs.Common.{◌≡◌, ℕ, ◌+◌, ◌-◌, ◌*◌, ◌<◌, ◌≤◌, Bool, true, false, cond, not, ◌&&◌, eqb, ltb, leb, List, [], ◌∷◌, length, get_or, set, Some, None, Ok, Option, sym, refl, ap, ◌∙◌, subst, ap₂, ⊎_elim, arith, length-set}
use Rattle.std.proofs.lemmas.List.{get_or-set_same, get_or-set_other}
use Rattle.std.proofs.lemmas.Bool.{both_ways, cases_eq, cases_Bool, cases_lt, not-false, and_parts, leb-true, leb-false, ltb-true, ltb-false, eqb-false, lt-ltb}
use Rattle.analysis.specs.declared.row.Row.{Row}
use Rattle.analysis.specs.Standing.{Stands}
use Rattle.calls.specs.declared.event.Event.TheVariants.{Released}
use Rattle.calls.specs.declared.record.Record.{Record}
use Rattle.calls.specs.Events.{no_record}
use Rattle.fabric.specs.Paths.{links_in, shares}
use Rattle.packets.specs.Calls.{Call, release, inject, Packet, no_packet, is_open, wants, ledger, Fits, slot_of, last_of, left_of, made_of, place_of}
use Rattle.packets.proofs.Ledger.{free_again}
use Rattle.packets.proofs.Rows.{rows_tell, wanting}
use Rattle.packets.proofs.Steps.{slot_same, last_own, last_other, left_own, left_other, made_release, place_own, place_other, packet_new, packet_kept, new_of}
use Rattle.rows.specs.declared.flow_row.FlowRow.{FlowRow}
use Rattle.rows.specs.Blank.{no_row}
use Rattle.rows.specs.Releases.{begun, opening}
use Rattle.rows.specs.Times.{late, ahead, soon}
use Rattle.rows.specs.Grants as rows
use Rattle.timing.proofs.Options.{cases_option}
use Rattle.timing.specs.Model.{Table, Flow}
use Rattle.timing.specs.Figures.{bound_of}
use Rattle.history.specs.State.{State, known, row_of}
use Rattle.history.specs.Steps.{released}
use Rattle.history.specs.Counted.{History, accepted, owed_after, recorded}
use Rattle.history.specs.Since.{Since, Lists, Holds, Follows}
use Rattle.history.proofs.Carried.{no_report}
use Rattle.history.proofs.Checks.{BeforeBusy}

-- a flow that never released has nothing to come
none_left : (b : Table) (l : List Call) (i : ℕ) → last_of l i ≡ None → left_of b l i ≡ 0
unfolding last_of left_of
none_left b [] i e = refl
none_left b (release j t ∷ l) i e =
    ⊎_elim
    (λ (yes : eqb i j ≡ true). cc (ap (λ c. cond c (Some t) (last_of l i)) yes))
    (λ (no : eqb i j ≡ false). ap (λ c. cond c (b.w i) (left_of b l i)) no ∙ none_left b l i (sym (ap (λ c. cond c (Some t) (last_of l i)) no) ∙ e))
    (cases_Bool (eqb i j))
none_left b (inject ∷ l) i e = omega (arith, none_left b l i e)

-- the separation since the last release
apart_from : (last : Option ℕ) (separation t s : ℕ) → soon last separation t ≡ false → last ≡ Some s → s + separation ≤ t
apart_from None separation t s e is = cc
apart_from (Some r) separation t s e is = let same : r ≡ s = cc in omega (arith, ltb-false t (r + separation) e, same)

ne_place : (i j : ℕ) → 1 ≤ i → 1 ≤ j → (j ≡ i → ⊥) → j - 1 ≡ i - 1 → ⊥
ne_place i j low low' other e = other (omega arith)

module _ (most : ℕ) (b : Table) (h : History) (s : State) (i t : ℕ) (u : Since most b h s) where
  abbrev calls : List Call
  calls = accepted h

  -- the tests of a release that come before the one for an open packet
  abbrev Before : Type 0
  Before = BeforeBusy s.ended s.owed (not (known s i)) (late s.times s.slot i t) (ahead s.times s.slot i t) (soon (row_of s i).progress.last (row_of s i).flow.«record».separation t)

  flow_of_lem : Before → Flow b i
  flow_of_lem p =
      let parts = and_parts (leb 1 i) (leb i (length s.rows)) (not-false (known s i) p.flow) in
      record { from = leb-true 1 i parts.0; upto = omega (arith, leb-true i (length s.rows) parts.1, u.table.flows) }

  -- where the flow's interval ends in the slot
  ends_at : s.slot * s.times.length + i * s.times.interval ≡ slot_of calls * b.S + b.e i
  ends_at = ap₂ (λ (m n : ℕ). m + n) (ap₂ (λ (m n : ℕ). m * n) u.slot u.table.times.length_is) (sym (u.table.times.ends i))

  before_end : Before → t < slot_of calls * b.S + b.e i
  before_end p = omega (arith, leb-false (s.slot * s.times.length + i * s.times.interval) t p.not_ahead, ends_at)

  spaced : (p : Before) (r : ℕ) → last_of calls i ≡ Some r → r + b.T i ≤ t
  spaced p r is =
      let f = flow_of_lem p in
      omega (arith, apart_from (row_of s i).progress.last (row_of s i).flow.«record».separation t r p.apart ((u.each i f).last ∙ is), (u.table.each i f).separation)

  row_wants : Flow b i → rows.wants (row_of s i) ≡ wants b (ledger b calls) i
  row_wants f = ap (ltb 0) (u.each i f).left ∙ sym (wanting b u.table.exact.lawful calls u.lawful i)

  -- a bounded flow's packet has left before the next may be released
  pub held_unbounded : Before × (rows.wants (row_of s i) ≡ true) → bound_of b i ≡ None
  held_unbounded p =
      let f = flow_of_lem p.0 in
      let wanting-now : wants b (ledger b calls) i ≡ true = sym (row_wants f) ∙ p.1 in
      let left_some : 0 < left_of b calls i = ltb-true 0 (left_of b calls i) (sym (wanting b u.table.exact.lawful calls u.lawful i) ∙ wanting-now) in
      ⊎_elim
      (λ (none : bound_of b i ≡ None). none)
      (λ some.
      ⊎_elim
      (λ (never : last_of calls i ≡ None). absurd (omega (arith, left_some, none_left b calls i never)))
      (λ last. absurd (both_ways (wants b (ledger b calls) i)
      (free_again b u.table.exact.lawful (bound_of b) u.table.exact.bounds calls u.lawful i some.0 last.0 t some.1 last.1 (spaced p.0 last.0 last.1) (before_end p.0))
      wanting-now))
      (cases_option (last_of calls i)))
      (cases_option (bound_of b i))

  module _ (p : Before) (idle : rows.wants (row_of s i) ≡ false) where
    abbrev f : Flow b i
    f = flow_of_lem p

    place_in : i - 1 < length s.rows
    place_in = omega (arith, f.from, f.upto, u.table.flows)

    fits : Fits b calls i t
    fits =
        record {
          flow = f;
          in_time = omega (arith, ltb-false (t + s.times.length) (s.slot * s.times.length + i * s.times.interval) p.in_time, ends_at, u.table.times.length_is);
          not_ahead = before_end p;
          apart = spaced p;
          free = sym (row_wants f) ∙ idle;
        }

    own_row : row_of (released s i t) i ≡ begun (row_of s i) t s.count
    own_row = get_or-set_same s.rows (i - 1) (begun (row_of s i) t s.count) no_row place_in

    other_row : (j : ℕ) → Flow b j → (j ≡ i → ⊥) → row_of (released s i t) j ≡ row_of s j
    other_row j g ne = get_or-set_other s.rows (i - 1) (j - 1) (begun (row_of s i) t s.count) no_row (ne_place i j f.from g.from ne)

    -- what load fixed stays
    flow_is : (j : ℕ) → Flow b j → (row_of (released s i t) j).flow ≡ (row_of s j).flow
    flow_is j g =
        ⊎_elim
        (λ (same : j ≡ i). ap (λ n. (row_of (released s i t) n).flow) same ∙ ap (λ (r : FlowRow). r.flow) own_row ∙ ap (λ n. (row_of s n).flow) (sym same))
        (λ (ne : j ≡ i → ⊥). ap (λ (r : FlowRow). r.flow) (other_row j g ne))
        (cases_eq j i)

    holds : Holds most b (released s i t)
    holds =
        let o = u.table in
        record {
          exact = o.exact;
          flows = length-set s.rows (i - 1) (begun (row_of s i) t s.count) ∙ o.flows;
          fits = o.fits;
          times = o.times;
          each = λ j g. subst (λ (r : Row). Stands b r j) (sym (flow_is j g)) (o.each j g);
          meets = λ j m g e. o.meets j m g e ∙ ap₂ (λ (x y : Row). ltb j m && shares (links_in x.path) (links_in y.path)) (sym (flow_is j g)) (sym (flow_is m e));
        }

    own : Follows b (Released i t (Ok tt) ∷ h) i (begun (row_of s i) t s.count).progress
    own =
        record {
          left = (u.table.each i f).parts ∙ sym (left_own b calls i t i refl);
          place = u.count ∙ sym (place_own calls i t i refl);
          last = sym (last_own calls i t i refl);
          denials = λ more. sym (ap (λ n. (get_or (ledger b (release i t ∷ calls)) n no_packet).denials) (place_own calls i t i refl) ∙ ap (λ (q : Packet). q.denials) (packet_new b calls i t no_packet));
          wanted = (u.each i f).wanted;
          granted = (u.each i f).granted;
        }

    others : (j : ℕ) → Flow b j → (j ≡ i → ⊥) → Follows b (Released i t (Ok tt) ∷ h) j (row_of s j).progress
    others j g ne =
        let old = u.each j g in
        record {
          left = old.left ∙ sym (left_other b calls i t j ne);
          place = old.place ∙ sym (place_other calls i t j ne);
          last = old.last ∙ sym (last_other calls i t j ne);
          denials = λ more.
              let some : 0 < left_of b calls j = omega (arith, more, old.left) in
              let there = (rows_tell b u.table.exact.lawful calls u.lawful j).place some in
              old.denials more
              ∙ sym (ap (λ n. (get_or (ledger b (release i t ∷ calls)) n no_packet).denials) (place_other calls i t j ne) ∙ ap (λ (q : Packet). q.denials) (packet_kept b calls i t (place_of calls j) no_packet there));
          wanted = old.wanted;
          granted = old.granted;
        }

    follows : (j : ℕ) → Flow b j → Follows b (Released i t (Ok tt) ∷ h) j (row_of (released s i t) j).progress
    follows j g =
        ⊎_elim
        (λ (same : j ≡ i).
        let P : ℕ → Type 0 = λ n. Follows b (Released i t (Ok tt) ∷ h) n (row_of (released s i t) n).progress in
        let Q : FlowRow → Type 0 = λ r. Follows b (Released i t (Ok tt) ∷ h) i r.progress in
        subst P (sym same) (subst Q (sym own_row) own))
        (λ (ne : j ≡ i → ⊥).
        let Q : FlowRow → Type 0 = λ r. Follows b (Released i t (Ok tt) ∷ h) j r.progress in
        subst Q (sym (other_row j g ne)) (others j g ne))
        (cases_eq j i)

    not_owed : owed_after h ≡ true → ⊥
    not_owed e = both_ways s.owed p.idle (u.owed ∙ e)

    pub release_since : Since most b (Released i t (Ok tt) ∷ h) (released s i t)
    release_since =
        record {
          table = holds;
          lawful = (fits, u.lawful);
          slot = u.slot ∙ sym (slot_same calls i t);
          count = omega (arith, u.count, made_release calls i t);
          owed = u.owed;
          ended = u.ended;
          each = follows;
          levels = u.levels;
          short = u.short;
          waiting = λ e. absurd (not_owed e);
          room = λ e. absurd (not_owed e);
          free = (λ j v same. cc, u.free);
        }

    -- the new record
    new_open : is_open b (new_of calls i t) ≡ true
    unfolding is_open
    new_open = lt-ltb 0 (b.w i) (u.table.exact.lawful.parts i f)

    new_record : opening i t s.slot ≡ recorded b (new_of calls i t)
    new_record =
        ap (λ n. opening i t n) u.slot
        ∙ sym (ap (λ (c : Bool). record { flow = i; release = t; first = slot_of calls; grants = 0; denials = 0; arrival = cond c 0 ((slot_of calls + 0 + 0) * b.S + b.c i); pending = c }) new_open)

    pub release_lists : (k : List Record) → ltb (length k) s.count ≡ false → eqb (length k) s.count ≡ false → Lists b h k →
        Lists b (Released i t (Ok tt) ∷ h) (set k s.count (opening i t s.slot))
    release_lists k enough space l =
        let count = u.count in
        let room : made_of calls < length k = omega (arith, ltb-false (length k) s.count enough, eqb-false (length k) s.count space, count) in
        let new = opening i t s.slot in
        record {
          long = omega (arith, made_release calls i t, length-set k s.count new);
          each = λ n less.
              ⊎_elim
              (λ (old : n < made_of calls).
              get_or-set_other k s.count n new no_record (λ e. omega (arith, e)) ∙ l.each n old ∙ ap (recorded b) (sym (packet_kept b calls i t n no_packet old)))
              (λ (ge : made_of calls ≤ n).
              let at : n ≡ made_of calls = omega (arith, less, made_release calls i t) in
              ap (λ m. get_or (set k s.count new) m no_record) (at ∙ sym count)
              ∙ get_or-set_same k s.count new no_record (omega (arith, room))
              ∙ new_record
              ∙ ap (recorded b) (sym (packet_new b calls i t no_packet))
              ∙ ap (λ m. recorded b (get_or (ledger b (release i t ∷ calls)) m no_packet)) (sym at))
              (cases_lt n (made_of calls));
          told = no_report b h (Released i t (Ok tt)) (λ e. omega arith) l.told;
        }
