-- An injection keeps what is true after a list of calls. Assumes nothing.
--   winners: those granted in the slot that is injected
--   Now: what a row keeps while its injection is owed
--   inject_since: the run; inject_lists: the ledger
use Rattle.std.proofs.Common.{◌≡◌, ℕ, suc, ◌+◌, ◌-◌, ◌*◌, ◌<◌, min, Bool, true, false, cond, not, ◌&&◌, eqb, ltb, List, ◌∷◌, length, get_or, Ok, sym, refl, ap, ◌∙◌, subst, ap₂, inl, inr, arith}
use lib.ListN.{length-map}
use Rattle.std.proofs.lemmas.Bool.{cases_Bool, both_ways, and_parts, lt-ltb, ltb-true}
use Rattle.std.proofs.lemmas.Bool.Decides.{nat_tests}
use Rattle.analysis.specs.Standing.{Stands}
use Rattle.analysis.specs.declared.row.Row.{Row}
use Rattle.calls.specs.declared.event.Event.TheVariants.{Injected}
use Rattle.calls.specs.declared.record.Record.{Record}
use Rattle.calls.specs.declared.slip_name.SlipName.{SlipName}
use Rattle.calls.specs.Events.{no_record}
use Rattle.fabric.specs.Paths.{shares, links_in}
use Rattle.packets.specs.Calls.{Call, inject, Accepted, Packet, no_packet, is_open, wants, granted, counted, ledger, slot_of, left_of, made_of, place_of}
use Rattle.packets.proofs.Arbiter.{granted_is, granted_same}
use Rattle.packets.proofs.Ledger.{lt_open, count_open}
use Rattle.packets.proofs.Placed.{open_placed, tied_at}
use Rattle.packets.proofs.Rows.{rows_tell, wanting}
use Rattle.packets.proofs.Steps.{slot_suc, last_inject, left_inject, made_inject, place_inject, packet_counted, counted_flow, counted_time, counted_first}
use Rattle.packets.proofs.Written.{closed_stays}
use Rattle.rows.specs.declared.flow_row.FlowRow.{FlowRow}
use Rattle.rows.specs.Blank.{no_row}
use Rattle.rows.specs.Serving.{won, served, noted, ledger_after}
use Rattle.rows.specs.Times.{slot_end}
use Rattle.rows.proofs.Served.{served_at, ledger_length, ledger_other, ledger_at}
use Rattle.timing.proofs.Sums.{one_le}
use Rattle.timing.specs.Counts.{some_to, one}
use Rattle.timing.specs.Model.{Table, Flow, Lawful}
use Rattle.history.specs.State.{State, row_of, names}
use Rattle.history.specs.Steps.{injected}
use Rattle.history.specs.Counted.{History, accepted, owed_after, wanted_in, recorded, arrival_of}
use Rattle.history.proofs.Promised.{done_all}
use Rattle.history.specs.Since.{Holds, Follows, Since, Lists}

-- numbers and tests

-- a grant takes one part
left_less : (g : Bool) (x : ℕ) → cond g (x - 1) x ≡ x - one g
unfolding one
left_less true x = refl
left_less false x = omega arith

-- who wanted gets a grant or a denial
denied : (w g : Bool) (d : ℕ) → w ≡ true → d < 4294967295 → cond (w && not g) (min (d + 1) 4294967295) d + one g ≡ d + 1
unfolding one
denied true true d e small = refl
denied true false d e small = omega arith
denied false g d e small = cc

and_same : (x y : Bool) → (y ≡ true → x ≡ true) → (x && y) ≡ y
and_same true y f = refl
and_same false true f = f refl
and_same false false f = refl

-- parts are left exactly while a grant is missing
rest_test : (x g w : ℕ) → x + g ≡ w → ltb 0 x ≡ ltb g w
rest_test x g w e = grind (arith, nat_tests)

-- a granted flow wants
pub grant_wants : (b : Table) (want : ℕ → Bool) (i : ℕ) → granted b want i ≡ true → want i ≡ true
grant_wants b want i e = (and_parts (want i) (not (some_to i (λ h. b.H h i && granted b want h))) (sym (granted_is b want i) ∙ e)).0

-- those granted in the slot that follows the calls
abbrev pub winners : Table → List Call → ℕ → Bool
winners b l = granted b (wants b (ledger b l))

-- what a row keeps while its injection is owed
pub record Now (b : Table) (l : List Call) (i : ℕ) (r : FlowRow) : Type 0 where
  pub left : r.progress.left ≡ left_of b l i
  pub place : r.progress.place ≡ place_of l i
  pub denials : 0 < left_of b l i → r.progress.denials ≡ (get_or (ledger b l) (place_of l i) no_packet).denials
  pub wanted : r.progress.wanted ≡ ltb 0 (left_of b l i)
  pub granted : r.progress.granted ≡ winners b l i
  pub wins : won r ≡ winners b l i

pub now : (most : ℕ) (b : Table) (h : History) (s : State) → owed_after h ≡ true → Since most b h s → (i : ℕ) → Flow b i → Now b (accepted h) i (row_of s i)
now most b h s owed u i known =
    let l = accepted h in
    let f = u.each i known in
    let want : (row_of s i).progress.wanted ≡ wants b (ledger b l) i = f.wanted ∙ u.waiting owed i in
    let grant : (row_of s i).progress.granted ≡ winners b l i = f.granted ∙ granted_same b (wanted_in b h) (wants b (ledger b l)) (u.waiting owed) i in
    record {
      left = f.left;
      place = f.place;
      denials = λ pos. f.denials (omega (arith, f.left));
      wanted = want ∙ wanting b u.table.exact.lawful l u.lawful i;
      granted = grant;
      wins = ap₂ ◌&&◌ want grant ∙ and_same (wants b (ledger b l) i) (winners b l i) (grant_wants b (wants b (ledger b l)) i);
    }

-- the parts that are left after the slot
pub left_after : (b : Table) (l : List Call) (i : ℕ) (r : FlowRow) → Now b l i r → (served r).progress.left ≡ left_of b l i - one (winners b l i)
left_after b l i r n =
    let g = winners b l i in
    ap₂ (λ (t : Bool) (x : ℕ). cond t (x - 1) x) n.wins n.left ∙ left_less g (left_of b l i)

pub left_next : (b : Table) (law : Lawful b) (l : List Call) → Accepted b l → (i : ℕ) → left_of b (inject ∷ l) i ≡ left_of b l i - one (winners b l i)
left_next b law l ok i =
    left_inject b l i ∙ ap (λ (t : Bool). left_of b l i - one t) (sym (granted_same b (wants b (ledger b l)) (λ k. ltb 0 (left_of b l k)) (wanting b law l ok) i))

-- an open packet c after the slot, and the row of its flow
pub record Stepped (b : Table) (l : List Call) (i : ℕ) (r : FlowRow) (c : Packet) : Type 0 where
  pub flow : c.flow ≡ i
  pub left : (served r).progress.left + c.grants ≡ b.w i
  pub denials : (served r).progress.denials ≡ c.denials
  pub slots : c.first + c.grants + c.denials ≡ slot_of l + 1

pub stepped :
    (b : Table) (law : Lawful b) (l : List Call) → Accepted b l → slot_of l < 4294967295 → (i : ℕ) (r : FlowRow) → Now b l i r → 0 < left_of b l i →
    Stepped b l i r (counted b (winners b l) (get_or (ledger b l) (place_of l i) no_packet))
stepped b law l ok small i r n pos =
    let q = get_or (ledger b l) (place_of l i) no_packet in
    let g = winners b l i in
    let tell = rows_tell b law l ok i in
    let flow = tell.flow pos no_packet in
    let left = tell.left pos no_packet in
    let few : q.grants < b.w q.flow = omega (arith, ap b.w flow) in
    let c = count_open b (winners b l) q few in
    let own : one (winners b l q.flow) ≡ one g = ap (λ (k : ℕ). one (winners b l k)) flow in
    let slots = (tied_at b law l ok (place_of l i) no_packet (tell.place pos)).slots few in
    let less = left_after b l i r n in
    let most = one_le g in
    let old = n.denials pos in
    let wanted : r.progress.wanted ≡ true = n.wanted ∙ lt-ltb 0 (left_of b l i) pos in
    let lose = denied r.progress.wanted r.progress.granted r.progress.denials wanted (omega arith) in
    let grant : one r.progress.granted ≡ one g = ap one n.granted in
    record {
      flow = counted_flow b (winners b l) q ∙ flow;
      left = omega arith;
      denials = omega arith;
      slots = omega (arith, counted_first b (winners b l) q);
    }

-- the run

-- each row is served, and what load fixed of it stays
pub served_row : (most : ℕ) (b : Table) (s : State) → Holds most b s → (i : ℕ) → Flow b i → row_of (injected s) i ≡ served (row_of s i)
served_row most b s t i known = served_at s.rows (i - 1) (omega arith)

served_flow : (most : ℕ) (b : Table) (s : State) → Holds most b s → (i : ℕ) → Flow b i → (row_of (injected s) i).flow ≡ (row_of s i).flow
served_flow most b s t i known = ap (λ (r : FlowRow). r.flow) (served_row most b s t i known)

inject_holds : (most : ℕ) (b : Table) (s : State) → Holds most b s → Holds most b (injected s)
inject_holds most b s t =
    record {
      exact = t.exact;
      flows = length-map s.rows served ∙ t.flows;
      fits = t.fits;
      times = t.times;
      each = λ i known. subst (λ (x : Row). Stands b x i) (sym (served_flow most b s t i known)) (t.each i known);
      meets = λ h i known own.
          t.meets h i known own
          ∙ ap₂ (λ (x y : Row). ltb h i && shares (links_in x.path) (links_in y.path)) (sym (served_flow most b s t h known)) (sym (served_flow most b s t i own));
    }

inject_follows :
    (most : ℕ) (b : Table) (h : History) (s : State) (p : SlipName) (n : ℕ) → owed_after h ≡ true → Since most b h s → (i : ℕ) → Flow b i →
    Follows b (Injected p (Ok n) ∷ h) i (served (row_of s i)).progress
inject_follows most b h s p n owed u i known =
    let l = accepted h in
    let law = u.table.exact.lawful in
    let ok = u.lawful in
    let f = u.each i known in
    let r = row_of s i in
    let here = now most b h s owed u i known in
    let less = left_after b l i r here in
    record {
      left = less ∙ sym (left_next b law l ok i);
      place = f.place ∙ sym (place_inject l i);
      last = f.last ∙ sym (last_inject l i);
      denials = λ some.
          let pos : 0 < left_of b l i = omega arith in
          let at = (rows_tell b law l ok i).place pos in
          (stepped b law l ok (omega (arith, u.room owed, u.slot)) i r here pos).denials
          ∙ ap (λ (q : Packet). q.denials) (sym (packet_counted b l (place_of l i) no_packet at))
          ∙ ap (λ (k : ℕ). (get_or (ledger b (inject ∷ l)) k no_packet).denials) (sym (place_inject l i));
      wanted = f.wanted;
      granted = f.granted;
    }

-- a slip that names the run finds its injection owed
pub owed_now : (most : ℕ) (b : Table) (h : History) (s : State) (p : SlipName) → names s p ≡ true → Since most b h s → owed_after h ≡ true
owed_now most b h s p named u = sym u.owed ∙ (and_parts s.owed (eqb p.number s.number && eqb p.slot s.slot) named).0

pub inject_since :
    (most : ℕ) (b : Table) (h : History) (s : State) (p : SlipName) (n : ℕ) → names s p ≡ true → Since most b h s →
    Since most b (Injected p (Ok n) ∷ h) (injected s)
inject_since most b h s p n named u =
    let l = accepted h in
    let owed = owed_now most b h s p named u in
    record {
      table = inject_holds most b s u.table;
      lawful = u.lawful;
      slot = omega (arith, u.slot, slot_suc l);
      count = u.count ∙ sym (made_inject l);
      owed = refl;
      ended = u.ended;
      each = λ i known.
          subst (λ (r : FlowRow). Follows b (Injected p (Ok n) ∷ h) i r.progress) (sym (served_row most b s u.table i known))
          (inject_follows most b h s p n owed u i known);
      levels = u.levels;
      short = omega (arith, u.room owed);
      waiting = λ e. cc;
      room = λ e. cc;
      free = (λ i t e. cc, u.free);
    }

-- the ledger

pub same_record :
    (x y : Record) → x.flow ≡ y.flow → x.release ≡ y.release → x.first ≡ y.first → x.grants ≡ y.grants → x.denials ≡ y.denials →
    x.arrival ≡ y.arrival → x.pending ≡ y.pending → x ≡ y
same_record x y e₁ e₂ e₃ e₄ e₅ e₆ e₇ =
    λ i. record { flow = e₁ i; release = e₂ i; first = e₃ i; grants = e₄ i; denials = e₅ i; arrival = e₆ i; pending = e₇ i }

-- parts are left in the row exactly while the packet is open
open_still : (b : Table) (l : List Call) (i : ℕ) (r : FlowRow) (c : Packet) → Stepped b l i r c → ltb 0 (served r).progress.left ≡ is_open b c
unfolding is_open
open_still b l i r c d = rest_test (served r).progress.left c.grants (b.w c.flow) (d.left ∙ ap b.w (sym d.flow))

-- a packet's last part has travelled
arrived_then :
    (b : Table) (l : List Call) (i : ℕ) (r : FlowRow) (c : Packet) (end : ℕ) → Stepped b l i r c → Stands b r.flow i → end ≡ (slot_of l + 1) * b.S →
    end + r.flow.tail ≡ arrival_of b c
arrived_then b l i r c end d st at = ap₂ ◌+◌ (at ∙ ap (λ (m : ℕ). m * b.S) (sym d.slots)) (st.tail ∙ ap b.c (sym d.flow))

noted_counted :
    (b : Table) (l : List Call) (i : ℕ) (r : FlowRow) (q : Packet) (end : ℕ) → Stepped b l i r (counted b (winners b l) q) → Stands b r.flow i →
    end ≡ (slot_of l + 1) * b.S → noted end (served r) (recorded b q) ≡ recorded b (counted b (winners b l) q)
noted_counted b l i r q end d st at =
    let c = counted b (winners b l) q in
    let still = open_still b l i r c d in
    same_record (noted end (served r) (recorded b q)) (recorded b c)
    (sym (counted_flow b (winners b l) q)) (sym (counted_time b (winners b l) q)) (sym (counted_first b (winners b l) q))
    (omega (arith, d.left, st.parts)) d.denials (ap₂ (λ (t : Bool) (x : ℕ). cond t 0 x) still (arrived_then b l i r c end d st at)) still

-- the row at index j is that of flow j + 1
pub row_at : (s : State) (j : ℕ) → row_of s (suc j) ≡ get_or s.rows j no_row
row_at s j = let e : suc j - 1 ≡ j = omega arith in ap (λ (m : ℕ). get_or s.rows m no_row) e

-- a row that wanted has an open packet of its flow at its place
pub writes :
    (most : ℕ) (b : Table) (h : History) (s : State) → owed_after h ≡ true → Since most b h s → (j : ℕ) → j < length s.rows →
    (get_or s.rows j no_row).progress.wanted ≡ true → (p : ℕ) → (get_or s.rows j no_row).progress.place ≡ p →
    ((get_or (ledger b (accepted h)) p no_packet).flow ≡ suc j) × (is_open b (get_or (ledger b (accepted h)) p no_packet) ≡ true)
writes most b h s owed u j lt want p at =
    let l = accepted h in
    let known : Flow b (suc j) = record { from = omega arith; upto = omega (arith, u.table.flows) } in
    let own : row_of s (suc j) ≡ get_or s.rows j no_row = row_at s j in
    let n = now most b h s owed u (suc j) known in
    let tell = rows_tell b u.table.exact.lawful l u.lawful (suc j) in
    let pos = ltb-true 0 (left_of b l (suc j)) (sym n.wanted ∙ ap (λ (r : FlowRow). r.progress.wanted) own ∙ want) in
    let q = get_or (ledger b l) p no_packet in
    let place : place_of l (suc j) ≡ p = sym n.place ∙ ap (λ (r : FlowRow). r.progress.place) own ∙ at in
    let here : get_or (ledger b l) (place_of l (suc j)) no_packet ≡ q = ap (λ (k : ℕ). get_or (ledger b l) k no_packet) place in
    let flow : q.flow ≡ suc j = ap (λ (x : Packet). x.flow) (sym here) ∙ tell.flow pos no_packet in
    let left = tell.left pos no_packet in
    (flow, lt_open b q (omega (arith, ap b.w flow, ap (λ (x : Packet). x.grants) here)))

-- an open packet's record is written, by the row of its flow alone
lists_open :
    (most : ℕ) (b : Table) (h : History) (s : State) (k : List Record) → owed_after h ≡ true → Since most b h s → Lists b h k → (p : ℕ) → p < made_of (accepted h) →
    is_open b (get_or (ledger b (accepted h)) p no_packet) ≡ true →
    get_or (ledger_after (slot_end s.times s.slot) s.rows k) p no_record
    ≡ recorded b (counted b (winners b (accepted h)) (get_or (ledger b (accepted h)) p no_packet))
lists_open most b h s k owed u v p lt e =
    let l = accepted h in
    let law = u.table.exact.lawful in
    let q = get_or (ledger b l) p no_packet in
    let i = q.flow in
    let r = row_of s i in
    let end = slot_end s.times s.slot in
    let told = open_placed b law l u.lawful p lt e in
    let known = told.2 in
    let n = now most b h s owed u i known in
    let at : r.progress.place ≡ p = n.place ∙ told.0 in
    let wanted : r.progress.wanted ≡ true = n.wanted ∙ lt-ltb 0 (left_of b l i) told.1 in
    let step = stepped b law l u.lawful (omega (arith, u.room owed, u.slot)) i r n told.1 in
    let step' : Stepped b l i r (counted b (winners b l) q) =
    subst (λ (m : ℕ). Stepped b l i r (counted b (winners b l) (get_or (ledger b l) m no_packet))) told.0 step in
    let ends : end ≡ (slot_of l + 1) * b.S = ap₂ (λ (m x : ℕ). (m + 1) * x) u.slot u.table.times.length_is in
    let written =
    ledger_at end s.rows k (i - 1) (omega (arith, u.table.flows, known)) wanted (omega (arith, v.long))
    (λ j less ne want same. ne (omega (arith, (writes most b h s owed u j less want p (same ∙ at)).0))) in
    ap (λ (m : ℕ). get_or (ledger_after end s.rows k) m no_record) (sym at)
    ∙ written
    ∙ ap (λ (m : ℕ). noted end (served r) (get_or k m no_record)) at
    ∙ ap (noted end (served r)) (v.each p lt)
    ∙ noted_counted b l i r q end step' (u.table.each i known) ends

-- any other stays
lists_closed :
    (most : ℕ) (b : Table) (h : History) (s : State) (k : List Record) → owed_after h ≡ true → Since most b h s → Lists b h k → (p : ℕ) → p < made_of (accepted h) →
    is_open b (get_or (ledger b (accepted h)) p no_packet) ≡ false →
    get_or (ledger_after (slot_end s.times s.slot) s.rows k) p no_record
    ≡ recorded b (counted b (winners b (accepted h)) (get_or (ledger b (accepted h)) p no_packet))
lists_closed most b h s k owed u v p lt e =
    let q = get_or (ledger b (accepted h)) p no_packet in
    ledger_other (slot_end s.times s.slot) s.rows k p (λ j less want at. both_ways (is_open b q) e (writes most b h s owed u j less want p at).1)
    ∙ v.each p lt
    ∙ ap (recorded b) (sym (closed_stays b (winners b (accepted h)) q (done_all b q e)))

pub inject_lists :
    (most : ℕ) (b : Table) (h : History) (s : State) (k : List Record) (p : SlipName) (n : ℕ) → names s p ≡ true → ltb (length k) s.count ≡ false →
    Since most b h s → Lists b h k → Lists b (Injected p (Ok n) ∷ h) (ledger_after (slot_end s.times s.slot) s.rows k)
inject_lists most b h s k p n named long u v =
    let l = accepted h in
    let owed = owed_now most b h s p named u in
    record {
      long = omega (arith, made_inject l, v.long, ledger_length (slot_end s.times s.slot) s.rows k);
      each = λ m lt.
          let old : m < made_of l = omega (arith, made_inject l) in
          let q = get_or (ledger b l) m no_packet in
          elim (cases_Bool (is_open b q)) [
            | inl still ↦ lists_open most b h s k owed u v m old still
            | inr done ↦ lists_closed most b h s k owed u v m old done
          ]
          ∙ ap (recorded b) (sym (packet_counted b l m no_packet old));
      told = (λ r e. cc, v.told);
    }
