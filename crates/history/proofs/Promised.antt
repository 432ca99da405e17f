-- What the calls made of a run keeps the promise. Assumes nothing.
use Rattle.std.proofs.Common.{◌≡◌, ℕ, ◌+◌, ◌*◌, ◌<◌, ◌≤◌, true, false, cond, not, ◌&&◌, ltb, List, ◌∷◌, length, get_or, sym, ap, ◌∙◌, subst, arith}
use Rattle.std.proofs.lemmas.Bool.{and_parts, and_from, both_ways, not-true, not-false, lt-ltb, ltb-true, ltb-false}
use Rattle.std.proofs.ByRecursion.{All-get_or}
use Rattle.calls.specs.declared.event.Event.{Event}
use Rattle.calls.specs.declared.record.Record.{Record}
use Rattle.fabric.specs.Paths.{shares}
use Rattle.timing.specs.Counts.{some_to}
use Rattle.timing.specs.Model.{Table, Flow}
use Rattle.timing.specs.Figures.{bound_of}
use Rattle.timing.proofs.Sums.{some_true, some_false}
use Rattle.packets.specs.Calls.{Packet, Kept, no_packet, is_open, ledger, slot_of}
use Rattle.packets.proofs.Arbiter.{granted_is}
use Rattle.packets.proofs.Ledger.{calls_in_bound}
use Rattle.packets.proofs.Steps.{ledger_length}
use Rattle.history.specs.State.{State, route_of}
use Rattle.history.specs.Counted.{History, accepted, wanted_in, granted_in, recorded}
use Rattle.history.specs.Since.{Since, Lists}
use Rattle.history.specs.Promise.{RunPromise, IsInTime, LedgerPromise, Upholds, SharesLink, is_granted, wanted}
use Rattle.history.proofs.Links.{link_from, link_shares}

-- A packet's record is in time.
open_less : (b : Table) (p : Packet) → is_open b p ≡ true → p.grants < b.w p.flow
unfolding is_open
open_less b p e = ltb-true p.grants (b.w p.flow) e

pub done_all : (b : Table) (p : Packet) → is_open b p ≡ false → b.w p.flow ≤ p.grants
unfolding is_open
done_all b p e = ltb-false p.grants (b.w p.flow) e

arrival_is : (b : Table) (p : Packet) → is_open b p ≡ false → (recorded b p).arrival ≡ (p.first + p.grants + p.denials) * b.S + b.c p.flow
arrival_is b p e = ap (λ t. cond t 0 ((p.first + p.grants + p.denials) * b.S + b.c p.flow)) e

pub record_in_time : (b : Table) (n : ℕ) (p : Packet) → Kept b (bound_of b) n p → IsInTime b n (recorded b p)
record_in_time b n p kept =
    record {
      arrived = λ bound is e.
          let full : p.grants ≡ b.w p.flow = omega (arith, done_all b p e, kept.whole) in
          omega (arith, arrival_is b p e, kept.arrived bound is full);
      waiting = λ bound is e. kept.waiting bound is (open_less b p e);
      whole = λ e. omega (arith, done_all b p e, kept.whole);
      figure = λ e. arrival_is b p e;
      slots = λ e. kept.slots (open_less b p e);
    }

module _ (most : ℕ) (b : Table) (h : History) (s : State) (u : Since most b h s) where
  -- who was granted, by who wanted
  decision : (i : ℕ) → Flow b i → is_granted s i ≡ (wanted s i && not (some_to i (λ j. b.H j i && granted_in b h j)))
  decision i f =
      (u.each i f).granted
      ∙ granted_is b (wanted_in b h) i
      ∙ ap (λ t. t && not (some_to i (λ j. b.H j i && granted_in b h j))) (sym (u.each i f).wanted)

  -- a flow above that delays a flow of the table is one too
  above : (i j : ℕ) → Flow b i → b.H j i ≡ true → Flow b j × (j < i)
  above i j f e = let less = u.table.exact.lawful.higher j i e in (record { from = less.0; upto = omega (arith, less.1, f.upto) }, less.1)

  apart : (i j : ℕ) → Flow b i → Flow b j → j < i → is_granted s i ≡ true → is_granted s j ≡ true → SharesLink (route_of s j) (route_of s i) → ⊥
  apart i j f g less gi gj link =
      let meets : b.H j i ≡ true = u.table.meets j i g f ∙ and_from (ltb j i) (shares (route_of s j) (route_of s i)) (lt-ltb j i less) (link_shares (route_of s j) (route_of s i) link) in
      let none = not-true (some_to i (λ j. b.H j i && granted_in b h j)) (and_parts _ _ (sym (decision i f) ∙ gi)).1 in
      both_ways (b.H j i && granted_in b h j) (some_false i j (λ j. b.H j i && granted_in b h j) none less) (and_from _ _ meets (sym (u.each j g).granted ∙ gj))

  yields :
      (i : ℕ) → Flow b i → wanted s i ≡ true → is_granted s i ≡ false →
      (j : ℕ) × Flow b j × (j < i) × (is_granted s j ≡ true) × SharesLink (route_of s j) (route_of s i)
  yields i f wi gi =
      let test = λ (j : ℕ). b.H j i && granted_in b h j in
      let no : not (some_to i test) ≡ false = ap (λ t. t && not (some_to i test)) (sym wi) ∙ sym (decision i f) ∙ gi in
      let some = some_true i test (not-false (some_to i test) no) in
      let j = some.0 in
      let parts = and_parts (b.H j i) (granted_in b h j) some.2 in
      let flow = above i j f parts.0 in
      let both = and_parts (ltb j i) (shares (route_of s j) (route_of s i)) (sym (u.table.meets j i flow.0 f) ∙ parts.0) in
      (j, flow.0, flow.1, (u.each j flow.0).granted ∙ parts.1, link_from (route_of s j) (route_of s i) both.1)

  -- the packets that the calls made
  pub packet_in_time : (p : ℕ) → p < length (ledger b (accepted h)) → IsInTime b (slot_of (accepted h)) (recorded b (get_or (ledger b (accepted h)) p no_packet))
  packet_in_time p less =
      let calls = accepted h in
      let kept = calls_in_bound b u.table.exact.lawful (bound_of b) u.table.exact.bounds calls u.lawful in
      record_in_time b (slot_of calls) (get_or (ledger b calls) p no_packet) (All-get_or (Kept b (bound_of b) (slot_of calls)) (ledger b calls) p no_packet less kept)

  pub run_promise : RunPromise b h s
  run_promise =
      record {
        apart = apart;
        asked = λ i f g. (and_parts (wanted s i) (not (some_to i (λ j. b.H j i && granted_in b h j))) (sym (decision i f) ∙ g)).0;
        yields = yields;
        in_time = packet_in_time;
        free = u.free;
        slots = u.slot;
        records = u.count ∙ sym (ledger_length b (accepted h));
        owing = u.owed;
        over = u.ended;
        wanting = λ i f. (u.each i f).wanted;
        granting = λ i f. (u.each i f).granted;
        levels = u.levels;
      }

pub ledger_promise : (most : ℕ) (b : Table) (h : History) (s : State) (k : List Record) → Since most b h s → Lists b h k → LedgerPromise b h k
ledger_promise most b h s k u l =
    let calls = accepted h in
    let count = ledger_length b calls in
    let at = λ (p : ℕ) (less : p < length (ledger b calls)). l.each p (omega (arith, less, count)) in
    record {
      long = omega (arith, l.long, count);
      records = at;
      in_time = λ p less.
          let P : Record → Type 0 = λ r. IsInTime b (slot_of calls) r in
          subst P (sym (at p less)) (packet_in_time most b h s u p less);
      reports = l.told;
    }

-- A call that keeps what the run and the ledger are upholds the promise.
pub upheld :
    (most : ℕ) (e : Event) (s : State) (k : List Record) (s' : State) (k' : List Record) →
    ((b : Table) (h : History) → Since most b h s → Since most b (e ∷ h) s' × (Lists b h k → Lists b (e ∷ h) k')) → Upholds most e s k s' k'
upheld most e s k s' k' keeps b h u =
    let next = keeps b h u in
    (next.0, run_promise most b (e ∷ h) s' next.0, λ l. let lists = next.1 l in (lists, ledger_promise most b (e ∷ h) s' k' next.0 lists))
