-- What is promised after every list of calls, refused ones included. Assumes nothing.
--   SharesLink: one link number stands in both routes
--   IsInTime: of one packet; RunPromise: of the run; LedgerPromise: of the ledger and of the reports
--   Upholds: a call, with its answer, keeps both, whatever calls went before
use Rattle.std.specs.Prelude.{◌≡◌, ℕ, ◌+◌, ◌-◌, ◌*◌, ◌<◌, ◌≤◌, Bool, true, false, List, ◌∷◌, length, Some, slice_index_or}
use Rattle.calls.specs.declared.event.Event.{Event}
use Rattle.calls.specs.declared.record.Record.{Record}
use Rattle.calls.specs.Events.{no_record}
use Rattle.fabric.specs.Paths.{has}
use Rattle.packets.specs.Calls.{no_packet, ledger, slot_of}
use Rattle.timing.specs.Model.{Table, Flow}
use Rattle.timing.specs.Figures.{bound_of}
use Rattle.history.specs.State.{State, row_of, route_of}
use Rattle.history.specs.Counted.{History, accepted, owed_after, ended_after, wanted_in, granted_in, levels_in, recorded}
use Rattle.history.specs.Since.{Since, Lists, NeverHeld, CountedRight}

abbrev pub SharesLink : List ℕ → List ℕ → Type 0
SharesLink p q = (link : ℕ) × (has link p ≡ true) × (has link q ≡ true)

-- who wanted, and who was granted, as the run keeps it
abbrev pub wanted : State → ℕ → Bool
wanted s i = (row_of s i).progress.wanted

abbrev pub is_granted : State → ℕ → Bool
is_granted s i = (row_of s i).progress.granted

-- A packet's record, n slots having been injected.
pub record IsInTime (b : Table) (n : ℕ) (p : Record) : Type 0 where
  -- a bounded flow's packet arrived within its bound,
  pub arrived : (bound : ℕ) → bound_of b p.flow ≡ Some bound → p.pending ≡ false → p.arrival ≤ p.release + bound
  -- and an open one arrives within it, even if each of its parts that are left takes one more slot
  pub waiting :
      (bound : ℕ) → bound_of b p.flow ≡ Some bound → p.pending ≡ true →
      (n + (b.w p.flow - p.grants)) * b.S + b.c p.flow ≤ p.release + bound
  -- an arrived packet has one grant for each part, and arrived when its slots and its last part's travel were over
  pub whole : p.pending ≡ false → p.grants ≡ b.w p.flow
  pub figure : p.pending ≡ false → p.arrival ≡ (p.first + p.grants + p.denials) * b.S + b.c p.flow
  -- an open one was granted or denied in each slot since its first
  pub slots : p.pending ≡ true → p.first + p.grants + p.denials ≡ n

pub record RunPromise (b : Table) (h : History) (s : State) : Type 0 where
  -- in the slot last arbitrated no two granted flows share a link,
  pub apart : (i j : ℕ) → Flow b i → Flow b j → j < i → is_granted s i ≡ true → is_granted s j ≡ true → SharesLink (route_of s j) (route_of s i) → ⊥
  -- each granted flow wanted, and each denied one shares a link with a granted flow of higher priority
  pub asked : (i : ℕ) → Flow b i → is_granted s i ≡ true → wanted s i ≡ true
  pub yields :
      (i : ℕ) → Flow b i → wanted s i ≡ true → is_granted s i ≡ false →
      (j : ℕ) × Flow b j × (j < i) × (is_granted s j ≡ true) × SharesLink (route_of s j) (route_of s i)
  -- each packet that the accepted calls made is in time, whatever became of the ledger,
  pub in_time : (p : ℕ) → p < length (ledger b (accepted h)) → IsInTime b (slot_of (accepted h)) (recorded b (slice_index_or (ledger b (accepted h)) p no_packet))
  -- and no release of a bounded flow was refused for an open packet
  pub free : NeverHeld b h
  -- the slot, the count of records, whether an injection is owed and whether the run has ended,
  pub slots : s.slot ≡ slot_of (accepted h)
  pub records : s.count ≡ length (ledger b (accepted h))
  pub owing : s.owed ≡ owed_after h
  pub over : s.ended ≡ ended_after h
  -- who wanted, who was granted and the medium's levels are those counted from the accepted calls
  pub wanting : (i : ℕ) → Flow b i → wanted s i ≡ wanted_in b h i
  pub granting : (i : ℕ) → Flow b i → is_granted s i ≡ granted_in b h i
  pub levels : s.levels ≡ levels_in b h

pub record LedgerPromise (b : Table) (h : History) (k : List Record) : Type 0 where
  -- the records are the packets counted from the accepted calls, in the order of their acceptance
  pub long : length (ledger b (accepted h)) ≤ length k
  pub records : (p : ℕ) → p < length (ledger b (accepted h)) → slice_index_or k p no_record ≡ recorded b (slice_index_or (ledger b (accepted h)) p no_packet)
  pub in_time : (p : ℕ) → p < length (ledger b (accepted h)) → IsInTime b (slot_of (accepted h)) (slice_index_or k p no_record)
  -- each report told how many packets were accepted, arrived and open by then, and the first is the sum of the others
  pub reports : CountedRight b h

-- A call with its answer, from one run and ledger to the next. A ledger that was altered from outside lists no packets, and changes nothing of the run.
abbrev pub Upholds : ℕ → Event → State → List Record → State → List Record → Type 0
Upholds most e s k s' k' =
    (b : Table) (h : History) → Since most b h s →
    Since most b (e ∷ h) s' × RunPromise b (e ∷ h) s' × (Lists b h k → Lists b (e ∷ h) k' × LedgerPromise b (e ∷ h) k')
