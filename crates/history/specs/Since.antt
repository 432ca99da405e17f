-- A run and its ledger are what a list of calls made of them, since a table was loaded. Assumes nothing.
--   Holds: the run's rows stand for the table's flows, over a medium with the limit given
--   Follows: what a run keeps of flow i is counted from the calls
--   Since: the run is what the calls made of it; Lists: the ledger is
use Rattle.std.specs.Prelude.{◌≡◌, ℕ, ◌+◌, ◌<◌, ◌≤◌, true, not, ◌&&◌, List, [], ◌∷◌, length, get_or, None, Ok, Err, count_by, nat_lt, slice_index_or}
use Rattle.analysis.specs.Answers.{Exactly}
use Rattle.analysis.specs.Standing.{InSlot, Stands}
use Rattle.calls.specs.declared.event.Event.TheVariants.{Released, Reported}
use Rattle.calls.specs.declared.record.Record.{Record}
use Rattle.calls.specs.declared.refusal.Refusal.TheVariants.{Busy}
use Rattle.calls.specs.declared.report.Report.{Report}
use Rattle.calls.specs.Events.{no_record}
use Rattle.fabric.specs.Paths.{shares}
use Rattle.packets.specs.Calls.{Call, Accepted, no_packet, is_open, wants, ledger, slot_of, last_of, left_of, made_of, place_of}
use Rattle.rows.specs.declared.flow_row.Progress.{Progress}
use Rattle.timing.specs.Model.{Table, Flow}
use Rattle.timing.specs.Figures.{bound_of}
use Rattle.history.specs.State.{State, row_of, route_of}
use Rattle.history.specs.Counted.{History, accepted, owed_after, ended_after, wanted_in, granted_in, levels_in, recorded}

pub record Holds (most : ℕ) (b : Table) (s : State) : Type 0 where
  pub exact : Exactly b
  pub flows : length s.rows ≡ b.z
  pub fits : b.z ≤ most
  pub times : InSlot b s.times
  pub each : (i : ℕ) → Flow b i → Stands b (row_of s i).flow i
  -- flow h delays flow i exactly when it has a higher priority and one link stands in both routes
  pub meets : (h i : ℕ) → Flow b h → Flow b i → b.H h i ≡ (nat_lt h i && shares (route_of s h) (route_of s i))

pub record Follows (b : Table) (h : History) (i : ℕ) (p : Progress) : Type 0 where
  pub left : p.left ≡ left_of b (accepted h) i
  pub place : p.place ≡ place_of (accepted h) i
  pub last : p.last ≡ last_of (accepted h) i
  pub denials : 0 < p.left → p.denials ≡ (get_or (ledger b (accepted h)) (place_of (accepted h) i) no_packet).denials
  pub wanted : p.wanted ≡ wanted_in b h i
  pub granted : p.granted ≡ granted_in b h i

-- No release of a flow with a bound was refused because its packet before was open.
abbrev pub NeverHeld : Table → History → Type 0
NeverHeld b [] = Unit {0}
NeverHeld b (e ∷ h) = ((i t : ℕ) → e ≡ Released i t (Err Busy) → bound_of b i ≡ None) × NeverHeld b h

pub record Since (most : ℕ) (b : Table) (h : History) (s : State) : Type 0 where
  pub table : Holds most b s
  pub lawful : Accepted b (accepted h)
  pub slot : s.slot ≡ slot_of (accepted h)
  pub count : s.count ≡ made_of (accepted h)
  pub owed : s.owed ≡ owed_after h
  pub ended : s.ended ≡ ended_after h
  pub each : (i : ℕ) → Flow b i → Follows b h i (row_of s i).progress
  pub levels : s.levels ≡ levels_in b h
  pub short : s.slot ≤ 4294967295
  -- while an injection is owed, those that wanted have an open packet, and a next slot can be counted
  pub waiting : owed_after h ≡ true → (i : ℕ) → wanted_in b h i ≡ wants b (ledger b (accepted h)) i
  pub room : owed_after h ≡ true → s.slot < 4294967295
  pub free : NeverHeld b h

-- What a report told of the packets that the calls before it made.
pub record Counts (b : Table) (l : List Call) (r : Report) : Type 0 where
  pub accepted : r.accepted ≡ length (ledger b l)
  pub arrived : r.arrived ≡ count_by (λ p. not (is_open b p)) (ledger b l)
  pub pending : r.pending ≡ count_by (is_open b) (ledger b l)
  pub sum : r.accepted ≡ r.arrived + r.pending

-- Each report counted the packets of its time.
abbrev pub CountedRight : Table → History → Type 0
CountedRight b [] = Unit {0}
CountedRight b (e ∷ h) = ((r : Report) → e ≡ Reported (Ok r) → Counts b (accepted h) r) × CountedRight b h

-- The ledger lists the packets in the order of their acceptance, and the reports told of them.
pub record Lists (b : Table) (h : History) (k : List Record) : Type 0 where
  pub long : made_of (accepted h) ≤ length k
  pub each : (p : ℕ) → p < made_of (accepted h) → slice_index_or k p no_record ≡ recorded b (slice_index_or (ledger b (accepted h)) p no_packet)
  pub told : CountedRight b h
