-- A run, as its calls read and leave it. Assumes nothing.
--   known: there is a flow with this number; row_of: its row; route_of: the links of its route
--   names: a slip names this run and the slot that awaits its injection
use Rattle.std.specs.Prelude.{ℕ, ◌-◌, Bool, true, false, ◌&&◌, List, [], length, ◌==◌, nat_le, slice_index_or}
use Rattle.calls.specs.declared.slip_name.SlipName.{SlipName}
use Rattle.fabric.specs.Paths.{links_in}
use Rattle.medium.specs.declared.level.Level.{Level}
use Rattle.parts.specs.declared.slot.Slot.{Slot}
use Rattle.rows.specs.declared.flow_row.FlowRow.{FlowRow}
use Rattle.rows.specs.Blank.{no_row}

pub record State : Type 0 where
  -- the run's number, as load was handed it
  pub number : ℕ
  -- n: the slots injected since load; and the times of a slot
  pub slot : ℕ
  pub times : Slot
  -- the count of the ledger's records
  pub count : ℕ
  -- an injection is owed for slot n; the run has ended
  pub owed : Bool
  pub ended : Bool
  -- flow 1 first
  pub rows : List FlowRow
  -- what the medium holds
  pub levels : List Level

abbrev pub known : State → ℕ → Bool
known s i = nat_le 1 i && nat_le i (length s.rows)

abbrev pub row_of : State → ℕ → FlowRow
row_of s i = slice_index_or s.rows (i - 1) no_row

abbrev pub route_of : State → ℕ → List ℕ
route_of s i = links_in (row_of s i).flow.path

abbrev pub names : State → SlipName → Bool
names s p = s.owed && (p.number == s.number && p.slot == s.slot)

-- a run before any load: no flows, no records, and it counts as ended
abbrev pub empty_state : List Level → State
empty_state levels =
    record {
      number = 0;
      slot = 0;
      times = record { interval = 0; window = 0; pause = 0; length = 0 };
      count = 0;
      owed = false;
      ended = true;
      rows = [];
      levels = levels;
    }
