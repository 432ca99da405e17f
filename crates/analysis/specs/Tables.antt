-- The timing table of a flow table over a fabric: every figure of a flow, by its number. Assumes nothing.
use Rattle.std.specs.Prelude.{ℕ, ◌-◌, ◌*◌, Bool, ◌&&◌, List, [], length, Ok, Err, nat_le, nat_lt, slice_index_or}
use Rattle.fabric.specs.Routes.{Route}
use Rattle.fabric.specs.Paths.{shares}
use Rattle.table.specs.declared.profile.Profile.{Profile}
use Rattle.table.specs.declared.records.FlowRecord.{FlowRecord}
use Rattle.parts.specs.declared.slot.Slot.{Slot}
use Rattle.parts.specs.Split.{capacity, parts_of, last_flits, tail_of}
use Rattle.timing.specs.Model.{Table}

abbrev pub no_record : FlowRecord
no_record = record { source = 0; destination = 0; payload = 0; separation = 0; deadline = 0 }

-- the record of flow i, which is the i-th of them
abbrev pub record_of : List FlowRecord → ℕ → FlowRecord
record_of rs i = slice_index_or rs (i - 1) no_record

-- the links of a route, none where there is no route
abbrev pub links_of : Route → List ℕ
links_of (Ok p) = p
links_of (Err e) = []

module _ (slot : Slot) (p : Profile) (rs : List FlowRecord) (route : ℕ → ℕ → ℕ → Route) where
  abbrev pub route_of : ℕ → Route
  route_of i = route i (record_of rs i).source (record_of rs i).destination

  abbrev pub path_of : ℕ → List ℕ
  path_of i = links_of (route_of i)

  -- the flits that a part of flow i carries
  abbrev pub flits_of : ℕ → ℕ
  flits_of i = capacity p slot.window (length (path_of i))

  -- flow h has a higher priority than flow i, and one link stands in both routes
  abbrev pub higher : ℕ → ℕ → Bool
  higher h i = (nat_le 1 h && nat_lt h i) && shares (path_of h) (path_of i)

  unfoldable pub table_of : Table
  table_of =
      record {
        z = length rs;
        S = slot.length;
        pause = slot.pause;
        e = λ i. i * slot.interval;
        w = λ i. parts_of p (flits_of i) (record_of rs i).payload;
        c = λ i. tail_of p (length (path_of i)) (last_flits p (flits_of i) (record_of rs i).payload);
        T = λ i. (record_of rs i).separation;
        D = λ i. (record_of rs i).deadline;
        H = higher;
      }
