-- What the rows of a load hold. Assumes nothing.
--   Builds: an answer is the first fault, or a value that keeps what is asked of it
--   RowFits: a row tells of flow i; RowsFit: the rows tell of the first n flows
use Rattle.std.specs.Prelude.{◌≡◌, ℕ, ◌+◌, ◌<◌, cond, List, length, Some, None, Ok, Err, Option, Result, ◌≢◌, nat_lt, slice_index_or}
use Rattle.fabric.specs.declared.path.Path.{Path}
use Rattle.fabric.specs.Routes.{Route}
use Rattle.fabric.specs.Paths.{links_in}
use Rattle.table.specs.declared.fault.LoadFault.{LoadFault}
use Rattle.table.specs.declared.fault.LoadFault.TheVariants.{NoMemory, Route as NoRoute, Capacity}
use Rattle.table.specs.declared.header.Header.{Header}
use Rattle.table.specs.declared.profile.Profile.{Profile}
use Rattle.table.specs.declared.records.FlowRecord.{FlowRecord}
use Rattle.parts.specs.declared.slot.Slot.{Slot}
use Rattle.parts.specs.declared.split.Split.{Split}
use Rattle.parts.specs.Split.{capacity, split_for}
use Rattle.timing.specs.Model.{Table}
use Rattle.analysis.specs.declared.row.Row.{Row}
use Rattle.analysis.specs.Loading.{record_byte}
use Rattle.analysis.specs.Marks.{shares_with}
use Rattle.analysis.specs.Standing.{Stands}
use Rattle.analysis.specs.Tables.{record_of, path_of, table_of}

-- the first fault, unless there was no memory; or no fault, and a value as asked
abbrev pub Builds : {X : Type 0} → Option LoadFault → (X → Type 0) → Result X LoadFault → Type 0
Builds fault P (Ok x) = (fault ≡ None) × P x
Builds fault P (Err e) = (e ≢ NoMemory) → fault ≡ Some e

-- a route that was taken, or the load's fault with the route's inside
abbrev pub taken : Header → ℕ → Route → Result (List ℕ) LoadFault
taken h i (Ok p) = Ok p
taken h i (Err e) = Err (NoRoute i (record_byte h i) e)

abbrev pub links_taken : Result Path LoadFault → Result (List ℕ) LoadFault
links_taken (Ok p) = Ok (links_in p)
links_taken (Err e) = Err e

-- the split of a packet, or the fault that no part carries a flit
abbrev pub carried : Header → Profile → ℕ → ℕ → ℕ → ℕ → Result Split LoadFault
carried h p window i hops payload =
    cond (nat_lt (capacity p window hops) 1) (Err (Capacity i (record_byte h i))) (Ok (split_for p window hops payload))

-- the flows above share a link with the flow after them as the table says
abbrev pub Meets : Table → List Row → Path → Type 0
Meets b rows path = (k : ℕ) (d : Row) → k < length rows → shares_with path (slice_index_or rows k d) ≡ b.H (k + 1) (length rows + 1)

module _ (slot : Slot) (p : Profile) (rs : List FlowRecord) (route : ℕ → ℕ → ℕ → Route) where
  pub record RowFits (i : ℕ) (row : Row) : Type 0 where
    pub flow : row.record ≡ record_of rs i
    pub links : links_in row.path ≡ path_of slot p rs route i
    pub stands : Stands (table_of slot p rs route) row i

  pub record RowsFit (n : ℕ) (rows : List Row) : Type 0 where
    pub count : length rows ≡ n
    pub each : (k : ℕ) (d : Row) → k < length rows → RowFits (k + 1) (slice_index_or rows k d)
