-- The checks of a load, in their order. Assumes nothing.
--   misfit_checks: the table against the medium's limit and the fabric's nodes
--   record_checks: a flow's record; route_checks: its route, and whether a part can carry a flit
--   load_checks: all of them, each with the fault that is told where it is the first that fails
use Rattle.std.specs.Prelude.{ℕ, zero, suc, ◌+◌, ◌-◌, ◌*◌, Bool, not, ◌||◌, List, [], ◌∷◌, ◌++◌, length, is_err, Ok, Err, ◌==◌, nat_le, nat_lt}
use Rattle.std.specs.Option.{unwrap_or}
use Rattle.fabric.specs.declared.fault.RouteFault.{RouteFault}
use Rattle.fabric.specs.declared.fault.Cause.TheVariants.{UnknownNode}
use Rattle.fabric.specs.Routes.{Route}
use Rattle.table.specs.declared.fault.LoadFault.{LoadFault}
use Rattle.table.specs.declared.fault.LoadFault.TheVariants.{Misfit, Record, Separation, Route as NoRoute, Capacity}
use Rattle.table.specs.declared.header.Header.{Header}
use Rattle.table.specs.declared.profile.Profile.{Profile}
use Rattle.table.specs.declared.records.FlowRecord.{FlowRecord}
use Rattle.table.specs.Profiles.{profile_at}
use Rattle.table.specs.File.{header_of, flows_of}
use Rattle.table.specs.Checks.{outside, header_checks, section_checks}
use Rattle.parts.specs.declared.slot.Slot.{Slot}
use Rattle.parts.specs.Slots.{slot_for}
use Rattle.timing.specs.Model.{Table}
use Rattle.analysis.specs.Tables.{record_of, route_of, flits_of, table_of}

-- the checks of each flow in turn, from flow 1 to flow n
unfoldable pub each_flow : (ℕ → List (Bool × LoadFault)) → ℕ → List (Bool × LoadFault)
each_flow checks zero = []
each_flow checks (suc n) = each_flow checks n ++ checks (suc n)

-- more flows than the medium has intervals, or a fabric with other nodes
abbrev pub misfit_checks : ℕ → ℕ → Header → List (Bool × LoadFault)
misfit_checks limit nodes h = (nat_lt limit h.flows || not (nodes == h.width * h.height), Misfit) ∷ []

-- the checks that need no memory: of the file's size, header and sections, and of its fit
abbrev pub open_checks : ℕ → ℕ → ℕ → Header → List (Bool × LoadFault)
open_checks len limit nodes h = header_checks len h ++ (misfit_checks limit nodes h ++ section_checks len h)

-- where the record of flow i begins
abbrev pub record_byte : Header → ℕ → ℕ
record_byte h i = h.flows_at + 16 * (i - 1)

-- a node that is not there, no way to go, a payload not from 1 to 65,535, no separation or deadline, a deadline after the next release
abbrev pub wrong : ℕ → FlowRecord → Bool
wrong nodes r =
    (nat_le nodes r.source || nat_le nodes r.destination || r.source == r.destination)
    || (outside 1 65535 r.payload || (r.separation == 0 || r.deadline == 0) || nat_lt r.separation r.deadline)

abbrev pub record_checks : Header → ℕ → ℕ → ℕ → FlowRecord → List (Bool × LoadFault)
record_checks h nodes slot i r =
    (wrong nodes r, Record i (record_byte h i)) ∷ (nat_lt r.separation slot, Separation i (record_byte h i)) ∷ []

-- the fault of a route that is missing
abbrev pub fault_in : Route → RouteFault
fault_in (Ok p) = record { hop = 0; cause = UnknownNode }
fault_in (Err e) = e

-- a route, and the flits that a part carries over it
abbrev pub route_checks : Header → ℕ → Route → ℕ → List (Bool × LoadFault)
route_checks h i route flits =
    (is_err route, NoRoute i (record_byte h i) (fault_in route)) ∷ (nat_lt flits 1, Capacity i (record_byte h i)) ∷ []

-- those of flow i of a table
abbrev pub route_checks_of : Header → Slot → Profile → List FlowRecord → (ℕ → ℕ → ℕ → Route) → ℕ → List (Bool × LoadFault)
route_checks_of h slot p rs route i = route_checks h i (route_of slot p rs route i) (flits_of slot p rs route i)

abbrev pub no_profile : Profile
no_profile = record { interval = 0; routing = 0; transfer = 0; pause = 0; flit = 0 }

-- the profile of a header that passed its checks
abbrev pub profile_of : Header → Profile
profile_of h = unwrap_or (profile_at h.profile) no_profile

module _ (bs : List ℕ) (nodes : ℕ) (route : ℕ → ℕ → ℕ → Route) where
  abbrev pub flow_checks : List (Bool × LoadFault)
  flow_checks =
      let h = header_of bs in
      let slot = slot_for h (profile_of h) in
      each_flow (λ i. record_checks h nodes slot.length i (record_of (flows_of bs h) i)) h.flows
      ++ each_flow (route_checks_of h slot (profile_of h) (flows_of bs h) route) h.flows

  unfoldable pub load_checks : ℕ → List (Bool × LoadFault)
  load_checks limit =
      header_checks (length bs) (header_of bs) ++ (misfit_checks limit nodes (header_of bs) ++ (section_checks (length bs) (header_of bs) ++ flow_checks))

-- the timing table of a file over a fabric's routes
unfoldable pub timing_of : List ℕ → (ℕ → ℕ → ℕ → Route) → Table
timing_of bs route = table_of (slot_for (header_of bs) (profile_of (header_of bs))) (profile_of (header_of bs)) (flows_of bs (header_of bs)) route
