-- The route of a flow, from listed links, entries and numbers. Assumes nothing.
--   ends_at, entry_of, numbers_at: the ends of a link, the entry of a flow, and the numbers that it points at
--   entry_checks, hop_checks: what is looked at in an entry and in a hop, in this order, and the cause that is told
--   walk_fault: the first fault of the hops in turn, and then of the end
--   listed_route: the route, or its first fault
use Rattle.std.specs.Prelude.{ℕ, ◌+◌, ◌-◌, ◌*◌, Bool, cond, not, ◌||◌, List, [], ◌∷◌, ◌++◌, length, take, drop, Some, None, Ok, Err, Option, ◌==◌, nat_le, nat_lt, slice_index_or}
use Rattle.std.specs.List.{list_any}
use Rattle.fabric.specs.Routes.{Route}
use Rattle.fabric.specs.declared.route.Ends.{Ends}
use Rattle.fabric.specs.declared.fault.Cause.{Cause}
use Rattle.fabric.specs.declared.fault.RouteFault.{RouteFault}
use Rattle.fabric.specs.declared.fault.Cause.TheVariants.{Length, List as OffList, UnknownLink, Start, Gap, Repeated, End, UnknownNode}
use Rattle.table.specs.declared.records.RouteEntry.{RouteEntry}

abbrev pub ends_at : List Ends → ℕ → Ends
ends_at links n = slice_index_or links n (record { start = 0; stop = 0 })

-- flow i has entry i - 1
abbrev pub entry_of : List RouteEntry → ℕ → RouteEntry
entry_of entries flow = slice_index_or entries (flow - 1) (record { length = 0; position = 0 })

abbrev pub numbers_at : List ℕ → RouteEntry → List ℕ
numbers_at numbers entry = take entry.length (drop entry.position numbers)

-- n stands among the links used
abbrev pub among : List ℕ → ℕ → Bool
among used n = list_any (λ u. u == n) used

-- the cause of the first check that fails
abbrev pub first_cause : List (Bool × Cause) → Option Cause
first_cause [] = None
first_cause (check ∷ rest) = cond check.0 (Some check.1) (first_cause rest)

-- a cause is told at its hop, before what is found later
abbrev pub told : ℕ → Option Cause → Option RouteFault → Option RouteFault
told hop None later = later
told hop (Some cause) later = Some (record { hop = hop; cause = cause })

abbrev pub unless : Option RouteFault → List ℕ → Route
unless None p = Ok p
unless (Some fault) p = Err fault

-- before the first hop: the nodes are there, the flow has an entry, its length is 2 to 64, and its numbers stand in the list
abbrev pub entry_checks : ℕ → List RouteEntry → ℕ → ℕ → ℕ → ℕ → List (Bool × Cause)
entry_checks nodes entries count flow s d =
    let entry = entry_of entries flow in
    (nat_le nodes s || nat_le nodes d, UnknownNode)
    ∷ (flow == 0 || nat_lt (length entries) flow, Length)
    ∷ (nat_lt entry.length 2 || nat_lt 64 entry.length, Length)
    ∷ (nat_lt count (entry.position + entry.length), OffList)
    ∷ []

-- the next hop after the links used, from vertex `at`, by link n: the link is there, begins at that vertex, and was not used before
abbrev pub hop_checks : List Ends → List ℕ → ℕ → ℕ → List (Bool × Cause)
hop_checks links used at n =
    (nat_le (length links) n, UnknownLink)
    ∷ (not ((ends_at links n).start == at), cond (length used == 0) Start Gap)
    ∷ (among used n, Repeated)
    ∷ []

-- after the links used, at vertex `at`, with these numbers to go: hops count from 1, and the last one has to end at the goal
abbrev pub walk_fault : List Ends → ℕ → List ℕ → ℕ → List ℕ → Option RouteFault
walk_fault links goal used at [] = told (length used) (first_cause ((not (at == goal), End) ∷ [])) None
walk_fault links goal used at (n ∷ rest) =
    told (length used + 1) (first_cause (hop_checks links used at n)) (
    walk_fault links goal (used ++ (n ∷ [])) (ends_at links n).stop rest)

-- from the source's core, vertex 2s, to the destination's, vertex 2d
unfoldable pub listed_route : ℕ → List Ends → List RouteEntry → List ℕ → ℕ → ℕ → ℕ → Route
listed_route nodes links entries numbers flow s d =
    let p = numbers_at numbers (entry_of entries flow) in
    unless (told 0 (first_cause (entry_checks nodes entries (length numbers) flow s d)) (walk_fault links (2 * d) [] (2 * s) p)) p
