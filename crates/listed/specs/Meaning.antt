-- What a listed fabric means. Assumes nothing.
--   checks_of: what is looked at before the first hop of a flow's route
--   flow_numbers: the numbers that a flow's entry points at
--   route_of: the route of a flow
use Rattle.std.specs.Prelude.{ℕ, Bool, List, length, vec_items}
use Rattle.fabric.specs.Routes.{Route}
use Rattle.fabric.specs.declared.fault.Cause.{Cause}
use Rattle.listed.specs.declared.Listed.{Listed}
use Rattle.listed.specs.ListedRoutes.{entry_of, numbers_at, entry_checks, listed_route}

abbrev pub checks_of : Listed → ℕ → ℕ → ℕ → List (Bool × Cause)
checks_of l flow s d = entry_checks l.nodes (vec_items l.entries) (length (vec_items l.numbers)) flow s d

abbrev pub flow_numbers : Listed → ℕ → List ℕ
flow_numbers l flow = numbers_at (vec_items l.numbers) (entry_of (vec_items l.entries) flow)

abbrev pub route_of : Listed → ℕ → ℕ → ℕ → Route
route_of l flow s d = listed_route l.nodes (vec_items l.links) (vec_items l.entries) (vec_items l.numbers) flow s d
