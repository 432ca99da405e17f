-- What a route is, the laws of routes, and what a fabric answers about one. Assumes nothing.
--   Route: the links in their order, or why there is no route
--   Lawful: what every route from node s to node d keeps
--   length_of, link_of, ends_of: the answers to a fabric's questions
use Rattle.std.specs.Prelude.{◌≡◌, ℕ, ◌+◌, ◌-◌, ◌*◌, ◌<◌, ◌≤◌, cond, List, length, Some, None, Ok, Err, Option, Result, ◌≢◌, nat_lt, slice_index}
use Rattle.fabric.specs.declared.route.Ends.{Ends}
use Rattle.fabric.specs.declared.fault.RouteFault.{RouteFault}
use Rattle.fabric.specs.declared.fault.Cause.TheVariants.{UnknownNode}

abbrev pub Route : Type 0
Route = Result (List ℕ) RouteFault

-- The laws of a route p from node s to node d, over links with these ends.
pub record Lawful (links : ℕ) (ends : ℕ → Ends) (s d : ℕ) (p : List ℕ) : Type 0 where
  -- it has 2 to 64 links
  pub two : 2 ≤ length p
  pub few : length p ≤ 64
  -- all of them are there, none of them twice
  pub below : (k : ℕ) → k < length p → slice_index p k < links
  pub once : (j k : ℕ) → j < k → k < length p → slice_index p j ≢ slice_index p k
  -- the first begins at the source's core, each next one where the one before ends, and the last ends at the destination's core
  pub starts : (ends (slice_index p 0)).start ≡ 2 * s
  pub chained : (k : ℕ) → k + 1 < length p → (ends (slice_index p k)).stop ≡ (ends (slice_index p (k + 1))).start
  pub arrives : (ends (slice_index p (length p - 1))).stop ≡ 2 * d

-- the answer for a node that the fabric does not have: it is about no hop
abbrev pub unknown_node : Route
unknown_node = Err (record { hop = 0; cause = UnknownNode })

abbrev pub length_of : Route → Result ℕ RouteFault
length_of (Ok p) = Ok (length p)
length_of (Err e) = Err e

abbrev pub link_of : Route → ℕ → Option ℕ
link_of (Ok p) k = cond (nat_lt k (length p)) (Some (slice_index p k)) None
link_of (Err e) k = None

abbrev pub ends_of : ℕ → (ℕ → Ends) → ℕ → Option Ends
ends_of links ends k = cond (nat_lt k links) (Some (ends k)) None
