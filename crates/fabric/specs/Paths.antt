-- Routes that are kept, and when two of them share a link. Assumes nothing.
--   links_in: the links of a kept route; stored: a kept route, or why there is none
--   has: a link stands in a route; shares: one link number stands in both routes
use Rattle.std.specs.Prelude.{ℕ, Bool, false, ◌||◌, List, [], ◌∷◌, take, Ok, Err, Result, ◌==◌}
use Rattle.fabric.specs.declared.fault.RouteFault.{RouteFault}
use Rattle.fabric.specs.declared.path.Path.{Path}
use Rattle.fabric.specs.Routes.{Route}

abbrev pub links_in : Path → List ℕ
links_in p = take p.len p.links

abbrev pub stored : Result Path RouteFault → Route
stored (Ok p) = Ok (links_in p)
stored (Err e) = Err e

unfoldable pub has : ℕ → List ℕ → Bool
has link [] = false
has link (x ∷ xs) = link == x || has link xs

unfoldable pub shares : List ℕ → List ℕ → Bool
shares [] q = false
shares (x ∷ p) q = has x q || shares p q
