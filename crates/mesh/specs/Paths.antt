-- The routes of a mesh of w columns and h rows: along x first, then along y. Assumes nothing.
--   steps_x, steps_y: how many steps a route makes along x, and along y
--   visited, heading, step_link: the node where step j begins, the direction it takes, and its link
--   mesh_path: all links from node s to node d
--   mesh_route: the same, or why there is no route
use Rattle.std.specs.Prelude.{ℕ, ◌+◌, ◌-◌, cond, ◌&&◌, List, [], ◌∷◌, ◌++◌, map, length, Ok, Err, nat_le, nat_lt}
use Rattle.std.specs.List.{range_with_len}
use Rattle.fabric.specs.declared.fault.Cause.TheVariants.{Length}
use Rattle.fabric.specs.Routes.{Route, unknown_node}
use Rattle.mesh.specs.declared.direction.Direction.{Direction}
use Rattle.mesh.specs.declared.direction.Direction.TheVariants.{East, West, North, South}
use Rattle.mesh.specs.Grid.{has, column, row, node_at, distance, toward}
use Rattle.mesh.specs.Links.{out_link, in_link, side_link}

abbrev pub steps_x : ℕ → ℕ → ℕ → ℕ
steps_x w s d = distance (column w s) (column w d)

abbrev pub steps_y : ℕ → ℕ → ℕ → ℕ
steps_y w s d = distance (row w s) (row w d)

-- the row stays until the steps along x are made, since `-` stops at 0
abbrev pub visited : ℕ → ℕ → ℕ → ℕ → ℕ
visited w s d j =
    node_at w (toward (column w s) (column w d) j) (toward (row w s) (row w d) (j - steps_x w s d))

abbrev pub heading : ℕ → ℕ → ℕ → ℕ → Direction
heading w s d j =
    cond (nat_lt j (steps_x w s d)) (cond (nat_lt (column w s) (column w d)) East West) (cond (nat_lt (row w s) (row w d)) North South)

abbrev pub step_link : ℕ → ℕ → ℕ → ℕ → ℕ → ℕ
step_link w h s d j = side_link w h (visited w s d j) (heading w s d j)

-- out of the source's core, along x, along y, and into the destination's core
abbrev pub mesh_path : ℕ → ℕ → ℕ → ℕ → List ℕ
mesh_path w h s d = out_link s ∷ (map (step_link w h s d) (range_with_len 0 (steps_x w s d + steps_y w s d)) ++ (in_link w h d ∷ []))

-- a route of more than 64 links is none, and that is about no hop
abbrev pub too_long : Route
too_long = Err (record { hop = 0; cause = Length })

abbrev pub mesh_route : ℕ → ℕ → ℕ → ℕ → Route
mesh_route w h s d =
    let path = mesh_path w h s d in
    cond (has w h s && has w h d) (cond (nat_le (length path) 64) (Ok path) too_long) unknown_node
