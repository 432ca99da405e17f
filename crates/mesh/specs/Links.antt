-- The links of a mesh of w columns and h rows: their numbers and their ends. Assumes nothing.
--   core, router: the two vertices of a node
--   direction_number, direction_at: the order of the directions
--   out_link, in_link, side_link: the links out of a core, into a core, and from a router in a direction
--   mesh_ends: the ends of a link
use Rattle.std.specs.Prelude.{ℕ, zero, suc, ◌+◌, ◌-◌, ◌*◌, ◌/◌, ◌%◌, cond, nat_lt}
use Rattle.fabric.specs.declared.route.Ends.{Ends}
use Rattle.mesh.specs.declared.direction.Direction.{Direction}
use Rattle.mesh.specs.declared.direction.Direction.TheVariants.{East, West, North, South}
use Rattle.mesh.specs.Grid.{neighbour}

abbrev pub core : ℕ → ℕ
core a = 2 * a

abbrev pub router : ℕ → ℕ
router a = 2 * a + 1

-- the links of a router to its neighbours are numbered in this order
abbrev pub direction_number : Direction → ℕ
direction_number East = 0
direction_number West = 1
direction_number North = 2
direction_number South = 3

abbrev pub direction_at : ℕ → Direction
direction_at zero = East
direction_at (suc zero) = West
direction_at (suc (suc zero)) = North
direction_at (suc (suc (suc k))) = South

-- the links out of node a's core, into its core, and from its router in a direction
abbrev pub out_link : ℕ → ℕ
out_link a = a

abbrev pub in_link : ℕ → ℕ → ℕ → ℕ
in_link w h a = w * h + a

abbrev pub side_link : ℕ → ℕ → ℕ → Direction → ℕ
side_link w h a to = 2 * (w * h) + 4 * a + direction_number to

-- their ends; a link that would leave the mesh ends where it begins
abbrev pub out_ends : ℕ → Ends
out_ends a = record { start = core a; stop = router a }

abbrev pub in_ends : ℕ → Ends
in_ends a = record { start = router a; stop = core a }

abbrev pub side_ends : ℕ → ℕ → ℕ → Direction → Ends
side_ends w h a to = record { start = router a; stop = router (neighbour w h to a) }

-- the links out of the cores come first, then those into them, then four for each router
abbrev pub mesh_ends : ℕ → ℕ → ℕ → Ends
mesh_ends w h link =
    let n = w * h in
    let side = link - 2 * n in
    cond (nat_lt link n) (out_ends link) (cond (nat_lt link (2 * n)) (in_ends (link - n)) (side_ends w h (side / 4) (direction_at (side % 4))))
