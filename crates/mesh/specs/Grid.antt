-- Where the nodes of a mesh of w columns and h rows stand. Assumes nothing.
--   has, Both: a node is there, and two are
--   column, row: x and y of a node
--   node_at: the node in a column and a row
--   neighbour: the next node in a direction
--   distance, toward: how far, and where to, along one axis
use Rattle.std.specs.Prelude.{ℕ, ◌+◌, ◌-◌, ◌*◌, ◌/◌, ◌%◌, ◌<◌, min, max, Bool, cond, nat_lt}
use Rattle.mesh.specs.declared.direction.Direction.{Direction}
use Rattle.mesh.specs.declared.direction.Direction.TheVariants.{East, West, North, South}

-- the nodes are numbered below w * h
abbrev pub has : ℕ → ℕ → ℕ → Bool
has w h a = nat_lt a (w * h)

abbrev pub Both : ℕ → ℕ → ℕ → ℕ → Type 0
Both w h s d = (s < w * h) × (d < w * h)

abbrev pub column : ℕ → ℕ → ℕ
column w a = a % w

abbrev pub row : ℕ → ℕ → ℕ
row w a = a / w

abbrev pub node_at : ℕ → ℕ → ℕ → ℕ
node_at w x y = y * w + x

-- at the edge it is the node itself
abbrev pub neighbour : ℕ → ℕ → Direction → ℕ → ℕ
neighbour w h East a = cond (nat_lt (column w a + 1) w) (node_at w (column w a + 1) (row w a)) a
neighbour w h West a = cond (nat_lt 0 (column w a)) (node_at w (column w a - 1) (row w a)) a
neighbour w h North a = cond (nat_lt (row w a + 1) h) (node_at w (column w a) (row w a + 1)) a
neighbour w h South a = cond (nat_lt 0 (row w a)) (node_at w (column w a) (row w a - 1)) a

-- one of the two differences is 0, since `-` stops there
abbrev pub distance : ℕ → ℕ → ℕ
distance from to = (from - to) + (to - from)

-- j steps from one column or row toward another, no further than that one
abbrev pub toward : ℕ → ℕ → ℕ → ℕ
toward from to j = cond (nat_lt from to) (min (from + j) to) (max (from - j) to)
