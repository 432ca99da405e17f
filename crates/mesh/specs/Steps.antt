-- A step from a node to its neighbour, by column and row. Pure numbers.
use Rattle.std.specs.Prelude.{◌≡◌, ℕ, ◌+◌, ◌-◌, ◌<◌, nat_lt}
use Rattle.std.proofs.Common.{ap, ◌∙◌, arith}
use Rattle.std.proofs.lemmas.Nat.{div-mul-add, mod-mul-add}
use Rattle.std.proofs.lemmas.Bool.{cond-true, lt-ltb}
use Rattle.mesh.specs.declared.direction.Direction.TheVariants.{East, West, North, South}
use Rattle.mesh.specs.Grid.{column, row, node_at, neighbour}

pub column_at : (w x y : ℕ) → x < w → column w (node_at w x y) ≡ x
column_at w x y h = mod-mul-add y w x h

pub row_at : (w x y : ℕ) → x < w → row w (node_at w x y) ≡ y
row_at w x y h = div-mul-add y w x h

-- a step that does not leave the mesh changes the column or the row by one
pub step_east : (w h x y : ℕ) → x + 1 < w → neighbour w h East (node_at w x y) ≡ node_at w (x + 1) y
step_east w h x y lt =
    let less : x < w = omega arith in
    let cx = column_at w x y less in
    let ry = row_at w x y less in
    cond-true _ _ _ (ap (λ c. nat_lt (c + 1) w) cx ∙ lt-ltb _ _ lt) ∙ ap (λ c. node_at w (c + 1) (row w (node_at w x y))) cx ∙ ap (λ r. node_at w (x + 1) r) ry

pub step_west : (w h x y : ℕ) → x < w → 0 < x → neighbour w h West (node_at w x y) ≡ node_at w (x - 1) y
step_west w h x y less lt =
    let cx = column_at w x y less in
    let ry = row_at w x y less in
    cond-true _ _ _ (ap (λ c. nat_lt 0 c) cx ∙ lt-ltb _ _ lt) ∙ ap (λ c. node_at w (c - 1) (row w (node_at w x y))) cx ∙ ap (λ r. node_at w (x - 1) r) ry

pub step_north : (w h x y : ℕ) → x < w → y + 1 < h → neighbour w h North (node_at w x y) ≡ node_at w x (y + 1)
step_north w h x y less lt =
    let cx = column_at w x y less in
    let ry = row_at w x y less in
    cond-true _ _ _ (ap (λ r. nat_lt (r + 1) h) ry ∙ lt-ltb _ _ lt) ∙ ap (λ c. node_at w c (row w (node_at w x y) + 1)) cx ∙ ap (λ r. node_at w x (r + 1)) ry

pub step_south : (w h x y : ℕ) → x < w → 0 < y → neighbour w h South (node_at w x y) ≡ node_at w x (y - 1)
step_south w h x y less lt =
    let cx = column_at w x y less in
    let ry = row_at w x y less in
    cond-true _ _ _ (ap (λ r. nat_lt 0 r) ry ∙ lt-ltb _ _ lt) ∙ ap (λ c. node_at w c (row w (node_at w x y) - 1)) cx ∙ ap (λ r. node_at w x (r - 1)) ry
