-- The walk of a route over the nodes: where it begins, where it ends, and the columns and rows on the way.
use Rattle.std.specs.Prelude.{◌≡◌, ℕ, ◌+◌, ◌-◌, ◌*◌, ◌<◌}
use Rattle.std.proofs.Common.{ap, ◌∙◌, arith, mul_comm}
use Rattle.std.proofs.lemmas.Nat.{div-add-mod', div_below, mod_below, mul-add-lt}
use Rattle.mesh.specs.Grid.{column, row, node_at, toward}
use Rattle.mesh.specs.Paths.{steps_x, steps_y, visited}
use Rattle.mesh.specs.Axes.{toward_start, toward_end, toward_within}
use Rattle.mesh.specs.Steps.{column_at, row_at}

-- the column and row where step j begins
abbrev pub column_on : ℕ → ℕ → ℕ → ℕ → ℕ
column_on w s d j = toward (column w s) (column w d) j

abbrev pub row_on : ℕ → ℕ → ℕ → ℕ → ℕ
row_on w s d j = toward (row w s) (row w d) (j - steps_x w s d)

-- a node of the mesh has one of its columns and one of its rows
pub column_below : (w a : ℕ) → 0 < w → column w a < w
column_below w a wide = mod_below a w wide

pub row_below : (w h a : ℕ) → 0 < w → a < w * h → row w a < h
row_below w h a wide less = let e = mul_comm w h in div_below a w h wide (omega arith)

pub place_of : (w a : ℕ) → node_at w (column w a) (row w a) ≡ a
place_of w a = div-add-mod' a w

-- the walk begins at the source, ends at the destination and stays in the mesh
pub visited_first : (w s d : ℕ) → visited w s d 0 ≡ s
visited_first w s d =
    let none : 0 - steps_x w s d ≡ 0 = omega arith in
    ap (λ x. node_at w x (row_on w s d 0)) (toward_start _ _) ∙ ap (λ k. node_at w (column w s) (toward (row w s) (row w d) k)) none ∙ ap (λ y. node_at w (column w s) y) (toward_start _ _) ∙ place_of w s

pub visited_last : (w s d : ℕ) → visited w s d (steps_x w s d + steps_y w s d) ≡ d
visited_last w s d =
    let t = steps_x w s d + steps_y w s d in
    let x : column_on w s d t ≡ column w d = toward_end _ _ t (omega arith) in
    let y : row_on w s d t ≡ row w d = toward_end _ _ (t - steps_x w s d) (omega arith) in
    ap (λ c. node_at w c (row_on w s d t)) x ∙ ap (λ r. node_at w (column w d) r) y ∙ place_of w d

pub column_on_below : (w s d j : ℕ) → 0 < w → column_on w s d j < w
column_on_below w s d j wide = toward_within _ _ j w (column_below w s wide) (column_below w d wide)

pub row_on_below : (w h s d j : ℕ) → 0 < w → s < w * h → d < w * h → row_on w s d j < h
row_on_below w h s d j wide hs hd =
    toward_within _ _ (j - steps_x w s d) h (row_below w h s wide hs) (row_below w h d wide hd)

pub visited_below : (w h s d j : ℕ) → 0 < w → s < w * h → d < w * h → visited w s d j < w * h
visited_below w h s d j wide hs hd =
    let less = mul-add-lt (row_on w s d j) w (column_on w s d j) h (row_on_below w h s d j wide hs hd) (column_on_below w s d j wide) in
    omega arith

pub visited_column : (w s d j : ℕ) → 0 < w → column w (visited w s d j) ≡ column_on w s d j
visited_column w s d j wide =
    column_at w _ _ (column_on_below w s d j wide)

pub visited_row : (w s d j : ℕ) → 0 < w → row w (visited w s d j) ≡ row_on w s d j
visited_row w s d j wide = row_at w _ _ (column_on_below w s d j wide)
