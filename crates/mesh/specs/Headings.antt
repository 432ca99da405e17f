-- The direction of each step of a route: it leads to the next node of the walk, and no step is made twice.
use Rattle.std.specs.Prelude.{◌≡◌, ℕ, ◌+◌, ◌-◌, ◌*◌, ◌<◌, ◌≤◌, ◌≢◌}
use Rattle.std.proofs.Common.{sym, ap, ◌∙◌, ⊎_elim, arith}
use Rattle.std.proofs.lemmas.Bool.{cases_lt, cond-true, cond-false, lt-ltb, le-ltb}
use Rattle.mesh.specs.declared.direction.Direction.TheVariants.{East, West, North, South}
use Rattle.mesh.specs.Grid.{column, row, node_at, toward, neighbour}
use Rattle.mesh.specs.Links.{direction_number}
use Rattle.mesh.specs.Paths.{steps_x, steps_y, visited, heading}
use Rattle.mesh.specs.Axes.{toward_end, toward_apart, step_up, step_down}
use Rattle.mesh.specs.Steps.{step_east, step_west, step_north, step_south}
use Rattle.mesh.specs.Walk.{column_on, row_on, column_below, row_below, column_on_below, visited_column, visited_row}

pub heading_east : (w s d j : ℕ) → j < steps_x w s d → column w s < column w d → heading w s d j ≡ East
heading_east w s d j near less =
    cond-true _ _ _ (lt-ltb j (steps_x w s d) near) ∙ cond-true _ _ _ (lt-ltb (column w s) (column w d) less)

pub heading_west : (w s d j : ℕ) → j < steps_x w s d → column w d ≤ column w s → heading w s d j ≡ West
heading_west w s d j near less =
    cond-true _ _ _ (lt-ltb j (steps_x w s d) near) ∙ cond-false _ _ _ (le-ltb (column w s) (column w d) less)

pub heading_north : (w s d j : ℕ) → steps_x w s d ≤ j → row w s < row w d → heading w s d j ≡ North
heading_north w s d j near less =
    cond-false _ _ _ (le-ltb j (steps_x w s d) near) ∙ cond-true _ _ _ (lt-ltb (row w s) (row w d) less)

pub heading_south : (w s d j : ℕ) → steps_x w s d ≤ j → row w d ≤ row w s → heading w s d j ≡ South
heading_south w s d j near less =
    cond-false _ _ _ (le-ltb j (steps_x w s d) near) ∙ cond-false _ _ _ (le-ltb (row w s) (row w d) less)

-- a step along x keeps the row
row_stays : (w s d j : ℕ) → j < steps_x w s d → row_on w s d (j + 1) ≡ row_on w s d j
row_stays w s d j near =
    let same : j + 1 - steps_x w s d ≡ j - steps_x w s d = omega arith in
    ap (λ k. toward (row w s) (row w d) k) same

-- a step along y keeps the column
column_stays : (w s d j : ℕ) → steps_x w s d ≤ j → column_on w s d (j + 1) ≡ column_on w s d j
column_stays w s d j far =
    toward_end _ _ (j + 1) (omega arith) ∙ sym (toward_end _ _ j (omega arith))

-- the node where the next step begins, by the column and row that it comes to
next_is : (w s d j x y : ℕ) → column_on w s d (j + 1) ≡ x → row_on w s d (j + 1) ≡ y → node_at w x y ≡ visited w s d (j + 1)
next_is w s d j x y ex ey =
    sym (ap (λ c. node_at w c (row_on w s d (j + 1))) ex ∙ ap (λ r. node_at w x r) ey)

goes_east : (w h s d j : ℕ) → 0 < w → j < steps_x w s d → column w s < column w d → neighbour w h (heading w s d j) (visited w s d j) ≡ visited w s d (j + 1)
goes_east w h s d j wide near less =
    let x = column_on w s d j in
    let step = step_up (column w s) (column w d) j less (omega arith) in
    let edge = column_below w d wide in
    ap (λ to. neighbour w h to (visited w s d j)) (heading_east w s d j near less) ∙ step_east w h x (row_on w s d j) (omega arith) ∙ next_is w s d j (x + 1) (row_on w s d j) step.0 (row_stays w s d j near)

goes_west : (w h s d j : ℕ) → 0 < w → j < steps_x w s d → column w d ≤ column w s → neighbour w h (heading w s d j) (visited w s d j) ≡ visited w s d (j + 1)
goes_west w h s d j wide near less =
    let x = column_on w s d j in
    let step = step_down (column w s) (column w d) j less (omega arith) in
    ap (λ to. neighbour w h to (visited w s d j)) (heading_west w s d j near less) ∙ step_west w h x (row_on w s d j) (column_on_below w s d j wide) step.1 ∙ next_is w s d j (x - 1) (row_on w s d j) step.0 (row_stays w s d j near)

goes_north : (w h s d j : ℕ) → 0 < w → d < w * h → steps_x w s d ≤ j → j < steps_x w s d + steps_y w s d → row w s < row w d → neighbour w h (heading w s d j) (visited w s d j) ≡ visited w s d (j + 1)
goes_north w h s d j wide hd far near less =
    let y = row_on w s d j in
    let k = j - steps_x w s d in
    let after : j + 1 - steps_x w s d ≡ k + 1 = omega arith in
    let step = step_up (row w s) (row w d) k less (omega arith) in
    let edge = row_below w h d wide hd in
    let moved = ap (λ m. toward (row w s) (row w d) m) after ∙ step.0 in
    ap (λ to. neighbour w h to (visited w s d j)) (heading_north w s d j far less) ∙ step_north w h (column_on w s d j) y (column_on_below w s d j wide) (omega arith) ∙ next_is w s d j (column_on w s d j) (y + 1) (column_stays w s d j far) moved

goes_south : (w h s d j : ℕ) → 0 < w → steps_x w s d ≤ j → j < steps_x w s d + steps_y w s d → row w d ≤ row w s → neighbour w h (heading w s d j) (visited w s d j) ≡ visited w s d (j + 1)
goes_south w h s d j wide far near less =
    let y = row_on w s d j in
    let k = j - steps_x w s d in
    let after : j + 1 - steps_x w s d ≡ k + 1 = omega arith in
    let step = step_down (row w s) (row w d) k less (omega arith) in
    let moved = ap (λ m. toward (row w s) (row w d) m) after ∙ step.0 in
    ap (λ to. neighbour w h to (visited w s d j)) (heading_south w s d j far less) ∙ step_south w h (column_on w s d j) y (column_on_below w s d j wide) step.1 ∙ next_is w s d j (column_on w s d j) (y - 1) (column_stays w s d j far) moved

-- each step leads to the node where the next one begins
pub steps_lead : (w h s d j : ℕ) → 0 < w → d < w * h → j < steps_x w s d + steps_y w s d → neighbour w h (heading w s d j) (visited w s d j) ≡ visited w s d (j + 1)
steps_lead w h s d j wide hd near =
    ⊎_elim
    (λ x. ⊎_elim (goes_east w h s d j wide x) (goes_west w h s d j wide x) (cases_lt (column w s) (column w d)))
    (λ x. ⊎_elim (goes_north w h s d j wide hd x near) (goes_south w h s d j wide x near) (cases_lt (row w s) (row w d)))
    (cases_lt j (steps_x w s d))

-- a step along x has one of the first two directions, one along y has another
along_x : (w s d j : ℕ) → j < steps_x w s d → direction_number (heading w s d j) < 2
along_x w s d j near =
    ⊎_elim
    (λ h. omega (arith, ap direction_number (heading_east w s d j near h)))
    (λ h. omega (arith, ap direction_number (heading_west w s d j near h)))
    (cases_lt (column w s) (column w d))

along_y : (w s d j : ℕ) → steps_x w s d ≤ j → 2 ≤ direction_number (heading w s d j)
along_y w s d j far =
    ⊎_elim
    (λ h. omega (arith, ap direction_number (heading_north w s d j far h)))
    (λ h. omega (arith, ap direction_number (heading_south w s d j far h)))
    (cases_lt (row w s) (row w d))

-- two steps differ in their node or their direction
pub steps_apart : (w s d j k : ℕ) → 0 < w → j < k → k < steps_x w s d + steps_y w s d → visited w s d j ≡ visited w s d k → direction_number (heading w s d j) ≢ direction_number (heading w s d k)
steps_apart w s d j k wide less near here same =
    let x = steps_x w s d in
    let columns = sym (visited_column w s d j wide) ∙ ap (λ a. column w a) here ∙ visited_column w s d k wide in
    let rows = sym (visited_row w s d j wide) ∙ ap (λ a. row w a) here ∙ visited_row w s d k wide in
    ⊎_elim
    (λ lt. toward_apart (column w s) (column w d) j k less (omega arith) columns)
    (λ ge. ⊎_elim
    (λ lt. omega (arith, along_x w s d j lt, along_y w s d k ge))
    (λ le. toward_apart (row w s) (row w d) (j - x) (k - x) (omega arith) (omega arith) rows)
    (cases_lt j x))
    (cases_lt k x)
