-- What filling the rows answers: a row for each flow, or none where some flow is not small. Assumes nothing.
use Rattle.std.specs.Prelude.{◌≡◌, List, map, Some, None, Option}
use Rattle.analysis.specs.declared.row.Row.{Row}
use Rattle.rows.specs.declared.rows.Rows.{Rows}
use Rattle.rows.specs.Blank.{idle}
use Rattle.rows.specs.Small.{Small}

abbrev pub Fills : List Row → Option Rows → Type 0
Fills flows (Some rows) = rows ≡ map idle flows
Fills flows None = Small (map idle flows) → ⊥
