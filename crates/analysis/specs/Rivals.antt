-- The flows above the one whose turn it is, as that one meets them. Assumes nothing.
use Rattle.std.specs.Prelude.{ℕ, ◌+◌, ◌<◌, length}
use Rattle.timing.specs.Model.{Table}
use Rattle.analysis.specs.declared.row.Row.{Row}
use Rattle.analysis.specs.declared.bounding.Rivals.{Rivals}
use Rattle.analysis.specs.Standing.{Marks, Stands, Told}

-- the number of the flow whose turn it is
abbrev pub next : Rivals → ℕ
next r = length r.turn.rows.now + 1

-- the rows tell what the table says of the flows above, and the marks which of them share a link
pub record Met (b : Table) (r : Rivals) : Type 0 where
  pub told : Told b r.turn.setting.now.slot r.turn.rows.now
  pub marks : Marks b r.marks.now (next r)

-- one of them is flow h, with its row
pub record Rival (b : Table) (r : Rivals) (row : Row) (h : ℕ) : Type 0 where
  pub met : Met b r
  pub above : h < next r
  pub stands : Stands b row h
