-- Flows whose figures are small, so that a run can reckon with them. Assumes nothing.
use Rattle.std.specs.Prelude.{ℕ, ◌^◌, ◌<◌, List, length, slice_index_or}
use Rattle.analysis.specs.declared.row.Row.{Row}
use Rattle.rows.specs.declared.flow_row.FlowRow.{FlowRow}

-- its source is a node below 256, and its last part is on its way for less than 2 ^ 60 cycles
pub record IsSmall (flow : Row) : Type 0 where
  pub near : flow.record.source < 256
  pub brief : flow.tail < 2 ^ 60

-- each row's flow is
abbrev pub Small : List FlowRow → Type 0
Small rows = (k : ℕ) (d : FlowRow) → k < length rows → IsSmall (slice_index_or rows k d).flow
