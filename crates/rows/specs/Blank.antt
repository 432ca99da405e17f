-- A row of a flow that has released nothing. Assumes nothing.
--   idle: the row of a flow just loaded
--   no_flow: what a read past the last flow gives; no_row: past the last row
use Rattle.std.specs.Prelude.{false, None, refl, replicate}
use Rattle.std.proofs.Common.{lit≤}
use Rattle.analysis.specs.declared.row.Row.{Row}
use Rattle.analysis.specs.Tables.{no_record}
use Rattle.rows.specs.declared.flow_row.FlowRow.{FlowRow}

abbrev pub idle : Row → FlowRow
idle flow = record { flow = flow; progress = record { left = 0; denials = 0; place = 0; last = None; wanted = false; granted = false } }

abbrev pub no_flow : Row
no_flow =
    record {
      «record» = no_record;
      path = record { links = replicate 64 0; len = 0; long = refl; few = lit≤ tt };
      parts = 0;
      tail = 0;
      alone = 0;
      above = record { flags = replicate 128 false; long = refl };
      bound = None;
      rounds = 0;
    }

abbrev pub no_row : FlowRow
no_row = idle no_flow
