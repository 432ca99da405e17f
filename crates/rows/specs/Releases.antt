-- What a release leaves in the row of its flow, and in the ledger. Assumes nothing.
use Rattle.std.specs.Prelude.{ℕ, true, Some}
use Rattle.calls.specs.declared.record.Record.{Record}
use Rattle.rows.specs.declared.flow_row.FlowRow.{FlowRow}

-- all parts are to come; the record stands at the place given
abbrev pub begun : FlowRow → ℕ → ℕ → FlowRow
begun r cycle place =
    record {
      flow = r.flow;
      progress =
          record {
            left = r.flow.parts;
            denials = 0;
            place = place;
            last = Some cycle;
            wanted = r.progress.wanted;
            granted = r.progress.granted;
          };
    }

abbrev pub opening : ℕ → ℕ → ℕ → Record
opening flow cycle slot = record { flow = flow; release = cycle; first = slot; grants = 0; denials = 0; arrival = 0; pending = true }
