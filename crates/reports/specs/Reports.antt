-- What a report tells of the first records of a ledger. Assumes nothing.
--   arrived_in, pending_in: the records of packets that have arrived, and of those that are open
--   told rows k: the report of the records k
--   report_of rows count k: the answer of a report, of the first so many records of the ledger k
use Rattle.std.specs.Prelude.{ℕ, ◌+◌, cond, List, [], ◌∷◌, length, take, Ok, Err, Result, nat_lt}
use Rattle.calls.specs.declared.record.Record.{Record}
use Rattle.calls.specs.declared.refusal.Refusal.{Refusal}
use Rattle.calls.specs.declared.refusal.Refusal.TheVariants.{ShortLedger}
use Rattle.calls.specs.declared.report.Report.{Report}
use Rattle.rows.specs.declared.flow_row.FlowRow.{FlowRow}
use Rattle.reports.specs.Margins.{tightest_record}

abbrev pub arrived_in : List Record → ℕ
arrived_in [] = 0
arrived_in (r ∷ k) = cond r.pending 0 1 + arrived_in k

abbrev pub pending_in : List Record → ℕ
pending_in [] = 0
pending_in (r ∷ k) = cond r.pending 1 0 + pending_in k

abbrev pub told : List FlowRow → List Record → Report
told rows k = record { accepted = length k; arrived = arrived_in k; pending = pending_in k; tightest = tightest_record rows k }

abbrev pub report_of : List FlowRow → ℕ → List Record → Result Report Refusal
report_of rows count k = cond (nat_lt (length k) count) (Err ShortLedger) (Ok (told rows (take count k)))
