use Rattle.std.proofs.Common.{◌≡◌, None}
use Rattle.table.specs.Checks.{first_fault}
use Rattle.analysis.specs.Loading.{each_flow, record_checks}
use Rattle.analysis.specs.Tables.{record_of}
use Rattle.analysis.proofs.checks.check_records.Given as goal

abbrev pub invariant-loop-k : goal.invariant-loop-k
invariant-loop-k l = first_fault (each_flow (λ i. record_checks l.setting.header l.nodes l.setting.slot.length i (record_of l.records i)) l.k) ≡ None
