use Rattle.std.proofs.Common.{◌≡◌, ℕ, ◌+◌, ◌-◌, Bool, List, length, get_or, Some, None, ap, ◌∙◌, arith}
use Rattle.table.specs.declared.fault.LoadFault.{LoadFault}
use Rattle.table.specs.declared.header.Header.{Header}
use Rattle.table.specs.declared.records.FlowRecord.{FlowRecord}
use Rattle.table.specs.Checks.{first_fault}
use Rattle.table.proofs.Firsts.{unless_err, unless_ok, exits}
use Rattle.analysis.specs.Loading.{record_checks, each_flow}
use Rattle.analysis.specs.Tables.{record_of, no_record}
use Rattle.analysis.proofs.Turns.{none_yet, turn_is, stays}
use Rattle.analysis.proofs.checks.check_records.Goals as goal

abbrev checks_of : Header → ℕ → ℕ → List FlowRecord → ℕ → List (Bool × LoadFault)
checks_of h nodes slot rs i = record_checks h nodes slot i (record_of rs i)

-- flow k + 1 has the record at k
same : (h : Header) (nodes slot : ℕ) (rs : List FlowRecord) (k : ℕ) → first_fault (checks_of h nodes slot rs (k + 1)) ≡ first_fault (record_checks h nodes slot (k + 1) (get_or rs k no_record))
same h nodes slot rs k =
    let place : k + 1 - 1 ≡ k = omega arith in
    ap (λ j. first_fault (record_checks h nodes slot (k + 1) (get_or rs j no_record))) place

pub loop-k-init : goal.loop-k-init
loop-k-init c = none_yet (checks_of c.args.setting.now.header c.args.nodes c.args.setting.now.slot.length c.args.records.now)

pub returns-in_err-check_record : goal.returns-in_err-check_record
returns-in_err-check_record c =
    let f = checks_of c.args.setting.now.header c.args.nodes c.args.setting.now.slot.length c.args.records.now in
    let n = length c.args.records.now in
    let k = c.loop-k.k in
    let e = c.in_err-check_record.field-0.0 in
    let here = same c.args.setting.now.header c.args.nodes c.args.setting.now.slot.length c.args.records.now k ∙ unless_err _ tt e c.in_err-check_record.ensures in
    exits _ (first_fault (each_flow f n)) tt e c.from_residual.ensures.1
    (stays f (k + 1) n e (omega (arith, c.loop-k-test.true)) (turn_is f k (Some e) c.loop-k.invariant here))

pub loop-k-preserved : goal.loop-k-preserved
loop-k-preserved c =
    let f = checks_of c.args.setting.now.header c.args.nodes c.args.setting.now.slot.length c.args.records.now in
    let k = c.loop-k.k in
    let here = same c.args.setting.now.header c.args.nodes c.args.setting.now.slot.length c.args.records.now k ∙ unless_ok _ tt tt c.in_ok-check_record.ensures in
    turn_is f k None c.loop-k.invariant here
