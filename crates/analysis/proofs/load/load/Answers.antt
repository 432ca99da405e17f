use Rattle.std.proofs.Common.{◌≡◌, ℕ, ◌+◌, ◌-◌, ◌≤◌, length, get_or, Some, None, refl, ap, ◌∙◌, subst, arith}
use Rattle.table.specs.declared.fault.LoadFault.TheVariants.{NoMemory}
use Rattle.table.specs.File.{header_of, flows_of}
use Rattle.table.proofs.Firsts.{unless_err, unless_ok}
use Rattle.analysis.specs.Loading.{record_checks}
use Rattle.analysis.specs.Tables.{no_record, record_of}
use Rattle.analysis.proofs.Built.{built_fault, handed_up}
use Rattle.analysis.proofs.Laws.{each_passed, right}
use Rattle.analysis.proofs.Opening.{open_never}
use Rattle.analysis.proofs.Whole.{open_fault, few, record_fault, routes_decide, loads, exactly}
use Rattle.analysis.proofs.load.load.Goals as goal

pub returns-in_err-setting-clause-answer : goal.returns-in_err-setting-clause-answer
returns-in_err-setting-clause-answer g c =
    let e = c.in_err-setting.field-0.0 in
    let fault = open_fault c.args.file.now _ c.args.limit (g.F.Fabric.route c.args.fabric.now) _ c.node_count-nodes.ensures e c.in_err-setting.ensures in
    built_fault _ _ _ e c.from_residual.ensures.1 (λ _. fault)

pub returns-in_err-setting-clause-memory : goal.returns-in_err-setting-clause-memory
returns-in_err-setting-clause-memory g c =
    let bs = c.args.file.now in
    let e = c.in_err-setting.field-0.0 in
    λ out. absurd (open_never (length bs) c.args.limit c.node_count-nodes.result (header_of bs) (c.in_err-setting.ensures ∙ ap Some (handed_up _ e NoMemory c.from_residual.ensures.1 out)))

pub check_records-requires : goal.check_records-requires
check_records-requires g c =
    let bs = c.args.file.now in
    let fine = c.in_ok-setting.ensures.0 in
    let set = c.in_ok-setting.ensures.1 in
    let er = c.as_slice-flows.ensures.value ∙ c.in_ok-records.ensures ∙ ap (flows_of bs) set.header_is in
    few bs _ c.args.limit (g.F.Fabric.route c.args.fabric.now) _ c.node_count-nodes.ensures fine c.in_ok-setting.setting c.as_slice-flows.result.now set er

pub returns-in_err-check_records-clause-answer : goal.returns-in_err-check_records-clause-answer
returns-in_err-check_records-clause-answer g c =
    let bs = c.args.file.now in
    let fine = c.in_ok-setting.ensures.0 in
    let set = c.in_ok-setting.ensures.1 in
    let er = c.as_slice-flows.ensures.value ∙ c.in_ok-records.ensures ∙ ap (flows_of bs) set.header_is in
    let e = c.in_err-check_records.field-0.0 in
    let fault =
    record_fault bs _ c.args.limit (g.F.Fabric.route c.args.fabric.now) _ c.node_count-nodes.ensures fine c.in_ok-setting.setting c.as_slice-flows.result.now set er e
    (unless_err _ tt e c.in_err-check_records.ensures) in
    built_fault _ _ _ e c.from_residual-in_err-check_records.ensures.1 (λ _. fault)

pub load_rows-requires : goal.load_rows-requires
load_rows-requires g c =
    let bs = c.args.file.now in
    let N = c.node_count-nodes.result in
    let s = c.in_ok-setting.setting in
    let fine = c.in_ok-setting.ensures.0 in
    let set = c.in_ok-setting.ensures.1 in
    let xs = c.as_slice-flows.result.now in
    let er = c.as_slice-flows.ensures.value ∙ c.in_ok-records.ensures ∙ ap (flows_of bs) set.header_is in
    let right-all = unless_ok _ tt tt c.in_ok-check_records.ensures in
    record {
      apart = λ k less.
          let place : k + 1 - 1 ≡ k = omega arith in
          let at =
          right s.header N s.slot.length (k + 1) (record_of xs (k + 1))
          (each_passed (λ i. record_checks s.header N s.slot.length i (record_of xs i)) (length xs) (k + 1) right-all (omega arith) (omega arith)) in
          subst (λ (m : ℕ). 1 ≤ (get_or xs m no_record).separation) place at.separation;
      few = few bs N c.args.limit (g.F.Fabric.route c.args.fabric.now) _ c.node_count-nodes.ensures fine s xs set er;
    }

pub returns-in_err-rows-clause-answer : goal.returns-in_err-rows-clause-answer
returns-in_err-rows-clause-answer g c =
    let bs = c.args.file.now in
    let fine = c.in_ok-setting.ensures.0 in
    let set = c.in_ok-setting.ensures.1 in
    let er = c.as_slice-flows.ensures.value ∙ c.in_ok-records.ensures ∙ ap (flows_of bs) set.header_is in
    let e = c.in_err-rows.field-0.0 in
    let right-all = unless_ok _ tt tt c.in_ok-check_records.ensures in
    built_fault _ _ _ e c.from_residual-in_err-rows.ensures.1 (λ other.
    routes_decide bs _ c.args.limit (g.F.Fabric.route c.args.fabric.now) _ c.node_count-nodes.ensures fine c.in_ok-setting.setting c.as_slice-flows.result.now set er right-all
    (Some e) (c.in_err-rows.ensures other))

pub returns-clause-answer : goal.returns-clause-answer
returns-clause-answer g c =
    let bs = c.args.file.now in
    let R = g.F.Fabric.route c.args.fabric.now in
    let s = c.in_ok-setting.setting in
    let fine = c.in_ok-setting.ensures.0 in
    let set = c.in_ok-setting.ensures.1 in
    let xs = c.as_slice-flows.result.now in
    let er = c.as_slice-flows.ensures.value ∙ c.in_ok-records.ensures ∙ ap (flows_of bs) set.header_is in
    let right-all = unless_ok _ tt tt c.in_ok-check_records.ensures in
    let built = c.in_ok-rows.ensures in (
      routes_decide bs _ c.args.limit R _ c.node_count-nodes.ensures fine s xs set er right-all None built.0,
      loads bs _ c.args.limit R _ c.node_count-nodes.ensures fine s xs set er right-all _ refl built.1,
    )

pub returns-clause-exact : goal.returns-clause-exact
returns-clause-exact g c =
    let bs = c.args.file.now in
    let fine = c.in_ok-setting.ensures.0 in
    let set = c.in_ok-setting.ensures.1 in
    let er = c.as_slice-flows.ensures.value ∙ c.in_ok-records.ensures ∙ ap (flows_of bs) set.header_is in
    let right-all = unless_ok _ tt tt c.in_ok-check_records.ensures in
    exactly bs _ c.args.limit (g.F.Fabric.route c.args.fabric.now) _ c.node_count-nodes.ensures fine c.in_ok-setting.setting c.as_slice-flows.result.now set er right-all
    c.in_ok-rows.ensures.0
