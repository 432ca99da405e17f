use Rattle.std.proofs.Common.{◌≡◌, ℕ, ◌++◌, length, None, Ok, Result, sym, ap, ◌∙◌, subst}
use Rattle.table.specs.declared.fault.LoadFault.{LoadFault}
use Rattle.table.specs.declared.header.Header.{Header}
use Rattle.table.specs.File.{header_of}
use Rattle.table.specs.Checks.{checked_header, first_fault, unless, header_checks, section_checks}
use Rattle.table.proofs.Firsts.{passed, failed, unless_err, unless_ok, unless_value}
use Rattle.analysis.specs.Loading.{misfit_checks, open_checks}
use Rattle.analysis.proofs.Built.{first_up}
use Rattle.analysis.proofs.Opening.{Opened, opened, set_from}
use Rattle.analysis.proofs.load.open_file.Goals as goal

pub returns-in_err-header : goal.returns-in_err-header
unfolding checked_header
returns-in_err-header c =
    let n = length c.args.file.now in
    let h = header_of c.args.file.now in
    let e = c.in_err-header.field-0.0 in
    first_up _ _ _ e c.from_residual.ensures.1
    (failed (header_checks n h) (misfit_checks c.args.limit c.args.nodes h ++ section_checks n h) h e c.in_err-header.ensures)

pub returns-in_err-check_fit : goal.returns-in_err-check_fit
unfolding checked_header
returns-in_err-check_fit c =
    let n = length c.args.file.now in
    let h = header_of c.args.file.now in
    let m = misfit_checks c.args.limit c.args.nodes h in
    let e = c.in_err-check_fit.field-0.0 in
    let same = unless_value (first_fault (header_checks n h)) h _ c.in_ok-header.ensures in
    first_up _ _ _ e c.from_residual-in_err-check_fit.ensures.1
    (passed (header_checks n h) (m ++ section_checks n h) h _ c.in_ok-header.ensures
    ∙ failed m (section_checks n h) tt e (c.in_err-check_fit.ensures ∙ ap (λ (k : Header). unless (first_fault (misfit_checks c.args.limit c.args.nodes k)) tt) same))

pub returns-in_err-check_sections : goal.returns-in_err-check_sections
unfolding checked_header
returns-in_err-check_sections c =
    let n = length c.args.file.now in
    let h = header_of c.args.file.now in
    let m = misfit_checks c.args.limit c.args.nodes h in
    let e = c.in_err-check_sections.field-0.0 in
    let same = unless_value (first_fault (header_checks n h)) h _ c.in_ok-header.ensures in
    first_up _ _ _ e c.from_residual-in_err-check_sections.ensures.1
    (passed (header_checks n h) (m ++ section_checks n h) h _ c.in_ok-header.ensures
    ∙ passed m (section_checks n h) tt tt (c.in_ok-check_fit.ensures ∙ ap (λ (k : Header). unless (first_fault (misfit_checks c.args.limit c.args.nodes k)) tt) same)
    ∙ unless_err (first_fault (section_checks n h)) tt e (c.in_err-check_sections.ensures ∙ ap (λ (k : Header). unless (first_fault (section_checks n k)) tt) same))

-- all of its checks passed
passed_all :
    (n limit nodes : ℕ) (h k : Header) → Ok k ≡ unless (first_fault (header_checks n h)) h → ◌≡◌ {A = Result (Unit {0}) LoadFault} (Ok tt) (unless (first_fault (misfit_checks limit nodes k)) tt) →
    ◌≡◌ {A = Result (Unit {0}) LoadFault} (Ok tt) (unless (first_fault (section_checks n k)) tt) → first_fault (open_checks n limit nodes h) ≡ None
passed_all n limit nodes h k header fit sections =
    let m = misfit_checks limit nodes h in
    let same = unless_value (first_fault (header_checks n h)) h k header in
    passed (header_checks n h) (m ++ section_checks n h) h k header
    ∙ passed m (section_checks n h) tt tt (fit ∙ ap (λ (j : Header). unless (first_fault (misfit_checks limit nodes j)) tt) same)
    ∙ unless_ok (first_fault (section_checks n h)) tt tt (sections ∙ ap (λ (j : Header). unless (first_fault (section_checks n j)) tt) same)

pub new-requires : goal.new-requires
unfolding checked_header
new-requires c =
    let n = length c.args.file.now in
    let h = header_of c.args.file.now in
    let k = c.in_ok-header.header in
    let fine = passed_all n c.args.limit c.args.nodes h k c.in_ok-header.ensures c.in_ok-check_fit.ensures c.in_ok-check_sections.ensures in
    let ok = subst Opened (sym (unless_value (first_fault (header_checks n h)) h k c.in_ok-header.ensures)) (opened n c.args.limit c.args.nodes h fine) in
    record { flows = ok.few; spare = ok.spare }

pub returns : goal.returns
unfolding checked_header
returns c =
    let n = length c.args.file.now in
    let h = header_of c.args.file.now in
    let k = c.in_ok-header.header in
    let fine = passed_all n c.args.limit c.args.nodes h k c.in_ok-header.ensures c.in_ok-check_fit.ensures c.in_ok-check_sections.ensures in
    set_from _ h k c.new.result (unless_value (first_fault (header_checks n h)) h k c.in_ok-header.ensures) fine (opened n c.args.limit c.args.nodes h fine).known c.new.ensures
