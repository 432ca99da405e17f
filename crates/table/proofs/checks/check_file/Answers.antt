use Rattle.std.proofs.Common.{length, Ok, sym, ap, ◌∙◌}
use Rattle.table.specs.File.{header_of}
use Rattle.table.specs.Checks.{checked_header, checked_file, first_fault, unless, header_checks, section_checks}
use Rattle.table.proofs.Firsts.{passed, failed, exits, unless_err, unless_ok, unless_value}
use Rattle.table.proofs.checks.check_file.Goals as goal

pub returns-in_err-header : goal.returns-in_err-header
unfolding checked_header checked_file
returns-in_err-header c =
    let n = length c.args.bytes.now in
    let h = header_of c.args.bytes.now in
    exits _ _ h c.in_err-header.field-0.0 c.from_residual.ensures.1
    (failed (header_checks n h) (section_checks n h) h _ c.in_err-header.ensures)

pub returns-in_err-check_sections : goal.returns-in_err-check_sections
unfolding checked_header checked_file
returns-in_err-check_sections c =
    let n = length c.args.bytes.now in
    let h = header_of c.args.bytes.now in
    let same = unless_value (first_fault (header_checks n h)) h _ c.in_ok-header.ensures in
    exits _ _ h c.in_err-check_sections.field-0.0 c.from_residual-in_err-check_sections.ensures.1
    (passed (header_checks n h) (section_checks n h) h _ c.in_ok-header.ensures
    ∙ unless_err (first_fault (section_checks n h)) tt _ (c.in_err-check_sections.ensures ∙ ap (λ k. unless (first_fault (section_checks n k)) tt) same))

pub returns : goal.returns
unfolding checked_header checked_file
returns c =
    let n = length c.args.bytes.now in
    let h = header_of c.args.bytes.now in
    let same = unless_value (first_fault (header_checks n h)) h _ c.in_ok-header.ensures in
    ap Ok same
    ∙ sym (ap (λ o. unless o h)
    (passed (header_checks n h) (section_checks n h) h _ c.in_ok-header.ensures
    ∙ unless_ok (first_fault (section_checks n h)) tt tt (c.in_ok-check_sections.ensures ∙ ap (λ k. unless (first_fault (section_checks n k)) tt) same)))
