use Rattle.std.proofs.Common.{◌≡◌, ℕ, Bool, List, ◌++◌, length, Ok, Result, sym, ap, ◌∙◌}
use Rattle.table.specs.declared.fault.LoadFault.{LoadFault}
use Rattle.table.specs.declared.header.Header.{Header}
use Rattle.table.specs.File.{header_of}
use Rattle.table.specs.Checks.{checked_header, first_fault, unless, header_checks, size_checks, shape_checks, unlisted_checks, reserved_checks, profile_checks}
use Rattle.table.proofs.Firsts.{passed, failed, exits, unless_err, unless_ok}
use Rattle.table.proofs.checks.check_header.Goals as goal

-- the answer, by the header that was read
abbrev told : ℕ → Header → Result Header LoadFault
told len h = unless (first_fault (header_checks len h)) h

abbrev Passes : List (Bool × LoadFault) → Type 0
Passes checks = ◌≡◌ {A = Result (Unit {0}) LoadFault} (Ok tt) (unless (first_fault checks) tt)

-- what is left of the checks after each part
abbrev after_size : Header → List (Bool × LoadFault)
after_size h = shape_checks h ++ (unlisted_checks h ++ (reserved_checks h ++ profile_checks h))

abbrev after_shape : Header → List (Bool × LoadFault)
after_shape h = unlisted_checks h ++ (reserved_checks h ++ profile_checks h)

abbrev after_unlisted : Header → List (Bool × LoadFault)
after_unlisted h = reserved_checks h ++ profile_checks h

-- what decides, as the parts pass one by one
module _ (len : ℕ) (h : Header) (sized : Passes (size_checks len)) where
  past_size : first_fault (header_checks len h) ≡ first_fault (after_size h)
  past_size = passed (size_checks len) (after_size h) tt tt sized

  past_shape : Passes (shape_checks h) → first_fault (header_checks len h) ≡ first_fault (after_shape h)
  past_shape a = past_size ∙ passed (shape_checks h) (after_shape h) tt tt a

  past_unlisted : Passes (shape_checks h) → Passes (unlisted_checks h) → first_fault (header_checks len h) ≡ first_fault (after_unlisted h)
  past_unlisted a b = past_shape a ∙ passed (unlisted_checks h) (after_unlisted h) tt tt b

  past_reserved :
      Passes (shape_checks h) → Passes (unlisted_checks h) → Passes (reserved_checks h) → first_fault (header_checks len h) ≡ first_fault (profile_checks h)
  past_reserved a b c = past_unlisted a b ∙ passed (reserved_checks h) (profile_checks h) tt tt c

pub returns-in_err-check_size : goal.returns-in_err-check_size
unfolding checked_header
returns-in_err-check_size c =
    let n = length c.args.bytes.now in
    let h = header_of c.args.bytes.now in
    exits _ (first_fault (header_checks n h)) h c.in_err-check_size.field-0.0 c.from_residual.ensures.1
    (failed (size_checks n) (after_size h) tt _ c.in_err-check_size.ensures)

pub returns-in_err-check_shape : goal.returns-in_err-check_shape
unfolding checked_header
returns-in_err-check_shape c =
    let n = length c.args.bytes.now in
    let h = c.read-header.result in
    exits _ (first_fault (header_checks n h)) h c.in_err-check_shape.field-0.0 c.from_residual-in_err-check_shape.ensures.1
    (past_size n h c.in_ok-check_size.ensures ∙ failed (shape_checks h) (after_shape h) tt _ c.in_err-check_shape.ensures)
    ∙ ap (told n) c.read-header.ensures

pub returns-in_err-check_unlisted : goal.returns-in_err-check_unlisted
unfolding checked_header
returns-in_err-check_unlisted c =
    let n = length c.args.bytes.now in
    let h = c.read-header.result in
    exits _ (first_fault (header_checks n h)) h c.in_err-check_unlisted.field-0.0 c.from_residual-in_err-check_unlisted.ensures.1
    (past_shape n h c.in_ok-check_size.ensures c.in_ok-check_shape.ensures
    ∙ failed (unlisted_checks h) (after_unlisted h) tt _ c.in_err-check_unlisted.ensures)
    ∙ ap (told n) c.read-header.ensures

pub returns-in_err-check_reserved : goal.returns-in_err-check_reserved
unfolding checked_header
returns-in_err-check_reserved c =
    let n = length c.args.bytes.now in
    let h = c.read-header.result in
    exits _ (first_fault (header_checks n h)) h c.in_err-check_reserved.field-0.0 c.from_residual-in_err-check_reserved.ensures.1
    (past_unlisted n h c.in_ok-check_size.ensures c.in_ok-check_shape.ensures c.in_ok-check_unlisted.ensures
    ∙ failed (reserved_checks h) (profile_checks h) tt _ c.in_err-check_reserved.ensures)
    ∙ ap (told n) c.read-header.ensures

pub returns-in_err-check_profile : goal.returns-in_err-check_profile
unfolding checked_header
returns-in_err-check_profile c =
    let n = length c.args.bytes.now in
    let h = c.read-header.result in
    exits _ (first_fault (header_checks n h)) h c.in_err-check_profile.field-0.0 c.from_residual-in_err-check_profile.ensures.1
    (past_reserved n h c.in_ok-check_size.ensures c.in_ok-check_shape.ensures c.in_ok-check_unlisted.ensures
    c.in_ok-check_reserved.ensures
    ∙ unless_err (first_fault (profile_checks h)) tt _ c.in_err-check_profile.ensures)
    ∙ ap (told n) c.read-header.ensures

pub returns : goal.returns
unfolding checked_header
returns c =
    let n = length c.args.bytes.now in
    let h = c.read-header.result in
    sym (ap (λ o. unless o h)
    (past_reserved n h c.in_ok-check_size.ensures c.in_ok-check_shape.ensures c.in_ok-check_unlisted.ensures
    c.in_ok-check_reserved.ensures
    ∙ unless_ok (first_fault (profile_checks h)) tt tt c.in_ok-check_profile.ensures))
    ∙ ap (told n) c.read-header.ensures
