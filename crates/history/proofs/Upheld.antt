-- Each call upholds the promise. Assumes nothing.
use Rattle.std.proofs.Common.{◌≡◌, ℕ, not, eqb, ltb, List, [], ◌∷◌, length, Some, Ok, Err, sym, refl, ap, ◌∙◌, subst, arith}
use Rattle.std.proofs.lemmas.Bool.{not-false}
use Rattle.calls.specs.declared.event.Event.{Event}
use Rattle.calls.specs.declared.event.Event.TheVariants.{Released, Arbitrated, Injected, Abandoned, Reported, Told}
use Rattle.calls.specs.declared.record.Record.{Record}
use Rattle.calls.specs.declared.refusal.Refusal.TheVariants.{Ended, Owed, LastSlot, WrongSlip, ShortLedger, Busy}
use Rattle.calls.specs.Events.{first_refusal}
use Rattle.rows.specs.Grants as rows
use Rattle.rows.specs.Serving.{grant_count}
use Rattle.rows.specs.Times.{late, ahead, soon}
use Rattle.timing.specs.Model.{Table}
use Rattle.history.specs.State.{State, known, row_of, names}
use Rattle.history.specs.Steps.{release_checks, arbitrate_checks, inject_checks, slip_of}
use Rattle.history.specs.Counted.{History}
use Rattle.history.specs.Since.{Since, Lists}
use Rattle.history.specs.Theorems.{ReleaseUpholds, ArbitrateUpholds, InjectUpholds, AbandonUpholds, ReportUpholds, VerdictUpholds}
use Rattle.history.proofs.Carried.{lists_alike, no_report, release_refused, arbitrate_refused, inject_refused, abandon_refused, abandon_since, report_since, verdict_since}
use Rattle.history.proofs.Checks.{accepted_none, refused_some, passed, release_passed, release_busy}
use Rattle.history.proofs.Arbitrating.{arbitrate_since}
use Rattle.history.proofs.Injecting.{inject_since, inject_lists}
use Rattle.history.proofs.Promised.{upheld}
use Rattle.history.proofs.Releasing.{held_unbounded, release_since, release_lists}
use Rattle.history.proofs.Reporting.{report_lists}

-- the run and the ledger as a call leaves them
abbrev pub Keeps : ℕ → Event → State → List Record → State → List Record → Type 0
Keeps most e s k s' k' = (b : Table) (h : History) → Since most b h s → Since most b (e ∷ h) s' × (Lists b h k → Lists b (e ∷ h) k')

pub release_upholds : ReleaseUpholds
release_upholds most s s' k k' i t (Ok done) step =
    upheld most (Released i t (Ok tt)) s k s' k' (λ b h u.
    let tests = release_passed s.ended s.owed (not (known s i)) (late s.times s.slot i t) (ahead s.times s.slot i t)
    (soon (row_of s i).progress.last (row_of s i).flow.«record».separation t) (rows.wants (row_of s i)) (ltb (length k) s.count) (eqb (length k) s.count)
    (accepted_none (first_refusal (release_checks s (length k) i t)) tt tt step.answer) in
    let P : State → Type 0 = λ x. Since most b (Released i t (Ok tt) ∷ h) x in
    let Q : List Record → Type 0 = λ x. Lists b (Released i t (Ok tt) ∷ h) x in
    (subst P (sym step.run) (release_since most b h s i t u tests.0 tests.1), λ l. subst Q (sym step.ledger) (release_lists most b h s i t u tests.0 tests.1 k tests.2 tests.3 l)))
release_upholds most s s' k k' i t (Err x) step =
    upheld most (Released i t (Err x)) s k s' k' (λ b h u.
    let first = refused_some (first_refusal (release_checks s (length k) i t)) x tt step.answer in
    let held = λ (busy : x ≡ Busy). held_unbounded most b h s i t u
    (release_busy s.ended s.owed (not (known s i)) (late s.times s.slot i t) (ahead s.times s.slot i t)
    (soon (row_of s i).progress.last (row_of s i).flow.«record».separation t) (rows.wants (row_of s i)) (ltb (length k) s.count) (eqb (length k) s.count) (first ∙ ap Some busy)) in
    let P : State → Type 0 = λ y. Since most b (Released i t (Err x) ∷ h) y in
    let Q : List Record → Type 0 = λ y. Lists b (Released i t (Err x) ∷ h) y in (
      subst P (sym step.run) (release_refused most b h s i t x held u),
      λ l. subst Q (sym step.ledger) (lists_alike b h (Released i t (Err x) ∷ h) k refl (no_report b h (Released i t (Err x)) (λ e. omega arith) l.told) l),
    ))

pub arbitrate_upholds : ArbitrateUpholds
arbitrate_upholds most s s' k (Ok p) step =
    upheld most (Arbitrated (Ok p)) s k s' k (λ b h u.
    let none = accepted_none (first_refusal (arbitrate_checks s)) p (slip_of s) step.answer in
    let a = passed s.ended Ended ((s.owed, Owed) ∷ (eqb s.slot 4294967295, LastSlot) ∷ []) none in
    let c = passed s.owed Owed ((eqb s.slot 4294967295, LastSlot) ∷ []) a.1 in
    let d = passed (eqb s.slot 4294967295) LastSlot [] c.1 in
    let P : State → Type 0 = λ y. Since most b (Arbitrated (Ok p) ∷ h) y in (
      subst P (sym step.run) (arbitrate_since most b h s u p d.0),
      λ l. lists_alike b h (Arbitrated (Ok p) ∷ h) k refl (no_report b h (Arbitrated (Ok p)) (λ e. omega arith) l.told) l,
    ))
arbitrate_upholds most s s' k (Err x) step =
    upheld most (Arbitrated (Err x)) s k s' k (λ b h u.
    let P : State → Type 0 = λ y. Since most b (Arbitrated (Err x) ∷ h) y in (
      subst P (sym step.run) (arbitrate_refused most b h s x u),
      λ l. lists_alike b h (Arbitrated (Err x) ∷ h) k refl (no_report b h (Arbitrated (Err x)) (λ e. omega arith) l.told) l,
    ))

pub inject_upholds : InjectUpholds
inject_upholds most s s' k k' p (Ok n) step =
    upheld most (Injected p (Ok n)) s k s' k' (λ b h u.
    let none = accepted_none (first_refusal (inject_checks s (length k) p)) n (grant_count s.rows) step.answer in
    let a = passed (not (names s p)) WrongSlip ((ltb (length k) s.count, ShortLedger) ∷ []) none in
    let c = passed (ltb (length k) s.count) ShortLedger [] a.1 in
    let named = not-false (names s p) a.0 in
    let P : State → Type 0 = λ y. Since most b (Injected p (Ok n) ∷ h) y in
    let Q : List Record → Type 0 = λ y. Lists b (Injected p (Ok n) ∷ h) y in
    (subst P (sym step.run) (inject_since most b h s p n named u), λ l. subst Q (sym step.ledger) (inject_lists most b h s k p n named c.0 u l)))
inject_upholds most s s' k k' p (Err x) step =
    upheld most (Injected p (Err x)) s k s' k' (λ b h u.
    let P : State → Type 0 = λ y. Since most b (Injected p (Err x) ∷ h) y in
    let Q : List Record → Type 0 = λ y. Lists b (Injected p (Err x) ∷ h) y in (
      subst P (sym step.run) (inject_refused most b h s p x u),
      λ l. subst Q (sym step.ledger) (lists_alike b h (Injected p (Err x) ∷ h) k refl (no_report b h (Injected p (Err x)) (λ e. omega arith) l.told) l),
    ))

pub abandon_upholds : AbandonUpholds
abandon_upholds most s s' k p (Ok done) step =
    upheld most (Abandoned p (Ok tt)) s k s' k (λ b h u.
    let P : State → Type 0 = λ y. Since most b (Abandoned p (Ok tt) ∷ h) y in (
      subst P (sym step.run) (abandon_since most b h s p u),
      λ l. lists_alike b h (Abandoned p (Ok tt) ∷ h) k refl (no_report b h (Abandoned p (Ok tt)) (λ e. omega arith) l.told) l,
    ))
abandon_upholds most s s' k p (Err x) step =
    upheld most (Abandoned p (Err x)) s k s' k (λ b h u.
    let P : State → Type 0 = λ y. Since most b (Abandoned p (Err x) ∷ h) y in (
      subst P (sym step.run) (abandon_refused most b h s p x u),
      λ l. lists_alike b h (Abandoned p (Err x) ∷ h) k refl (no_report b h (Abandoned p (Err x)) (λ e. omega arith) l.told) l,
    ))

pub report_upholds : ReportUpholds
report_upholds most s s' k k' r step =
    upheld most (Reported r) s k s' k' (λ b h u.
    let P : State → Type 0 = λ y. Since most b (Reported r ∷ h) y in
    let Q : List Record → Type 0 = λ y. Lists b (Reported r ∷ h) y in
    (subst P (sym step.run) (report_since most b h s r u), λ l. subst Q (sym step.ledger) (report_lists most b h s k r step.answer u l)))

pub verdict_upholds : VerdictUpholds
verdict_upholds most s s' k i r step =
    upheld most (Told i r) s k s' k (λ b h u.
    let P : State → Type 0 = λ y. Since most b (Told i r ∷ h) y in
    (subst P (sym step.run) (verdict_since most b h s i r u), λ l. lists_alike b h (Told i r ∷ h) k refl (no_report b h (Told i r) (λ e. omega arith) l.told) l))
