-- Each call upholds the promise. Assumes nothing.
use Rattle.std.specs.Prelude.{ℕ, List, Result}
use Rattle.calls.specs.declared.event.Event.TheVariants.{Released, Arbitrated, Injected, Abandoned, Reported, Told}
use Rattle.calls.specs.declared.record.Record.{Record}
use Rattle.calls.specs.declared.refusal.Refusal.{Refusal}
use Rattle.calls.specs.declared.report.Report.{Report}
use Rattle.calls.specs.declared.report.Verdict.{Verdict}
use Rattle.calls.specs.declared.slip_name.SlipName.{SlipName}
use Rattle.history.specs.State.{State}
use Rattle.history.specs.Steps.{Releases, Arbitrates, Injects, Abandons, Reports, Tells}
use Rattle.history.specs.Promise.{Upholds}

abbrev pub ReleaseUpholds : Type 0
ReleaseUpholds =
    (most : ℕ) (s s' : State) (k k' : List Record) (i t : ℕ) (r : Result (Unit {0}) Refusal) → Releases s k i t r s' k' → Upholds most (Released i t r) s k s' k'

abbrev pub ArbitrateUpholds : Type 0
ArbitrateUpholds =
    (most : ℕ) (s s' : State) (k : List Record) (r : Result SlipName Refusal) → Arbitrates most s r s' → Upholds most (Arbitrated r) s k s' k

abbrev pub InjectUpholds : Type 0
InjectUpholds =
    (most : ℕ) (s s' : State) (k k' : List Record) (p : SlipName) (r : Result ℕ Refusal) → Injects s k p r s' k' → Upholds most (Injected p r) s k s' k'

abbrev pub AbandonUpholds : Type 0
AbandonUpholds =
    (most : ℕ) (s s' : State) (k : List Record) (p : SlipName) (r : Result (Unit {0}) Refusal) → Abandons s p r s' → Upholds most (Abandoned p r) s k s' k

abbrev pub ReportUpholds : Type 0
ReportUpholds =
    (most : ℕ) (s s' : State) (k k' : List Record) (r : Result Report Refusal) → Reports s k r s' k' → Upholds most (Reported r) s k s' k'

abbrev pub VerdictUpholds : Type 0
VerdictUpholds = (most : ℕ) (s s' : State) (k : List Record) (i : ℕ) (r : Result Verdict Refusal) → Tells s i r s' → Upholds most (Told i r) s k s' k
