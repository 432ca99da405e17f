-- The checks of a load that need no memory are the first of them. Assumes nothing.
use Rattle.std.proofs.Common.{◌≡◌, ℕ, Bool, true, false, List, ◌++◌, length, IfOk, Some, None, Option, Ok, Err, Result, refl, ap, ◌∙◌}
use Rattle.analysis.specs.Answers.{Exactly}
use Rattle.analysis.specs.Loading.{load_checks, open_checks, flow_checks, misfit_checks, timing_of}
use Rattle.calls.specs.declared.load_refusal.LoadRefusal.{LoadRefusal}
use Rattle.calls.specs.declared.record.Record.{Record}
use Rattle.fabric.specs.Routes.{Route}
use Rattle.table.specs.declared.fault.LoadFault.{LoadFault}
use Rattle.table.specs.Checks.{first_fault, header_checks, section_checks}
use Rattle.table.specs.File.{header_of}
use Rattle.table.proofs.Firsts.{both_passed, first_passed}
use Rattle.history.specs.State.{State}
use Rattle.history.specs.Begun.{refusal_of, run_refusal, early_refusal, BuildsRun, Begun, PromiseBegins}
use Rattle.history.proofs.Beginning.{load_begins}

pub opened_first : (bs : List ℕ) (nodes most : ℕ) (route : ℕ → ℕ → ℕ → Route) → first_fault (load_checks bs nodes route most) ≡ None → first_fault (open_checks (length bs) most nodes (header_of bs)) ≡ None
unfolding load_checks
opened_first bs nodes most route e =
    let h = header_of bs in
    let a = both_passed (header_checks (length bs) h) (misfit_checks most nodes h ++ (section_checks (length bs) h ++ flow_checks bs nodes route)) e in
    let b = both_passed (misfit_checks most nodes h) (section_checks (length bs) h ++ flow_checks bs nodes route) a.1 in
    let c = both_passed (section_checks (length bs) h) (flow_checks bs nodes route) b.1 in
    first_passed (header_checks (length bs) h) (misfit_checks most nodes h ++ section_checks (length bs) h) a.0
    ∙ first_passed (misfit_checks most nodes h) (section_checks (length bs) h) b.0
    ∙ c.0

-- nothing was owed, and no check applied
pub none_first : (s : State) (bs : List ℕ) (nodes most : ℕ) (route : ℕ → ℕ → ℕ → Route) → s.owed ≡ false → first_fault (load_checks bs nodes route most) ≡ None → early_refusal s bs nodes most ≡ None
none_first s bs nodes most route idle e =
    ap (λ t. refusal_of t (first_fault (open_checks (length bs) most nodes (header_of bs)))) idle ∙ ap (refusal_of false) (opened_first bs nodes most route e)

-- the checks of the table itself
passed_on : (owed : Bool) (fault : Option LoadFault) → refusal_of owed fault ≡ None → fault ≡ None
passed_on true fault e = cc
passed_on false None e = refl
passed_on false (Some f) e = cc

-- where the load was accepted, the promise begins
pub begins_from :
    (most number nodes : ℕ) (bs : List ℕ) (route : ℕ → ℕ → ℕ → Route) (s s' : State) (r : Result (Unit {0}) LoadRefusal) →
    BuildsRun (run_refusal s bs nodes route most) (λ _. Begun bs route number s') r → IfOk r (λ _. Exactly (timing_of bs route)) →
    IfOk r (λ _. (k : List Record) → PromiseBegins most bs route s' k)
begins_from most number nodes bs route s s' (Ok done) built exact = λ k.
    load_begins most number nodes bs route s' k (passed_on s.owed (first_fault (load_checks bs nodes route most)) built.0) exact built.1
begins_from most number nodes bs route s s' (Err e) built exact = tt
