-- Answers that are a value or the first fault. Assumes nothing.
use Rattle.std.proofs.Common.{◌≡◌, IsErrAnd, Some, Err, Option, Result, MatchResult, sym, ap, ◌∙◌, subst}
use Rattle.std.proofs.lemmas.Result.{err_from_is_err_and}
use Rattle.table.specs.declared.fault.LoadFault.{LoadFault}
use Rattle.table.specs.declared.fault.LoadFault.TheVariants.{NoMemory}
use Rattle.analysis.specs.Rows.{Builds}

-- a fault e that is handed up
pub built_fault :
    {X : Type 0} (o : Option LoadFault) (P : X → Type 0) (r : Result X LoadFault) (e : LoadFault) → IsErrAnd r (λ y. y ≡ e) → ((e ≡ NoMemory → ⊥) → o ≡ Some e) →
    Builds o P r
built_fault o P r e by first = let q = err_from_is_err_and r by in subst (Builds o P) (sym (q.1 ∙ ap Err q.2)) first

-- the first fault, handed up
pub first_up :
    {X : Type 0} (o : Option LoadFault) (P : X → Type 0) (r : Result X LoadFault) (e : LoadFault) → IsErrAnd r (λ y. y ≡ e) → o ≡ Some e → MatchResult r P (λ f. o ≡ Some f)
first_up o P r e by first = let q = err_from_is_err_and r by in subst (λ (s : Result _ LoadFault). MatchResult s P (λ f. o ≡ Some f)) (sym (q.1 ∙ ap Err q.2)) first

-- the fault that was handed up
pub handed_up : {X : Type 0} (r : Result X LoadFault) (e f : LoadFault) → IsErrAnd r (λ y. y ≡ e) → r ≡ Err f → e ≡ f
handed_up r e f by out = let q = err_from_is_err_and r by in let a = q.1 in let b = q.2 in cc
