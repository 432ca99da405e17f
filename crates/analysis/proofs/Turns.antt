-- The first fault of flows that are checked in turn. Assumes nothing.
use Rattle.std.proofs.Common.{◌≡◌, ℕ, zero, suc, ◌+◌, ◌≤◌, Bool, List, ◌++◌, Some, None, Option, sym, refl, ap, ◌∙◌, inl, inr, add-one, arith}
use Rattle.std.proofs.lemmas.Bool.{cases_lt}
use Rattle.table.specs.declared.fault.LoadFault.{LoadFault}
use Rattle.table.specs.Checks.{first_fault}
use Rattle.table.proofs.Firsts.{first_passed, first_failed}
use Rattle.analysis.specs.Loading.{each_flow}

module _ (checks : ℕ → List (Bool × LoadFault)) where
  pub none_yet : first_fault (each_flow checks 0) ≡ None
  unfolding each_flow
  none_yet = refl

  turn_on : (n : ℕ) → each_flow checks (n + 1) ≡ each_flow checks n ++ checks (n + 1)
  unfolding each_flow
  turn_on n = ap (each_flow checks) (add-one n) ∙ ap (λ k. each_flow checks n ++ checks k) (sym (add-one n))

  -- where the flows before passed, flow n + 1 decides
  pub turn_is : (n : ℕ) (o : Option LoadFault) → first_fault (each_flow checks n) ≡ None → first_fault (checks (n + 1)) ≡ o → first_fault (each_flow checks (n + 1)) ≡ o
  turn_is n o before here = ap first_fault (turn_on n) ∙ first_passed (each_flow checks n) (checks (n + 1)) before ∙ here

  -- a fault among the first flows is the first of all
  pub stays : (m n : ℕ) (e : LoadFault) → m ≤ n → first_fault (each_flow checks m) ≡ Some e → first_fault (each_flow checks n) ≡ Some e
  unfolding each_flow
  stays m zero e le fault = let same : 0 ≡ m = omega arith in ap (λ k. first_fault (each_flow checks k)) same ∙ fault
  stays m (suc n) e le fault =
      elim (cases_lt n m) [
        | inl last ↦ let same : suc n ≡ m = omega arith in ap (λ k. first_fault (each_flow checks k)) same ∙ fault
        | inr before ↦ first_failed (each_flow checks n) (checks (suc n)) e (stays m n e before fault)
      ]
