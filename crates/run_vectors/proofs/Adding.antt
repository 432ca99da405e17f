-- Calls that are listed step by step. Assumes nothing.
use Rattle.std.proofs.Common.{◌≡◌, ℕ, suc, ◌+◌, ◌-◌, ◌≤◌, List, [], ◌∷◌, ◌++◌, sym, ap, ◌∙◌, append_assoc, append-nil, arith}
use Rattle.calls.specs.declared.event.Call.{Call}
use Rattle.calls.specs.declared.event.Call.TheVariants.{Arbitrate, Inject}
use Rattle.run_vectors.specs.Runs.{slots_from}

pub no-slots : (first : ℕ) (calls : List Call) → calls ≡ calls ++ slots_from first (first - first)
unfolding slots_from
no-slots first calls =
    let none : 0 ≡ first - first = omega arith in
    sym (append-nil calls) ∙ ap (λ n. calls ++ slots_from first n) none

-- one slot more
pub slot_added :
    (first slot : ℕ) (start calls half whole : List Call) → first ≤ slot → calls ≡ start ++ slots_from first (slot - first) → half ≡ calls ++ (Arbitrate ∷ []) →
    whole ≡ half ++ (Inject (record { number = 1; slot = slot }) ∷ []) → whole ≡ start ++ slots_from first (slot + 1 - first)
unfolding slots_from
slot_added first slot start calls half whole from so_far arbitrate inject =
    let slip = λ (n : ℕ). Inject (record { number = 1; slot = n }) in
    let k = slot - first in
    let here : first + k ≡ slot = omega arith in
    let one_more : suc k ≡ slot + 1 - first = omega arith in
    inject
    ∙ ap (λ (l : List Call). l ++ (slip slot ∷ [])) (arbitrate ∙ ap (λ (l : List Call). l ++ (Arbitrate ∷ [])) so_far)
    ∙ append_assoc (start ++ slots_from first k) (Arbitrate ∷ []) (slip slot ∷ [])
    ∙ append_assoc start (slots_from first k) (Arbitrate ∷ slip slot ∷ [])
    ∙ ap (λ (n : ℕ). start ++ (slots_from first k ++ (Arbitrate ∷ slip n ∷ []))) (sym here)
    ∙ ap (λ n. start ++ slots_from first n) one_more
