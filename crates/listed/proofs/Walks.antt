-- The hops of a walk, one after the other, and its end.
use Rattle.std.proofs.Common.{◌≡◌, ℕ, ◌+◌, ◌<◌, ◌≤◌, not, List, [], ◌∷◌, ◌++◌, length, get_or, take, drop, None, Option, ◌==◌, sym, ap, ◌∙◌, arith}
use Rattle.std.proofs.lemmas.List.{take_more, drop_more, drop_all, take_all, length-take-le}
use Rattle.fabric.specs.declared.route.Ends.{Ends}
use Rattle.fabric.specs.declared.fault.RouteFault.{RouteFault}
use Rattle.fabric.specs.declared.fault.Cause.TheVariants.{End}
use Rattle.listed.specs.ListedRoutes.{ends_at, first_cause, told, hop_checks, walk_fault}

-- the walk at hop k + 1
pub walk_hop : (links : List Ends) (goal : ℕ) (p : List ℕ) (at k : ℕ) → k < length p → walk_fault links goal (take k p) at (drop k p) ≡ told (k + 1) (first_cause (hop_checks links (take k p) at (get_or p k 0))) (walk_fault links goal (take (k + 1) p) (ends_at links (get_or p k 0)).stop (drop (k + 1) p))
walk_hop links goal p at k l =
    let n = get_or p k 0 in
    let later : List ℕ → Option RouteFault = λ used. walk_fault links goal used (ends_at links n).stop (drop (k + 1) p) in
    let count : length (take k p) ≡ k = length-take-le k p (omega arith) in
    ap (walk_fault links goal (take k p) at) (drop_more p k 0 l)
    ∙ ap (λ c. told (c + 1) (first_cause (hop_checks links (take k p) at n)) (later (take k p ++ (n ∷ [])))) count
    ∙ ap (λ used. told (k + 1) (first_cause (hop_checks links (take k p) at n)) (later used)) (sym (take_more p k 0 l))

-- the end, when all hops are made
pub walk_over : (links : List Ends) (goal : ℕ) (p : List ℕ) (at k : ℕ) → length p ≤ k → walk_fault links goal (take k p) at (drop k p) ≡ told (length p) (first_cause ((not (at == goal), End) ∷ [])) None
walk_over links goal p at k l =
    ap (walk_fault links goal (take k p) at) (drop_all k p l) ∙ ap (λ used. walk_fault links goal used at []) (take_all k p l)
