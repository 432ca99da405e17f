-- The first of some checks that fails, where the checks are made in parts. Assumes nothing.
use Rattle.std.proofs.Common.{◌≡◌, Bool, true, false, cond, List, [], ◌∷◌, ◌++◌, IsErrAnd, Some, None, Ok, Err, Option, Result, sym, refl, ap, ◌∙◌}
use Rattle.std.proofs.lemmas.Result.{err_from_is_err_and}
use Rattle.table.specs.declared.fault.LoadFault.{LoadFault}
use Rattle.table.specs.Checks.{first_fault, unless}

pub unless_err : {X : Type 0} (o : Option LoadFault) (x : X) (e : LoadFault) → Err e ≡ unless o x → o ≡ Some e
unless_err None x e h = cc
unless_err (Some f) x e h = cc

pub unless_ok : {X : Type 0} (o : Option LoadFault) (x y : X) → Ok y ≡ unless o x → o ≡ None
unless_ok None x y h = refl
unless_ok (Some f) x y h = cc

-- one check passes, or fails
pass : (t : Bool) (f : LoadFault) (a b c : Option LoadFault) → cond t (Some f) a ≡ None → (a ≡ None → b ≡ c) → cond t (Some f) b ≡ c
pass true f a b c e h = cc
pass false f a b c e h = h e

fail : (t : Bool) (f : LoadFault) (a b c : Option LoadFault) → cond t (Some f) a ≡ c → (a ≡ c → b ≡ c) → cond t (Some f) b ≡ c
fail true f a b c e h = e
fail false f a b c e h = h e

pub first_passed : (a b : List (Bool × LoadFault)) → first_fault a ≡ None → first_fault (a ++ b) ≡ first_fault b
first_passed [] b h = refl
first_passed (x ∷ a) b h = pass x.0 x.1 (first_fault a) (first_fault (a ++ b)) (first_fault b) h (first_passed a b)

pub first_failed : (a b : List (Bool × LoadFault)) (e : LoadFault) → first_fault a ≡ Some e → first_fault (a ++ b) ≡ Some e
first_failed [] b e h = cc
first_failed (x ∷ a) b e h = fail x.0 x.1 (first_fault a) (first_fault (a ++ b)) (Some e) h (first_failed a b e)

-- once the checks a pass, those after them decide
pub passed : {X : Type 0} (a b : List (Bool × LoadFault)) (x y : X) → Ok y ≡ unless (first_fault a) x → first_fault (a ++ b) ≡ first_fault b
passed a b x y h = first_passed a b (unless_ok (first_fault a) x y h)

-- where one of the checks a fails, it decides
pub failed : {X : Type 0} (a b : List (Bool × LoadFault)) (x : X) (e : LoadFault) → Err e ≡ unless (first_fault a) x → first_fault (a ++ b) ≡ Some e
failed a b x e h = first_failed a b e (unless_err (first_fault a) x e h)

-- what a function returns that hands up the fault e of a callee
pub exits : {X : Type 0} (r : Result X LoadFault) (o : Option LoadFault) (x : X) (e : LoadFault) → IsErrAnd r (λ y. y ≡ e) → o ≡ Some e → r ≡ unless o x
exits r o x e by h = let p = err_from_is_err_and r by in p.1 ∙ ap Err p.2 ∙ sym (ap (λ q. unless q x) h)

pub unless_value : {X : Type 0} (o : Option LoadFault) (x y : X) → Ok y ≡ unless o x → y ≡ x
unless_value None x y h = cc
unless_value (Some f) x y h = cc

-- where no check fails, none fails in either part
pub both_passed : (a b : List (Bool × LoadFault)) → first_fault (a ++ b) ≡ None → (first_fault a ≡ None) × (first_fault b ≡ None)
both_passed [] b e = (refl, e)
both_passed ((true, fault) ∷ a) b e = cc
both_passed ((false, fault) ∷ a) b e = both_passed a b e
