-- Two routes share a link exactly when one link number stands in both. Assumes nothing.
use Rattle.std.proofs.Common.{◌≡◌, ℕ, true, eqb, List, [], ◌∷◌, sym, refl, ap, ◌∙◌, ⊎_elim}
use Rattle.std.proofs.lemmas.Bool.{or_cases, or_left, or_right, eqb-true, eq-eqb}
use Rattle.fabric.specs.Paths.{has, shares}
use Rattle.history.specs.Promise.{SharesLink}

pub link_from : (p q : List ℕ) → shares p q ≡ true → SharesLink p q
unfolding has shares
link_from [] q e = cc
link_from (x ∷ p) q e =
    ⊎_elim
    (λ here. (x, or_left (eqb x x) (has x p) (eq-eqb x x refl), here))
    (λ there. let more = link_from p q there in (more.0, or_right (eqb more.0 x) (has more.0 p) more.1, more.2))
    (or_cases (has x q) (shares p q) e)

pub link_shares : (p q : List ℕ) → SharesLink p q → shares p q ≡ true
unfolding has shares
link_shares [] q l = cc
link_shares (x ∷ p) q l =
    ⊎_elim
    (λ here. or_left (has x q) (shares p q) (ap (λ k. has k q) (sym (eqb-true l.0 x here)) ∙ l.2))
    (λ there. or_right (has x q) (shares p q) (link_shares p q (l.0, there, l.2)))
    (or_cases (eqb l.0 x) (has l.0 p) l.1)
