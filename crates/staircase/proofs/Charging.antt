-- The charge as it is worked out, and the sum of charges with one term more: for who goes over terms by hand.
use Rattle.std.proofs.Common.{◌≡◌, ℕ, ◌+◌, ◌*◌, ◌/◌, ◌%◌, ◌<◌, min, List, length, get_or, take, sum_by, sym, ap, ◌∙◌, arith}
use Rattle.std.specs.Prelude.{slice_index_or}
use Rattle.std.proofs.lemmas.List.Sums.{sum_by_more}
use Rattle.staircase.specs.declared.term.Term.{Term}
use Rattle.staircase.specs.Terms.{charge}
use Rattle.timing.specs.Counts.{ceil_div}

-- the charge, as it is worked out
pub charge_is : (t : Term) (x r a b d : ℕ) → r ≡ (a + b) / d + min 1 ((a + b) % d) → a ≡ x → b ≡ t.jitter → d ≡ t.separation → r * t.cost ≡ charge x t
unfolding charge ceil_div
charge_is t x r a b d e p q s = cc

-- one term more of those that were lent as us
pub sum_more :
    (x : ℕ) (ts us : List Term) (i : ℕ) (t : Term) → us ≡ ts → i < length us → t ≡ slice_index_or us i t →
    sum_by (charge x) (take (i + 1) ts) ≡ sum_by (charge x) (take i ts) + charge x t
sum_more x ts us i t e lt is =
    let within : i < length ts = omega (arith, ap length e) in
    sum_by_more (charge x) ts i t within ∙ ap (λ (v : Term). sum_by (charge x) (take i ts) + charge x v) (sym (is ∙ ap (λ (l : List Term). get_or l i t) e))
