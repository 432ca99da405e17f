-- The bound of a flow, from a search or from none. Assumes nothing.
use Rattle.std.proofs.Common.{◌≡◌, ℕ, suc, ◌+◌, ◌-◌, ◌*◌, ◌<◌, ◌≤◌, true, false, ◌&&◌, leb, List, None, Option, sym, ap, ◌∙◌, arith}
use mathlib.Core.Path.{fun_ext}
use Rattle.std.proofs.lemmas.Bool.{cond-true, cond-false, and_from, le-leb, lt-leb, and_left, and_right}
use Rattle.staircase.specs.declared.search.Climb.{Climb}
use Rattle.staircase.specs.declared.term.Term.{Term}
use Rattle.staircase.specs.Climbs.{climbed}
use Rattle.staircase.specs.Terms.{demanded}
use Rattle.timing.specs.Model.{Table, demand, alone}
use Rattle.timing.specs.Staircase.{climb, rounds}
use Rattle.timing.specs.Figures.{base, settled, searched, figure_of, bound_of, rounds_of}
use Rattle.timing.proofs.Figures.{bound_is}
use Rattle.analysis.specs.Standing.{Takes, Figured}

module _ (b : Table) (i : ℕ) where
  abbrev R : ℕ → Option ℕ
  R = bound_of b

  unsearched : searched b R i ≡ false → (None ≡ bound_of b i) × (0 ≡ rounds_of b i)
  unfolding figure_of rounds_of
  unsearched e = (
    sym (bound_is b i ∙ cond-false (searched b R i) (climb (demand b R i) (b.D i) (suc (b.D i)) (base b i)) None e),
    sym (cond-false (searched b R i) (rounds (demand b R i) (b.D i) (suc (b.D i)) (base b i)) 0 e),
  )

  -- where a flow above is not bounded
  pub unbounded : false ≡ settled b R i → (None ≡ bound_of b i) × (0 ≡ rounds_of b i)
  unfolding searched
  unbounded none =
      unsearched (and_left ((leb 1 i && leb i b.z) && settled b R i) (leb (base b i) (b.D i)) (and_right (leb 1 i && leb i b.z) (settled b R i) (sym none)))

  -- where not even the start of the search is within the deadline
  pub overdue : b.D i < base b i → (None ≡ bound_of b i) × (0 ≡ rounds_of b i)
  unfolding searched
  overdue late = unsearched (and_right ((leb 1 i && leb i b.z) && settled b R i) (leb (base b i) (b.D i)) (lt-leb (base b i) (b.D i) late))

  -- the terms of the flows above make the demand
  pub demand_is : (ground : ℕ) (terms : List Term) → ground ≡ base b i → Takes b i terms → demanded ground terms ≡ demand b R i
  unfolding demanded demand base
  demand_is ground terms start takes = fun_ext (λ x. omega (arith, takes x))

  -- where the search is made, its answer is the bound
  pub found :
      (f : ℕ → ℕ) (ground D : ℕ) (c : Climb) → 1 ≤ i → i ≤ b.z → true ≡ settled b R i → f ≡ demand b R i → ground ≡ base b i → D ≡ b.D i → ground ≤ D →
      c ≡ climbed f ground D → Figured b i c
  unfolding figure_of rounds_of searched
  found f ground D c from upto all is start due low e =
      let test : searched b R i ≡ true =
      and_from ((leb 1 i && leb i b.z) && settled b R i) (leb (base b i) (b.D i))
      (and_from (leb 1 i && leb i b.z) (settled b R i) (and_from (leb 1 i) (leb i b.z) (le-leb 1 i from) (le-leb i b.z upto)) (sym all))
      (le-leb (base b i) (b.D i) (omega arith)) in
      let here : Climb = record { least = climb f D (suc D) ground; rounds = rounds f D (suc D) ground } in
      let whole : c ≡ here = e ∙ cond-true (leb ground D) here (record { least = None; rounds = 0 }) (le-leb ground D low) in (
        ap (λ (k : Climb). k.least) whole ∙ same_climb ∙ sym (bound_is b i ∙ cond-true (searched b R i) (climb (demand b R i) (b.D i) (suc (b.D i)) (base b i)) None test),
        ap (λ (k : Climb). k.rounds) whole ∙ same_rounds ∙ sym (cond-true (searched b R i) (rounds (demand b R i) (b.D i) (suc (b.D i)) (base b i)) 0 test),
      )
    where
      same_climb : climb f D (suc D) ground ≡ climb (demand b R i) (b.D i) (suc (b.D i)) (base b i)
      same_climb = cc

      same_rounds : rounds f D (suc D) ground ≡ rounds (demand b R i) (b.D i) (suc (b.D i)) (base b i)
      same_rounds = cc

-- where the search begins, as it is worked out
pub start_is :
    (b : Table) (i wait length interval own S e : ℕ) → length ≡ S → S ≡ b.S → wait ≡ length - i * interval → interval ≡ e → b.e i ≡ i * e → own ≡ alone b i →
    wait + length + own ≡ base b i
unfolding base
start_is b i wait length interval own S e at same waits each ends is =
    omega (arith, at, same, waits, ap (λ (n : ℕ). i * n) each, ends, is)
