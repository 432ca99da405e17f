use Rattle.std.proofs.Common.{◌≡◌, ℕ, ◌+◌, ◌<◌, ◌≤◌, vec_items, sum_by, sym, ap, ◌∙◌, subst, arith}
use Rattle.staircase.specs.declared.demand.Demand.{Demand}
use Rattle.staircase.specs.Terms.{charge}
use Rattle.timing.specs.Counts.{sum_to}
use Rattle.timing.specs.Model.{Table, delay}
use Rattle.timing.specs.Figures.{bound_of}
use Rattle.analysis.specs.declared.row.Row.{Row}
use Rattle.analysis.specs.Rivals.{next, Met}
use Rattle.analysis.specs.Standing.{Stands}
use Rattle.analysis.proofs.Ways.{none_first}
use Rattle.analysis.proofs.Delays.{delays_first, delays_pass, delays_more}
use Rattle.analysis.proofs.bounding.Rivals.demand.Goals as goal
use Rattle.analysis.proofs.bounding.Rivals.demand.Goals.{then-has+in-Some+in_ok-push, else-has}

pub loop-k-init : goal.loop-k-init
loop-k-init c = (
  c.new-demand.ensures.ground,
  λ b met x.
      let n = next c.args.self.now in
      ap (sum_by (charge x)) c.new-demand.ensures.terms ∙ delays_first b (bound_of b) n x (none_first b met.told.ordered n),
)

pub loop-k-preserved : goal.loop-k-preserved
loop-k-preserved c =
    let inv = c.loop-k.invariant in
    let n = next c.args.self.now in
    let k = c.loop-k.k in
    let P : Demand → Type 0 = λ d. (d.ground ≡ c.args.ground)
    × ((b : Table) → Met b c.args.self.now → (x : ℕ) → sum_by (charge x) (vec_items d.terms) ≡ sum_to (k + 1 + 1) (delay b (bound_of b) n x)) in
    let inside : k + 1 < n = omega (arith, c.loop-k-test.true) in
    let some : 1 ≤ k + 1 = omega arith in
    elim c.if-has.branch [
      | then-has+in-Some+in_ok-push w ↦
          subst P (sym w.demand-is) (
            w.in_ok-push.ensures.ground ∙ inv.0,
            λ b met x.
                let shares = sym (met.marks (k + 1) some inside) ∙ sym c.has.ensures ∙ w.if-has.true in
                let row = c.row-item.result in
                let stands = subst (λ (r : Row). Stands b r (k + 1)) (sym c.row-item.is) (met.told.standing k row c.loop-k-test.true) in
                let takes = w.in-Some.ensures.takes b (record { met = met; above = inside; stands = stands }) in
                ap (sum_by (charge x)) w.in_ok-push.ensures.terms
                ∙ delays_more b (bound_of b) n x (k + 1) w.in-Some.term (vec_items c.loop-k.demand.terms) shares takes (inv.1 b met x),
          )
      | else-has w ↦
          subst P (sym w.demand-is) (
            inv.0,
            λ b met x.
                let free = sym (met.marks (k + 1) some inside) ∙ sym c.has.ensures ∙ w.if-has.false in
                inv.1 b met x ∙ sym (delays_pass b (bound_of b) n x (k + 1) free),
          )
    ]
