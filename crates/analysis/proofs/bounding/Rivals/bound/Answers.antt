use Rattle.std.proofs.Common.{ℕ, ◌-◌, ◌*◌, sym, ap, ◌∙◌, arith}
use Rattle.analysis.specs.Rivals.{next}
use Rattle.analysis.proofs.Figuring.{unbounded, overdue, demand_is, found, start_is}
use Rattle.analysis.proofs.bounding.Rivals.bound.Goals as goal
use Rattle.analysis.proofs.bounding.Rivals.bound.Goals.{then-not-all_bounded-via-then-not-all_bounded, then-not-all_bounded-via-else-not-all_bounded+then-ground-from}

pub returns-then-not-all_bounded : goal.returns-then-not-all_bounded
returns-then-not-all_bounded c = λ b met inside alone_is due.
    let i = next c.args.self.now in
    let slot = c.args.self.now.turn.setting.now.slot in
    elim c.then-not-all_bounded.branch [
      | then-not-all_bounded-via-then-not-all_bounded w ↦ unbounded b i (sym w.if-not-all_bounded.true ∙ c.all_bounded.ensures b met)
      | then-not-all_bounded-via-else-not-all_bounded+then-ground-from w ↦
          let start =
          start_is b i c.saturating_sub-wait.result c.from-length.result c.from.result c.args.alone slot.length slot.interval c.from-length.ensures
          met.told.times.length_is (c.saturating_sub-wait.ensures ∙ ap (λ (n : ℕ). c.from-length.result - n * c.from.result) c.number-number.ensures) c.from.ensures (met.told.times.ends i) alone_is in
          overdue b i (omega (arith, start, due, w.if-ground-from.true, w.from-else-not-all_bounded.ensures))
    ]

pub returns : goal.returns
returns c = λ b met inside alone_is due.
    let i = next c.args.self.now in
    let slot = c.args.self.now.turn.setting.now.slot in
    let start =
    start_is b i c.saturating_sub-wait.result c.from-length.result c.from.result c.args.alone slot.length slot.interval c.from-length.ensures
    met.told.times.length_is (c.saturating_sub-wait.ensures ∙ ap (λ (n : ℕ). c.from-length.result - n * c.from.result) c.number-number.ensures) c.from.ensures (met.told.times.ends i) alone_is in
    let all = sym c.if-not-all_bounded.false ∙ c.all_bounded.ensures b met in
    let d = c.in_ok-demand.demand in
    let got = c.in_ok-demand.ensures in
    let ground = got.0 ∙ start in
    let is = demand_is b i d.ground _ ground (got.1 b met) in
    found b i _ d.ground c.args.deadline c.least_solution.result (omega arith) inside all is ground due
    (omega (arith, c.if-ground-from.false, c.from-else-not-all_bounded.ensures, got.0)) c.least_solution.ensures.answer
