use Rattle.std.proofs.Common.{◌≡◌, ℕ, ◌+◌, ◌-◌, Option, unwrap_or, sym, ap, ◌∙◌, arith}
use Rattle.std.proofs.lemmas.Bool.{cond-true, cond-false}
use Rattle.timing.specs.Model.{within, figure, alone, jitter}
use Rattle.timing.specs.Figures.{bound_of}
use Rattle.analysis.specs.Rivals.{next}
use Rattle.analysis.proofs.Ways.{figure_or}
use Rattle.analysis.proofs.bounding.Rivals.jitter_of.Goals as goal

pub returns-then-delays_within : goal.returns-then-delays_within
unfolding jitter
returns-then-delays_within c = λ b rival.
    let h = c.args.number in
    let test = sym (c.delays_within.ensures b rival) ∙ c.if-delays_within.true in
    sym (cond-true (within b h (next c.args.self.now)) 0 (figure (bound_of b h) - alone b h - b.S + b.pause) test)

pub returns : goal.returns
unfolding jitter
returns c = λ b rival.
    let h = c.args.number in
    let stands = rival.stands in
    let times = rival.met.told.times in
    let test = sym (c.delays_within.ensures b rival) ∙ c.if-delays_within.false in
    let bound = c.unwrap_or.ensures ∙ ap (λ (o : Option ℕ). unwrap_or o 0) stands.bound ∙ figure_or (bound_of b h) in
    let worked : c.saturating_sub-pushed.result + c.from-2.result ≡ figure (bound_of b h) - alone b h - b.S + b.pause = omega (arith, bound, stands.alone_is) in
    worked ∙ sym (cond-false (within b h (next c.args.self.now)) 0 (figure (bound_of b h) - alone b h - b.S + b.pause) test)
