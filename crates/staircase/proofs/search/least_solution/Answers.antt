use Rattle.std.proofs.Common.{sym, ◌∙◌}
use Rattle.staircase.proofs.Steps.{goes_on, ends_here, ends_past, settled}
use Rattle.staircase.proofs.Limits.{within_some, within_none}
use Rattle.staircase.proofs.search.least_solution.Goals as goal

pub returns-in_default : goal.returns-in_default
returns-in_default g c =
    let f = g.S.Staircase.value c.args.stairs.now in
    let m = g.met.S.Staircase in
    let at = c.loop-y.invariant in
    let e = ends_past f _ _ at.0 _ _ at.1 (within_none _ _ c.in_default.ensures) in
    record { answer = e; least = settled f _ _ (m.rises _) (m.grounded _) _ e }

pub returns-then-y-x : goal.returns-then-y-x
returns-then-y-x g c =
    let f = g.S.Staircase.value c.args.stairs.now in
    let m = g.met.S.Staircase in
    let at = c.loop-y.invariant in
    let y = within_some _ _ _ c.in-Some.ensures in
    let e = ends_here f _ _ at.0 _ _ at.1 (sym y.0 ∙ c.if-y-x.true) in
    record { answer = e; least = settled f _ _ (m.rises _) (m.grounded _) _ e }

pub loop-y-preserved : goal.loop-y-preserved
loop-y-preserved g c =
    let f = g.S.Staircase.value c.args.stairs.now in
    let at = c.loop-y.invariant in
    let y = within_some _ _ _ c.in-Some.ensures in
    (at.0, goes_on f _ _ (g.met.S.Staircase.rises _) _ _ _ at.1 y.0 c.if-y-x.false y.1)
