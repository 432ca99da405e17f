use Rattle.std.proofs.Common.{refl, arith}
use Rattle.rows.specs.Grants.{blocked}
use Rattle.slots.proofs.Turns.{press_next}
use Rattle.slots.proofs.arbitration.press.Goals as goal

pub loop-h-init : goal.loop-h-init
unfolding blocked
loop-h-init g c = refl

pub loop-h-preserved : goal.loop-h-preserved
loop-h-preserved g c =
    press_next (g.M.Medium.levels c.args.medium.now) _ _ c.args.above.now c.args.before.now c.loop-h.h c.from.result c.index-before-h.result _ c.requires (omega arith)
    c.index-before-h.is
    c.from.ensures
    c.denies-pulls.ensures
    c.loop-h.invariant
    c.pull_if.ensures.after
