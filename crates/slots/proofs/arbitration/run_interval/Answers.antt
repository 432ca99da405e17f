use Rattle.slots.proofs.Turns.{interval_ran}
use Rattle.slots.proofs.arbitration.run_interval.Goals as goal

pub returns : goal.returns
returns g c =
    let told =
    interval_ran g.M.Medium.most c.args.before.now c.args.row.now (g.M.Medium.levels c.args.medium.now) _ _ _ c.open.result c.from.result _ c.is_quiet.result c.requires.here c.requires.open
    c.open.ensures.answer
    c.if-is_err.ensures.value
    c.open.ensures.after
    c.from.ensures
    c.rests.ensures
    c.pull_if.ensures.after
    c.press.ensures
    c.is_quiet.ensures in
    record { answer = told.0; after = told.1 }
