use Rattle.std.proofs.Common.{vec_items, ◌∙◌}
use Rattle.run.specs.Seen.{state_of}
use Rattle.run.proofs.Plays.{one_more}
use Rattle.run.proofs.run.Run.play_all.Goals as goal

pub loop-call-preserved : goal.loop-call-preserved
loop-call-preserved g c =
    let seen = state_of g.M.Medium.levels in
    let told = c.play_call-event.ensures in (
      one_more g.M.Medium.most (seen c.args.self.now) c.args.ledger.now c.args.calls.now c.loop-call.call-index (vec_items c.loop-call.events) (seen c.loop-call.self) c.loop-call.ledger
          c.play_call-event.result (seen c.play_call-event.new.self) c.play_call-event.new.ledger _ (vec_items c.push_reserved.new.self) c.loop-call-test.true told.call told.step
          c.push_reserved.ensures.items c.loop-call.invariant.0,
      c.push_reserved.ensures.capacity ∙ c.loop-call.invariant.1,
    )
