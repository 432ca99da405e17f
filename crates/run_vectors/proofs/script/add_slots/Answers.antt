use Rattle.std.proofs.Common.{vec_items, arith}
use Rattle.run_vectors.proofs.Adding.{no-slots, slot_added}
use Rattle.run_vectors.proofs.script.add_slots.Goals as goal

pub loop-slot-init : goal.loop-slot-init
loop-slot-init c = no-slots c.args.first (vec_items c.args.calls.now)

pub loop-slot-preserved : goal.loop-slot-preserved
loop-slot-preserved c =
    slot_added c.args.first c.loop-slot.slot (vec_items c.args.calls.now) (vec_items c.loop-slot.calls) (vec_items c.push.new.self) (vec_items c.push-in-loop-slot.new.self) (omega arith)
    c.loop-slot.invariant c.in_ok-push.ensures.items
    c.in_ok-push-2.ensures.items
