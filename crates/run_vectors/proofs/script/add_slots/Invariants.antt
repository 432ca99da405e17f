use Rattle.std.proofs.Common.{◌≡◌, ◌-◌, ◌++◌, vec_items}
use Rattle.run_vectors.specs.Runs.{slots_from}
use Rattle.run_vectors.proofs.script.add_slots.Given as goal

-- the slots so far
abbrev pub invariant-loop-slot : goal.invariant-loop-slot
invariant-loop-slot l = vec_items l.calls ≡ vec_items l.initial.calls ++ slots_from l.first (l.slot - l.first)
