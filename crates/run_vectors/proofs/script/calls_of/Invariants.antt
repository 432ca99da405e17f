use Rattle.std.proofs.Common.{◌≡◌, ◌*◌, ◌≤◌, ◌++◌, drop, vec_items}
use Rattle.run_vectors.specs.Runs.{calls_in}
use Rattle.run_vectors.proofs.script.calls_of.Given as goal

-- the calls so far, with those of the steps that are left, are all of them
abbrev pub invariant-loop-step : goal.invariant-loop-step
invariant-loop-step l =
    (vec_items l.calls ++ calls_in l.slot (drop l.step-index l.steps) ≡ calls_in 0 l.steps)
    × (l.slot ≤ 255 * l.step-index)
