use Rattle.std.proofs.Common.{◌≡◌, drop}
use Rattle.interval.specs.Intervals.{pressed, some_pull}
use Rattle.interval.proofs.whole.pull_all.Given as goal

-- The pullers that are left give what all of them give from the start.
abbrev pub invariant-loop-puller : goal.invariant-loop-puller
invariant-loop-puller g l =
    let ls = g.M.Medium.levels in
    pressed (ls l.medium) (some_pull (drop l.puller-index l.pullers)) ≡ pressed (ls l.initial.medium) (some_pull l.pullers)
