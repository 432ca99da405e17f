use Rattle.std.proofs.Common.{◌≡◌}
use Rattle.interval.specs.Intervals.{pressed}
use Rattle.rows.specs.Grants.{blocked, grants_of}
use Rattle.slots.proofs.arbitration.press.Given as goal

-- The first h flows have pulled or kept still.
abbrev pub invariant-loop-h : goal.invariant-loop-h
invariant-loop-h g l =
    let ls = g.M.Medium.levels in
    ls l.medium ≡ pressed (ls l.initial.medium) (blocked l.above (grants_of l.before) l.h)
