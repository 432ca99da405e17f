use Rattle.std.proofs.Common.{◌≡◌, map, take, vec_items}
use Rattle.rows.specs.Blank.{idle}
use Rattle.rows.specs.Small.{Small}
use Rattle.rows.proofs.rows.Rows.fill.Given as goal

-- The flows so far have their rows, and are small.
abbrev pub invariant-loop-flow : goal.invariant-loop-flow
invariant-loop-flow l = (vec_items l.items ≡ map idle (take l.flow-index l.flows)) × Small (vec_items l.items)
