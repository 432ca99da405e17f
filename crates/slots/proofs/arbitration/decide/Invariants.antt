use Rattle.rows.specs.Small.{Small}
use Rattle.slots.proofs.Turns.{Partly}
use Rattle.slots.proofs.arbitration.decide.Given as goal

abbrev pub invariant-loop-k : goal.invariant-loop-k
invariant-loop-k g l = Partly g.M.Medium.most l.k l.rows l.initial.rows (g.M.Medium.levels l.medium) × Small l.rows
