use Rattle.rows.specs.Times.{slot_end}
use Rattle.rows.proofs.Serves.{Partly}
use Rattle.rows.proofs.rows.Rows.serve_all.Given as goal

abbrev pub invariant-loop-row : goal.invariant-loop-row
invariant-loop-row l = Partly (slot_end l.clock.times l.clock.slot) l.row-index l.row-items l.initial.row-items l.ledger l.initial.ledger l.grants
