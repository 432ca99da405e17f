use Rattle.std.proofs.Common.{List, length, get_or, take, ap, ◌∙◌, arith}
use Rattle.std.proofs.lemmas.List.{get_or_read}
use Rattle.rows.specs.declared.flow_row.FlowRow.{FlowRow}
use Rattle.rows.specs.Blank.{no_row}
use Rattle.slots.proofs.Turns.{turn_more, turn_all}
use Rattle.slots.proofs.arbitration.decide.Goals as goal

pub loop-k-preserved : goal.loop-k-preserved
loop-k-preserved g c =
    let k = c.loop-k.k in
    let flows = c.as_slice-flows.result.now in
    let same = c.as_slice-flows.ensures.rows in (
      turn_more g.M.Medium.most k c.loop-k.rows _ _ _ _ (g.M.Medium.levels c.loop-k.medium) _ _ (omega arith) (ap (take k) same)
          (get_or_read flows k c.index-flows-k.result (omega (arith, ap length same)) c.index-flows-k.is no_row ∙ ap (λ (rs : List FlowRow). get_or rs k no_row) same)
          c.run_interval-granted.ensures.answer
          c.run_interval-granted.ensures.after
          c.mark.ensures.rows
          c.loop-k.invariant.0,
      c.mark.ensures.small,
    )

pub returns : goal.returns
returns g c =
    let told = turn_all g.M.Medium.most c.loop-k.k _ _ _ (omega arith) c.loop-k.invariant.0 in
    record { rows = told.0; small = c.loop-k.invariant.1; levels = told.1 }
