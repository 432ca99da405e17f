use Rattle.std.proofs.Common.{◌≡◌, ℕ, ◌+◌, ◌<◌, List, [], ◌∷◌, ◌++◌, map, length, get_or, take, vec_items, sym, ap, ◌∙◌, subst, arith}
use Rattle.std.proofs.lemmas.List.{map_more}
use Rattle.analysis.specs.declared.row.Row.{Row}
use Rattle.rows.specs.declared.flow_row.FlowRow.{FlowRow}
use Rattle.rows.specs.Blank.{idle}
use Rattle.rows.specs.Small.{IsSmall}
use Rattle.rows.proofs.Smalls.{small_more, passed_small, failed_small}
use Rattle.rows.proofs.rows.Rows.fill.Goals as goal

-- One flow more has its row.
more : (flows : List Row) (k : ℕ) (d : Row) (rows new : List FlowRow) (row : FlowRow) → k < length flows → rows ≡ map idle (take k flows) → row ≡ idle (get_or flows k d)
    → new ≡ rows ++ (row ∷ []) → new ≡ map idle (take (k + 1) flows)
more flows k d rows new row lt before here after =
    after ∙ ap (λ r. rows ++ (r ∷ [])) here ∙ ap (λ rs. rs ++ (idle (get_or flows k d) ∷ [])) before ∙ sym (map_more idle flows k d lt)

pub returns-then-not-is_small-clause-rows : goal.returns-then-not-is_small-clause-rows
returns-then-not-is_small-clause-rows c = failed_small c.args.flows.now c.loop-flow.flow-index c.flow-item.result (omega arith) c.flow-item.is (sym c.is_small.ensures ∙ c.if-not-is_small.true)

pub loop-flow-preserved : goal.loop-flow-preserved
loop-flow-preserved c =
    let flow = c.flow-item.result in
    let new = vec_items c.push.new.self in (
      more c.args.flows.now c.loop-flow.flow-index flow _ _ _ (omega arith) c.loop-flow.invariant.0 (c.idle.ensures ∙ ap idle c.flow-item.is) c.in_ok-push.ensures.items,
      small_more (vec_items c.loop-flow.items) _ c.idle.result c.loop-flow.invariant.1 (subst (λ (r : FlowRow). IsSmall r.flow) (sym c.idle.ensures) (passed_small flow (sym c.is_small.ensures ∙ c.if-not-is_small.false))) c.in_ok-push.ensures.items,
    )
