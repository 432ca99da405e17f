use Rattle.std.proofs.Common.{List, map, vec_items, sym, ap, ◌∙◌, subst, arith}
use Rattle.rows.specs.declared.flow_row.FlowRow.{FlowRow}
use Rattle.rows.specs.Serving.{served, ledger_after, grant_count}
use Rattle.rows.specs.Small.{Small}
use Rattle.rows.specs.Times.{slot_end}
use Rattle.rows.proofs.Serves.{small_turn, serve_more, serve_all, small_served, whole}
use Rattle.rows.proofs.rows.Rows.serve_all.Goals as goal

pub serve-grants-requires : goal.serve-grants-requires
serve-grants-requires c =
    small_turn c.loop-row.row-items c.deref_mut-row-items.result.now c.loop-row.row-index c.row-item.result (omega arith) (omega arith) c.loop-row.invariant.back
    (subst Small (sym c.deref_mut-row-items.ensures.value) c.self.invariant)

pub loop-row-preserved : goal.loop-row-preserved
loop-row-preserved c =
    let told = c.serve-grants.ensures in
    serve_more _ _ c.loop-row.row-items _ c.loop-row.ledger _ _ c.row-item.result _ c.loop-row.grants _ (omega arith) (omega arith) told.answer told.row told.ledger c.loop-row.invariant

pub invariant_of-self : goal.invariant_of-self
invariant_of-self c =
    let items = vec_items c.self.inside.items in
    let told = serve_all _ _ c.loop-row.row-items c.deref_mut-row-items.result.now c.loop-row.ledger _ c.loop-row.grants (omega arith) (omega arith) c.loop-row.invariant in
    let is = whole c.loop-row.row-items items c.self.inside.items.len (omega arith) (omega arith) ∙ told.1 ∙ ap (map served) c.deref_mut-row-items.ensures.value in
    subst Small (sym is) (small_served items c.self.invariant)

pub returns-clause-small : goal.returns-clause-small
returns-clause-small c =
    let items = vec_items c.self.inside.items in
    let told = serve_all _ _ c.loop-row.row-items c.deref_mut-row-items.result.now c.loop-row.ledger _ c.loop-row.grants (omega arith) (omega arith) c.loop-row.invariant in
    let is = whole c.loop-row.row-items items c.self.inside.items.len (omega arith) (omega arith) ∙ told.1 ∙ ap (map served) c.deref_mut-row-items.ensures.value in
    subst Small (sym is) (small_served items c.self.invariant)

pub returns-clause-answer : goal.returns-clause-answer
returns-clause-answer c =
    let told = serve_all _ _ c.loop-row.row-items c.deref_mut-row-items.result.now c.loop-row.ledger _ c.loop-row.grants (omega arith) (omega arith) c.loop-row.invariant in
    told.0 ∙ ap grant_count (c.deref_mut-row-items.ensures.value ∙ c.self.view_is)

pub returns-clause-ledger : goal.returns-clause-ledger
returns-clause-ledger c =
    let told = serve_all _ _ c.loop-row.row-items c.deref_mut-row-items.result.now c.loop-row.ledger _ c.loop-row.grants (omega arith) (omega arith) c.loop-row.invariant in
    told.2
    ∙ ap (λ (rows : List FlowRow). ledger_after (slot_end c.args.clock.now.times c.args.clock.now.slot) rows c.args.ledger.now) (c.deref_mut-row-items.ensures.value ∙ c.self.view_is)
