use Rattle.std.proofs.Common.{◌+◌, length, Some, None, Ok, Err, vec_items, sym, refl, subst, arith}
use Rattle.analysis.specs.Loading.{route_checks_of}
use Rattle.analysis.specs.Rows.{RowsFit}
use Rattle.analysis.proofs.Built.{built_fault}
use Rattle.analysis.proofs.Loads.{no_rows, row_more, turn_built}
use Rattle.analysis.proofs.Turns.{none_yet, turn_is, stays}
use Rattle.analysis.proofs.taking.load_rows.Goals as goal

pub loop-flow-init : goal.loop-flow-init
loop-flow-init g c =
    let rs = c.args.records.now in
    let R = g.F.Fabric.route c.args.fabric.now in (
      none_yet (route_checks_of c.args.setting.now.header c.args.setting.now.slot c.args.setting.now.profile rs R),
      subst (RowsFit c.args.setting.now.slot c.args.setting.now.profile rs R 0) (sym c.new-rows.ensures.items) (no_rows c.args.setting.now.slot c.args.setting.now.profile rs R),
    )

pub returns-in_err-row : goal.returns-in_err-row
returns-in_err-row g c =
    let rs = c.args.records.now in
    let R = g.F.Fabric.route c.args.fabric.now in
    let checks = route_checks_of c.args.setting.now.header c.args.setting.now.slot c.args.setting.now.profile rs R in
    let k = c.loop-flow.flow-index in
    let e = c.in_err-row.field-0.0 in
    let inv = c.loop-flow.invariant in
    let built =
    turn_built c.args.setting.now.slot c.args.setting.now.profile rs R c.args.setting.now.header k (vec_items c.loop-flow.rows) c.as_slice.result.now _ (Err e)
    c.as_slice.ensures.value inv.1 c.loop-flow-test.true refl c.in_err-row.ensures in
    built_fault _ _ _ e c.from_residual.ensures.1
    (λ other. stays checks (k + 1) (length rs) e (omega (arith, c.loop-flow-test.true)) (turn_is checks k (Some e) inv.0 (built other)))

pub loop-flow-preserved : goal.loop-flow-preserved
loop-flow-preserved g c =
    let rs = c.args.records.now in
    let R = g.F.Fabric.route c.args.fabric.now in
    let checks = route_checks_of c.args.setting.now.header c.args.setting.now.slot c.args.setting.now.profile rs R in
    let k = c.loop-flow.flow-index in
    let rows = vec_items c.loop-flow.rows in
    let row = c.in_ok-row.row in
    let inv = c.loop-flow.invariant in
    let built =
    turn_built c.args.setting.now.slot c.args.setting.now.profile rs R c.args.setting.now.header k rows c.as_slice.result.now _ (Ok row)
    c.as_slice.ensures.value inv.1 c.loop-flow-test.true refl c.in_ok-row.ensures in (
      turn_is checks k None inv.0 built.0,
      subst (RowsFit c.args.setting.now.slot c.args.setting.now.profile rs R (k + 1)) (sym c.in_ok-push.ensures.items)
          (row_more c.args.setting.now.slot c.args.setting.now.profile rs R k rows row inv.1 built.1),
    )
