use Rattle.std.proofs.Common.{◌≡◌, None, vec_items}
use Rattle.table.specs.Checks.{first_fault}
use Rattle.analysis.specs.Loading.{each_flow, route_checks_of}
use Rattle.analysis.specs.Rows.{RowsFit}
use Rattle.analysis.proofs.taking.load_rows.Given as goal

abbrev pub invariant-loop-flow : goal.invariant-loop-flow
invariant-loop-flow g l =
    (first_fault (each_flow (route_checks_of l.setting.header l.setting.slot l.setting.profile l.records (g.F.Fabric.route l.fabric)) l.flow-index) ≡ None)
    × RowsFit l.setting.slot l.setting.profile l.records (g.F.Fabric.route l.fabric) l.flow-index (vec_items l.rows)
