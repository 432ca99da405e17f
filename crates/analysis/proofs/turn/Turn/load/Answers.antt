use Rattle.analysis.proofs.Loads.{row_fits}
use Rattle.analysis.proofs.turn.Turn.load.Goals as goal

pub returns : goal.returns
returns g c = λ rs inside same fit.
    let set = c.args.self.now.setting.now in
    row_fits set.slot set.profile rs (g.F.Fabric.route c.args.fabric.now) c.args.self.now.rows.now c.in_ok-path.path c.in_ok-split.split c.args.flow c.in_ok-row.row set.header
    inside same fit c.in_ok-path.ensures c.in_ok-split.ensures.value c.in_ok-row.ensures.flow c.in_ok-row.ensures.path c.in_ok-row.ensures.stands
