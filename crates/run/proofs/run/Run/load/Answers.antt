use Rattle.run.specs.Seen.{state_of}
use Rattle.run.proofs.Loads.{begins_from}
use Rattle.run.proofs.run.Run.load.Goals as goal

pub returns-clause-promise : goal.returns-clause-promise
returns-clause-promise g c =
    let step = c.load_step.ensures in
    let before = state_of g.M.Medium.levels c.args.self.now in
    begins_from g.M.Medium.most _ (g.F.Fabric.nodes c.args.fabric.now) _ _ before _ _ step.answer step.exact
