use Rattle.std.proofs.Common.{rules, ◌≡◌, sym, subst}
use Rattle.reports.specs.Verdicts.{tightest_flow, TightestFlow}
use Rattle.reports.proofs.FlowLaw.{flow_law}
use Rattle.reports.proofs.verdict.verdict.Goals as goal

pub returns-clause-tightest : goal.returns-clause-tightest
returns-clause-tightest c =
    let rows = c.args.rows.now in
    let is : c.tightest_flow.result ≡ tightest_flow rows = search rules in
    subst (TightestFlow rows) (sym is) (flow_law rows)
