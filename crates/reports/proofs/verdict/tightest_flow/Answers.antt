use Rattle.std.proofs.Common.{rules, tests, ◌≡◌, ℕ, None, ◌∙◌, ap}
use Rattle.std.proofs.lemmas.Iterator.{YieldsList-from_slice}
use Rattle.std.proofs.lemmas.Iterator.Consumers.{fold_from_yields_List, YieldsList-at, YieldsList-from_filter_map, YieldsList-from_enumerate}
use Rattle.rows.specs.declared.flow_row.FlowRow.{FlowRow}
use Rattle.tightest.specs.Order.{comes_before, tighter, tightest_of}
use Rattle.tightest.specs.Counted.{counted}
use Rattle.reports.specs.Verdicts.{tightest_flow, slack_at, flow_of}
use Rattle.reports.proofs.Orders.{slack_cmp, nearer_is}
use Rattle.reports.proofs.verdict.tightest_flow.Goals as goal

pub returns : goal.returns
unfolding tightest_flow
returns c =
    let rows = c.args.flows.now in
    let found : c.fold.result ≡ tightest_of (comes_before slack_cmp) (counted slack_at 0 rows) =
    fold_from_yields_List _ (tighter (comes_before slack_cmp)) None c.fold.result c.fold.ensures.ran
    (YieldsList-from_filter_map _ (λ (item : ℕ × FlowRow). slack_at item.0 item.1) (YieldsList-at c.filter_map.ensures.source (YieldsList-from_enumerate (YieldsList-from_slice rows cc) cc)) c.filter_map.ensures.closure (λ x r q k. search (rules, tests)))
    (λ a x b q k. search rules) in
    let mapped : c.map.result ≡ flow_of c.fold.result = search rules in
    mapped ∙ ap flow_of (found ∙ ap (λ before. tightest_of before (counted slack_at 0 rows)) nearer_is)
