use Rattle.std.proofs.Common.{rules, ◌≡◌, ◌+◌, take, sym, subst}
use Rattle.calls.specs.declared.report.Report.{Report}
use Rattle.reports.specs.Margins.{TightestRecord}
use Rattle.reports.specs.Reports.{told}
use Rattle.reports.proofs.Counting.{counts_add}
use Rattle.reports.proofs.RecordLaw.{record_law}
use Rattle.reports.proofs.report.report.Goals as goal

pub returns-clause-counts : goal.returns-clause-counts
returns-clause-counts c =
    subst (λ (t : Report). t.arrived + t.pending ≡ t.accepted) (sym c.tell.ensures) (counts_add c.in_ok-records.records.now)

pub returns-clause-tightest : goal.returns-clause-tightest
returns-clause-tightest c =
    let rows = c.args.rows.now in
    let k = take c.args.count c.args.ledger.now in
    let is : c.tell.result ≡ told rows k = search rules in
    subst (λ (t : Report). TightestRecord rows k t.tightest) (sym is) (record_law rows k)
