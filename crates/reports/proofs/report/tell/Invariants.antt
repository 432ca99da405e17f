use Rattle.std.proofs.Common.{◌≡◌, ◌+◌, ◌≤◌, drop}
use Rattle.tightest.specs.Order.{tightest_from, tightest_of}
use Rattle.tightest.specs.Counted.{counted}
use Rattle.reports.specs.Margins.{timely_at, closer}
use Rattle.reports.specs.Reports.{pending_in}
use Rattle.reports.proofs.report.tell.Given as goal

-- what was counted and found so far and what is left give the whole
abbrev pub invariant-loop-place : goal.invariant-loop-place
invariant-loop-place l =
    record {
      few : l.pending ≤ l.place;
      count : l.pending + pending_in (drop l.place l.records) ≡ pending_in l.records;
      found : tightest_from closer l.tightest (counted (timely_at l.flows) l.place (drop l.place l.records))
          ≡ tightest_of closer (counted (timely_at l.flows) 0 l.records);
    }
