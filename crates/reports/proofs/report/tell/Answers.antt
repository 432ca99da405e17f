use Rattle.std.proofs.Common.{rules, ◌≡◌, ◌+◌, ◌-◌, ◌<◌, cond, List, length, get_or, drop, Option, sym, ◌∙◌, ap, arith}
use Rattle.std.proofs.lemmas.List.{at_drop_more, at_drop_all}
use Rattle.calls.specs.Events.{no_record}
use Rattle.calls.specs.declared.record.Record.{Record}
use Rattle.tightest.specs.Order.{tightest_from, tightest_of}
use Rattle.tightest.specs.Counted.{counted}
use Rattle.reports.specs.declared.timely.Timely.{Timely}
use Rattle.reports.specs.Margins.{timely_at, closer, closest, place_of, tightest_record}
use Rattle.reports.specs.Reports.{arrived_in, pending_in}
use Rattle.reports.proofs.Counting.{counts_add}
use Rattle.reports.proofs.Turns.{at_most_one, timely_more}
use Rattle.reports.proofs.report.tell.Goals as goal

pub loop-place-preserved : goal.loop-place-preserved
loop-place-preserved c =
    let k = c.args.records.now in
    let rows = c.args.flows.now in
    let i = c.loop-place.place in
    let best = c.loop-place.tightest in
    let inv = c.loop-place.invariant in
    let l : i < length k = c.loop-place-test.true in
    let one : c.from-pending.result ≡ cond (get_or k i no_record).pending 1 0 = search rules in
    let left : pending_in (drop i k) ≡ cond (get_or k i no_record).pending 1 0 + pending_in (drop (i + 1) k) = at_drop_more pending_in k i no_record l in
    let kept : c.closest-tightest.result ≡ closest best (timely_at rows i (get_or k i no_record)) = search rules in
    record {
      few = omega (arith, at_most_one (get_or k i no_record).pending);
      count = omega arith;
      found = ap (λ (b : Option Timely). tightest_from closer b (counted (timely_at rows) (i + 1) (drop (i + 1) k))) kept ∙ sym (timely_more rows k best i l) ∙ inv.found;
    }

pub returns : goal.returns
unfolding tightest_record
returns c =
    let k = c.args.records.now in
    let rows = c.args.flows.now in
    let i = c.loop-place.place in
    let inv = c.loop-place.invariant in
    let pending : c.loop-place.pending ≡ pending_in k = grind (arith, at_drop_all pending_in k i c.loop-place-test.false) in
    let arrived : length k - c.loop-place.pending ≡ arrived_in k = omega (arith, counts_add k) in
    let found : c.loop-place.tightest ≡ tightest_of closer (counted (timely_at rows) 0 k) =
    sym (at_drop_all (λ (ys : List Record). tightest_from closer c.loop-place.tightest (counted (timely_at rows) i ys)) k i c.loop-place-test.false)
    ∙ inv.found in
    let mapped : c.map.result ≡ place_of c.loop-place.tightest = search rules in
    let place : c.map.result ≡ tightest_record rows k = mapped ∙ ap place_of found in
    λ j. record { accepted = length k; arrived = arrived j; pending = pending j; tightest = place j }
