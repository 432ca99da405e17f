-- A turn of the loop that tells of records. Assumes nothing.
use Rattle.std.proofs.Common.{◌≡◌, ℕ, ◌+◌, ◌<◌, ◌≤◌, Bool, cond, List, length, get_or, drop, Option, Some, None, ◌∙◌, refl, sym, arith}
use Rattle.std.proofs.lemmas.Bool.Decides.{nat_tests}
use Rattle.std.specs.List.{cons_option}
use Rattle.std.proofs.lemmas.List.{at_drop_more}
use Rattle.calls.specs.declared.record.Record.{Record}
use Rattle.calls.specs.Events.{no_record}
use Rattle.rows.specs.declared.flow_row.FlowRow.{FlowRow}
use Rattle.tightest.specs.Order.{tightest_from}
use Rattle.tightest.specs.Counted.{counted}
use Rattle.reports.specs.declared.timely.Timely.{Timely}
use Rattle.reports.specs.Margins.{timely_at, closer, closest}

pub at_most_one : (b : Bool) → cond b 1 0 ≤ 1
at_most_one b = grind (arith, nat_tests)

-- what is kept of the best so far and what the next record tells, if anything
closest_more : (best next : Option Timely) (rest : List Timely) → tightest_from closer (closest best next) rest ≡ tightest_from closer best (cons_option next rest)
closest_more best None rest = refl
closest_more best (Some next) rest = refl

-- what is left to be searched is what the next record tells, if anything, and the rest
pub timely_more : (rows : List FlowRow) (k : List Record) (best : Option Timely) (i : ℕ) → i < length k → tightest_from closer best (counted (timely_at rows) i (drop i k)) ≡ tightest_from closer (closest best (timely_at rows i (get_or k i no_record))) (counted (timely_at rows) (i + 1) (drop (i + 1) k))
timely_more rows k best i l =
    at_drop_more (λ (ys : List Record). tightest_from closer best (counted (timely_at rows) i ys)) k i no_record l
    ∙ sym (closest_more best (timely_at rows i (get_or k i no_record)) (counted (timely_at rows) (i + 1) (drop (i + 1) k)))
