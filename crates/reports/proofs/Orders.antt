-- The orders that are derived are those of the definitions. Assumes nothing.
use Rattle.std.proofs.Common.{◌≡◌, arith}
use Rattle.std.specs.Ordering.{nat_cmp, ordering_then}
use Rattle.std.specs.declared.cmp.Ordering.{Ordering}
use Rattle.std.proofs.lemmas.Bool.Decides.{nat_tests}
use Rattle.tightest.specs.Order.{comes_before}
use Rattle.reports.specs.declared.slack.Slack.{Slack}
use Rattle.reports.specs.declared.timely.Timely.{Timely}
use Rattle.reports.specs.Margins.{closer}
use Rattle.reports.specs.Verdicts.{nearer}

-- by the fields, in their order
abbrev pub slack_cmp : Slack → Slack → Ordering
slack_cmp a b = ordering_then (nat_cmp a.left b.left) (nat_cmp a.flow b.flow)

abbrev pub timely_cmp : Timely → Timely → Ordering
timely_cmp a b =
    ordering_then (nat_cmp a.margin b.margin) (ordering_then (nat_cmp a.release b.release) (ordering_then (nat_cmp a.flow b.flow) (nat_cmp a.place b.place)))

nearer_at : (a b : Slack) → comes_before slack_cmp a b ≡ nearer a b
nearer_at a b = grind (arith, nat_tests)

closer_at : (a b : Timely) → comes_before timely_cmp a b ≡ closer a b
closer_at a b = grind (arith, nat_tests)

pub nearer_is : comes_before slack_cmp ≡ nearer
nearer_is = λ i a b. nearer_at a b i

pub closer_is : comes_before timely_cmp ≡ closer
closer_is = λ i a b. closer_at a b i
