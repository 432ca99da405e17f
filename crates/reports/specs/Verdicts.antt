-- What a verdict tells of a flow, and of the flow whose bound comes closest to its deadline. Assumes nothing.
--   slack_with i D bound: the flow i by what its bound leaves of its deadline D, if it is bounded
--   slack_at p row: the flow of row p, counted from 0
--   nearer: which of two flows comes closer: by what is left of the deadline, then the number
--   tightest_flow rows: the number of the flow that comes closest, if any is bounded
--   verdict_of rows i: the answer of a verdict on flow i
--   Bounded rows i m: flow i is bounded, and its bound leaves m of its deadline
--   TightestFlow rows i: i is the flow that comes closest, or no flow is bounded
use Rattle.std.specs.Prelude.{◌≡◌, ℕ, ◌+◌, ◌-◌, ◌≤◌, Bool, true, cond, ◌||◌, List, [], ◌∷◌, length, Some, None, Ok, Err, Option, Result, ◌≢◌, nat_lt, slice_index_or}
use Rattle.analysis.specs.Answers.{figures_of}
use Rattle.calls.specs.declared.refusal.Refusal.{Refusal}
use Rattle.calls.specs.declared.refusal.Refusal.TheVariants.{NoFlow}
use Rattle.calls.specs.declared.report.Verdict.{Verdict}
use Rattle.rows.specs.declared.flow_row.FlowRow.{FlowRow}
use Rattle.rows.specs.Blank.{no_row}
use Rattle.tightest.specs.Order.{tightest_of}
use Rattle.tightest.specs.Counted.{counted}
use Rattle.tightest.specs.Numbers.{lower}
use Rattle.reports.specs.declared.slack.Slack.{Slack}

abbrev pub slack_with : ℕ → ℕ → Option ℕ → Option Slack
slack_with i deadline None = None
slack_with i deadline (Some bound) = Some (record { left = deadline - bound; flow = i })

abbrev pub slack_at : ℕ → FlowRow → Option Slack
slack_at p row = slack_with (p + 1) row.flow.record.deadline row.flow.bound

-- what decides between two flows, in this order
abbrev pub slack_ranks : Slack → List ℕ
slack_ranks s = s.left ∷ s.flow ∷ []

abbrev pub nearer : Slack → Slack → Bool
nearer a b = lower (slack_ranks a) (slack_ranks b)

abbrev pub flow_of : Option Slack → Option ℕ
flow_of None = None
flow_of (Some s) = Some s.flow

unfoldable pub tightest_flow : List FlowRow → Option ℕ
tightest_flow rows = flow_of (tightest_of nearer (counted slack_at 0 rows))

abbrev pub verdict_of : List FlowRow → ℕ → Result Verdict Refusal
verdict_of rows i =
    cond (nat_lt i 1 || nat_lt (length rows) i) (Err NoFlow) (Ok (record { figures = figures_of (slice_index_or rows (i - 1) no_row).flow; tightest = tightest_flow rows }))

pub record Bounded (rows : List FlowRow) (i left : ℕ) : Type 0 where
  pub first : 1 ≤ i
  pub last : i ≤ length rows
  pub bound : ℕ
  pub bounded : (slice_index_or rows (i - 1) no_row).flow.bound ≡ Some bound
  pub left_is : left ≡ (slice_index_or rows (i - 1) no_row).flow.record.deadline - bound

-- flow i is bounded, and every other bounded flow is behind it
pub record Nearest (rows : List FlowRow) (i : ℕ) : Type 0 where
  pub left : ℕ
  pub bounded : Bounded rows i left
  pub others : (j m : ℕ) → (j ≢ i) → Bounded rows j m → lower (left ∷ i ∷ []) (m ∷ j ∷ []) ≡ true

abbrev pub TightestFlow : List FlowRow → Option ℕ → Type 0
TightestFlow rows None = (i m : ℕ) → Bounded rows i m → ⊥
TightestFlow rows (Some i) = Nearest rows i
