-- The flow that a verdict tells is the one whose bound comes closest to its deadline. Assumes nothing.
use Rattle.std.proofs.Common.{◌≡◌, ℕ, ◌+◌, ◌-◌, ◌<◌, List, [], ◌∷◌, length, get_or, Some, None, Option, sym, refl, ap, ◌∙◌, subst, arith}
use Rattle.rows.specs.declared.flow_row.FlowRow.{FlowRow}
use Rattle.rows.specs.Blank.{no_row}
use Rattle.tightest.specs.Order.{tightest_of}
use Rattle.tightest.specs.Counted.{counted}
use Rattle.tightest.specs.Numbers.{lower}
use Rattle.tightest.proofs.InTurn.{by_numbers, one_lower}
use Rattle.tightest.proofs.Picking.{Picks, picks}
use Rattle.reports.specs.declared.slack.Slack.{Slack}
use Rattle.reports.specs.Verdicts.{slack_with, slack_at, slack_ranks, nearer, flow_of, tightest_flow, Bounded, Nearest, TightestFlow}

-- a bounded flow, by its number and what its bound leaves of its deadline
flow : ℕ → ℕ → Slack
flow i m = record { left = m; flow = i }

record Made (i deadline : ℕ) (o : Option ℕ) (s : Slack) : Type 0 where
  pub bound : ℕ
  pub bounded : o ≡ Some bound
  pub left : s.left ≡ deadline - bound
  pub is : s.flow ≡ i

made_why : (i deadline : ℕ) (o : Option ℕ) (s : Slack) → slack_with i deadline o ≡ Some s → Made i deadline o s
unfolding flow
made_why i deadline None s e = absurd cc
made_why i deadline (Some b) s e =
    let is : s ≡ flow i (deadline - b) = cc in
    record { bound = b; bounded = refl; left = ap (λ (x : Slack). x.left) is; is = ap (λ (x : Slack). x.flow) is }

module _ (rows : List FlowRow) where
  -- a bounded flow is told at its place
  told_at : (i m : ℕ) → Bounded rows i m → slack_at (i - 1) (get_or rows (i - 1) no_row) ≡ Some (flow i m)
  unfolding flow
  told_at i m h =
      let number : i - 1 + 1 ≡ i = omega (arith, h.first) in
      let deadline = (get_or rows (i - 1) no_row).flow.record.deadline in
      ap (slack_with (i - 1 + 1) deadline) h.bounded
      ∙ ap (λ (n : ℕ). Some (record { left = deadline - h.bound; flow = n })) number
      ∙ ap (λ (n : ℕ). Some (record { left = n; flow = i })) (sym h.left_is)

  bounded_at : (p : ℕ) (s : Slack) → p < length rows → slack_at p (get_or rows p no_row) ≡ Some s → (s.flow ≡ p + 1) × Bounded rows (p + 1) s.left
  bounded_at p s l e =
      let made = made_why (p + 1) (get_or rows p no_row).flow.record.deadline (get_or rows p no_row).flow.bound s e in
      let place : p ≡ p + 1 - 1 = omega arith in (
        made.is,
        record {
          first = omega arith;
          last = omega arith;
          bound = made.bound;
          bounded = sym (ap (λ (n : ℕ). (get_or rows n no_row).flow.bound) place) ∙ made.bounded;
          left_is = made.left ∙ ap (λ (n : ℕ). (get_or rows n no_row).flow.record.deadline - made.bound) place;
        },
      )

  law_from : (o : Option Slack) → Picks nearer slack_at no_row rows o → TightestFlow rows (flow_of o)
  unfolding flow
  law_from None h = λ i m b. h (i - 1) (flow i m) (omega (arith, b.first, b.last)) (told_at i m b)
  law_from (Some s) h =
      let p = h.place in
      let found = bounded_at p s h.inside h.is in
      subst (Nearest rows) (sym found.0)
      (record {
        left = s.left;
        bounded = found.1;
        others =
            λ j m apart b.
            let back = h.none_before (j - 1) (flow j m) (omega (arith, b.first, b.last)) (told_at j m b) in
            one_lower (s.left ∷ (p + 1) ∷ []) (m ∷ j ∷ []) (λ e. apart (ap (λ (xs : List ℕ). get_or xs 1 0) (sym e))) (sym (ap (λ (n : ℕ). lower (m ∷ j ∷ []) (s.left ∷ n ∷ [])) found.0) ∙ back);
      })

  pub flow_law : TightestFlow rows (tightest_flow rows)
  unfolding tightest_flow
  flow_law =
      law_from (tightest_of nearer (counted slack_at 0 rows))
      (picks nearer (by_numbers slack_ranks) slack_at no_row rows)
