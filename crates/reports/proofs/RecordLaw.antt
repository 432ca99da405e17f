-- The place that a report tells is that of the record that came closest to its bound. Assumes nothing.
use Rattle.std.proofs.Common.{◌≡◌, ℕ, ◌-◌, ◌≤◌, List, get_or, Some, None, Option, sym, refl, ap, ◌∙◌, subst, arith}
use Rattle.std.proofs.lemmas.Bool.Decides.{nat_tests}
use Rattle.calls.specs.declared.record.Record.{Record}
use Rattle.calls.specs.Events.{no_record}
use Rattle.rows.specs.declared.flow_row.FlowRow.{FlowRow}
use Rattle.tightest.specs.Order.{tightest_of}
use Rattle.tightest.specs.Counted.{counted}
use Rattle.tightest.specs.Numbers.{lower}
use Rattle.tightest.proofs.InTurn.{by_numbers, one_lower}
use Rattle.tightest.proofs.Picking.{Picks, picks}
use Rattle.reports.specs.declared.timely.Timely.{Timely}
use Rattle.reports.specs.Margins.{bound_for, left_of, margin_of, timely_with, timely_at, timely_ranks, closer, place_of, tightest_record, InTime, record_ranks, Closest, TightestRecord}

-- what a latency leaves of a bound, and back
record Left (latency : ℕ) (o : Option ℕ) (m : ℕ) : Type 0 where
  pub bound : ℕ
  pub is : o ≡ Some bound
  pub within : latency ≤ bound
  pub left : m ≡ bound - latency

left_why : (latency : ℕ) (o : Option ℕ) (m : ℕ) → left_of latency o ≡ Some m → Left latency o m
left_why latency None m e = absurd cc
left_why latency (Some b) m e = record { bound = b; is = refl; within = grind (arith, nat_tests); left = grind (arith, nat_tests) }

pub in_time : (rows : List FlowRow) (r : Record) (m : ℕ) → margin_of rows r ≡ Some m → InTime rows r m
in_time rows r m e =
    let why = left_why (r.arrival - r.release) (bound_for rows r.flow) m (grind (arith, nat_tests)) in
    record {
      bound = why.bound;
      bounded = why.is;
      arrived = grind (arith, nat_tests);
      after = grind (arith, nat_tests);
      within = why.within;
      left = why.left;
    }

pub margin_of_lem : (rows : List FlowRow) (r : Record) (m : ℕ) → InTime rows r m → margin_of rows r ≡ Some m
margin_of_lem rows r m h = rw (h.bounded, h.arrived) (grind (arith, nat_tests, h.after, h.within, h.left))

-- the packet of a record that stands at p, with a margin
packet : Record → ℕ → ℕ → Timely
packet r p m = record { margin = m; release = r.release; flow = r.flow; place = p }

record Made (r : Record) (p : ℕ) (o : Option ℕ) (t : Timely) : Type 0 where
  pub margin : o ≡ Some t.margin
  pub is : t ≡ packet r p t.margin

made_why : (r : Record) (p : ℕ) (o : Option ℕ) (t : Timely) → timely_with r p o ≡ Some t → Made r p o t
unfolding packet
made_why r p None t e = absurd cc
made_why r p (Some m) t e =
    let is : packet r p m ≡ t = cc in
    let same : m ≡ t.margin = ap (λ (x : Timely). x.margin) is in
    record { margin = ap (λ (n : ℕ). Some n) same; is = sym is ∙ ap (packet r p) same }

module _ (rows : List FlowRow) (k : List Record) where
  law_from : (o : Option Timely) → Picks closer (timely_at rows) no_record k o → TightestRecord rows k (place_of o)
  unfolding packet
  law_from None h = λ p m l timely.
      h p (packet (get_or k p no_record) p m) l (ap (timely_with (get_or k p no_record) p) (margin_of_lem rows (get_or k p no_record) m timely))
  law_from (Some t) h =
      let p = h.place in
      let r = get_or k p no_record in
      let made = made_why r p (margin_of rows r) t h.is in
      subst (Closest rows k) (sym (ap (λ (x : Timely). x.place) made.is))
      (record {
        inside = h.inside;
        margin = t.margin;
        timely = in_time rows r t.margin made.margin;
        others =
            λ q m l apart timely.
            let s = get_or k q no_record in
            let back = h.none_before q (packet s q m) l (ap (timely_with s q) (margin_of_lem rows s m timely)) in
            one_lower (record_ranks k p t.margin) (record_ranks k q m) (λ e. apart (ap (λ (xs : List ℕ). get_or xs 3 0) (sym e))) (sym (ap (λ (x : Timely). lower (record_ranks k q m) (timely_ranks x)) made.is) ∙ back);
      })

  pub record_law : TightestRecord rows k (tightest_record rows k)
  unfolding tightest_record
  record_law =
      law_from (tightest_of closer (counted (timely_at rows) 0 k))
      (picks closer (by_numbers timely_ranks) (timely_at rows) no_record k)
