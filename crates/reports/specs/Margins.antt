-- Packets that arrived in time, and which of them came closest to the bound of its flow. Assumes nothing.
--   bound_for rows i: the bound of flow i, none where it has none or there is no such flow
--   margin_of rows r: what a packet left of its flow's bound, none where it is open or late or its flow has no bound
--   timely_at rows p r: the packet whose record stands at place p, if it arrived in time
--   closer: which of two packets came closer: by the margin that it left, then its release, its flow and its place
--   closest best found: what is kept of the packet that came closest so far and one more, if that arrived in time
--   tightest_record rows k: the place of the record that came closest, if any arrived in time
--   InTime rows r m: the packet arrived in time, and left the margin m
--   TightestRecord rows k place: the place is that of the record that came closest, or no packet arrived in time
use Rattle.std.specs.Prelude.{◌≡◌, ℕ, ◌-◌, ◌<◌, ◌≤◌, Bool, true, false, cond, ◌||◌, List, [], ◌∷◌, length, get_or, Some, None, Option, ◌≢◌, nat_lt, slice_index_or}
use Rattle.calls.specs.declared.record.Record.{Record}
use Rattle.calls.specs.Events.{no_record}
use Rattle.rows.specs.declared.flow_row.FlowRow.{FlowRow}
use Rattle.rows.specs.Blank.{no_row}
use Rattle.tightest.specs.Order.{tighter, tightest_of}
use Rattle.tightest.specs.Counted.{counted}
use Rattle.tightest.specs.Numbers.{lower}
use Rattle.reports.specs.declared.timely.Timely.{Timely}

abbrev pub bound_for : List FlowRow → ℕ → Option ℕ
bound_for rows i = cond (nat_lt i 1) None (get_or rows (i - 1) no_row).flow.bound

-- what a latency leaves of a bound
abbrev pub left_of : ℕ → Option ℕ → Option ℕ
left_of latency None = None
left_of latency (Some bound) = cond (nat_lt bound latency) None (Some (bound - latency))

abbrev pub margin_of : List FlowRow → Record → Option ℕ
margin_of rows r = cond (r.pending || nat_lt r.arrival r.release) None (left_of (r.arrival - r.release) (bound_for rows r.flow))

abbrev pub timely_with : Record → ℕ → Option ℕ → Option Timely
timely_with r p None = None
timely_with r p (Some m) = Some (record { margin = m; release = r.release; flow = r.flow; place = p })

abbrev pub timely_at : List FlowRow → ℕ → Record → Option Timely
timely_at rows p r = timely_with r p (margin_of rows r)

-- what decides between two packets, in this order
abbrev pub timely_ranks : Timely → List ℕ
timely_ranks t = t.margin ∷ t.release ∷ t.flow ∷ t.place ∷ []

abbrev pub closer : Timely → Timely → Bool
closer a b = lower (timely_ranks a) (timely_ranks b)

abbrev pub closest : Option Timely → Option Timely → Option Timely
closest best None = best
closest best (Some found) = tighter closer best found

abbrev pub place_of : Option Timely → Option ℕ
place_of None = None
place_of (Some t) = Some t.place

unfoldable pub tightest_record : List FlowRow → List Record → Option ℕ
tightest_record rows k = place_of (tightest_of closer (counted (timely_at rows) 0 k))

pub record InTime (rows : List FlowRow) (r : Record) (margin : ℕ) : Type 0 where
  pub bound : ℕ
  pub bounded : bound_for rows r.flow ≡ Some bound
  pub arrived : r.pending ≡ false
  pub after : r.release ≤ r.arrival
  pub within : r.arrival - r.release ≤ bound
  pub left : margin ≡ bound - (r.arrival - r.release)

-- the same of the record at p
abbrev pub record_ranks : List Record → ℕ → ℕ → List ℕ
record_ranks k p margin = margin ∷ (get_or k p no_record).release ∷ (get_or k p no_record).flow ∷ p ∷ []

-- the packet at p arrived in time, and every other one that did is behind it
pub record Closest (rows : List FlowRow) (k : List Record) (p : ℕ) : Type 0 where
  pub inside : p < length k
  pub margin : ℕ
  pub timely : InTime rows (slice_index_or k p no_record) margin
  pub others : (q m : ℕ) → q < length k → (q ≢ p) → InTime rows (slice_index_or k q no_record) m → lower (record_ranks k p margin) (record_ranks k q m) ≡ true

abbrev pub TightestRecord : List FlowRow → List Record → Option ℕ → Type 0
TightestRecord rows k None = (p m : ℕ) → p < length k → InTime rows (slice_index_or k p no_record) m → ⊥
TightestRecord rows k (Some p) = Closest rows k p
