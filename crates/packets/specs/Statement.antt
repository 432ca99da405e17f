-- Packets arrive within their bounds, and a bounded flow's packet has left before its next may be released. Assumes nothing.
use Rattle.std.specs.Prelude.{◌≡◌, ℕ, ◌+◌, ◌-◌, ◌*◌, ◌<◌, ◌≤◌, true, Some, Option}
use Rattle.timing.specs.Counts.{sum_to}
use Rattle.timing.specs.Model.{Table, Lawful, Bounds, share}
use Rattle.packets.specs.Runs.{Run, grants}

-- The packet that flow i released at t, with first slot f, m slots later: while fewer than w of these were granted, w - grants parts are left,
-- and even if each of them is granted at once the packet arrives within the bound y. At the slot of its last grant one part is left,
-- so this bounds the arrival, (f + m + 1) * S + c.
abbrev pub InBound : Type 0
InBound =
    (b : Table) → Lawful b → (R : ℕ → Option ℕ) → Bounds b R → (x : Run b) (i y f t m : ℕ) → R i ≡ Some y → x.rel f i ≡ Some t →
    grants x.won i f m < b.w i → (f + m + (b.w i - grants x.won i f m)) * b.S + b.c i ≤ t + y

-- A time u in slot f + m, at least T after the release at t, finds the packet gone.
abbrev pub NeverOpen : Type 0
NeverOpen =
    (b : Table) → Lawful b → (R : ℕ → Option ℕ) → Bounds b R → (x : Run b) (i y f t m u : ℕ) → R i ≡ Some y → x.rel f i ≡ Some t →
    t + b.T i ≤ u → u < (f + m) * b.S + b.e i → b.w i ≤ grants x.won i f m

-- The same with a bound that is counted in slots: if all flows above i have bounds, and Q slots hold i's parts and all that the flows above can take
-- from a window of Q slots, then the wait for the first slot, Q slots and the tail are enough.
abbrev pub InSlots : Type 0
InSlots =
    (b : Table) → Lawful b → (R : ℕ → Option ℕ) → Bounds b R → (x : Run b) (i Q f t m : ℕ) →
    ((h : ℕ) → b.H h i ≡ true → (y : ℕ) × (R h ≡ Some y)) → Q ≡ b.w i + sum_to i (share b R i (Q * b.S)) → x.rel f i ≡ Some t →
    grants x.won i f m < b.w i → (f + m + (b.w i - grants x.won i f m)) * b.S + b.c i ≤ t + ((b.S - b.e i) + Q * b.S + b.c i)
