-- A table of flows, and the equation of each flow's bound. Assumes nothing.
--   Table: what the analysis asks of a table; Lawful: what every table that passes the checks keeps
--   alone: a packet's time with nobody else about; jitter, delay: what a flow above adds to it
--   demand: the right side of the equation of a bound
--   Bounds: figures that solve the equations
use Rattle.std.specs.Prelude.{◌≡◌, ℕ, ◌+◌, ◌-◌, ◌*◌, ◌<◌, ◌≤◌, Bool, true, cond, not, ◌||◌, Some, None, Option}
use Rattle.timing.specs.Counts.{sum_to, every_to, ceil_div}

-- Times are in cycles. Flows are numbered from 1 to z, 1 having the highest priority.
pub record Table : Type 0 where
  -- how many flows
  pub z : ℕ
  -- the length of a slot, and of the pause in it
  pub S : ℕ
  pub pause : ℕ
  -- where a flow's interval ends in its slot
  pub e : ℕ → ℕ
  -- how many parts a packet has, and how long the last part is on its way after its slot
  pub w : ℕ → ℕ
  pub c : ℕ → ℕ
  -- the least time between two releases, and the deadline
  pub T : ℕ → ℕ
  pub D : ℕ → ℕ
  -- H h i: flow h has a higher priority than flow i and shares a link with it
  pub H : ℕ → ℕ → Bool

pub record Flow (b : Table) (i : ℕ) : Type 0 where
  pub from : 1 ≤ i
  pub upto : i ≤ b.z

pub record Lawful (b : Table) : Type 0 where
  pub slot : 0 < b.S
  pub ends : (i : ℕ) → Flow b i → b.e i ≤ b.S
  pub parts : (i : ℕ) → Flow b i → 0 < b.w i
  pub spaced : (i : ℕ) → Flow b i → b.S ≤ b.T i
  pub due : (i : ℕ) → Flow b i → b.D i ≤ b.T i
  pub higher : (h i : ℕ) → b.H h i ≡ true → (1 ≤ h) × (h < i)

-- every flow that delays h delays i too
unfoldable pub within : Table → ℕ → ℕ → Bool
within b h i = every_to h (λ g. not (b.H g h) || b.H g i)

-- the figure of a bound, 0 where there is none
unfoldable pub figure : Option ℕ → ℕ
figure None = 0
figure (Some x) = x

-- a packet's time with nobody else about, without the wait for its first slot and that slot
unfoldable pub alone : Table → ℕ → ℕ
alone b i = (b.w i - 1) * b.S + b.c i

-- how far a packet of h can be pushed back by flows that do not delay i
unfoldable pub jitter : Table → (ℕ → Option ℕ) → ℕ → ℕ → ℕ
jitter b R h i = cond (within b h i) 0 (figure (R h) - alone b h - b.S + b.pause)

-- the slots that h can take from i in a window of x cycles
unfoldable pub share : Table → (ℕ → Option ℕ) → ℕ → ℕ → ℕ → ℕ
share b R i x h = cond (b.H h i) (ceil_div (x + jitter b R h i) (b.T h) * b.w h) 0

-- the delay of i by h in a window of x cycles
unfoldable pub delay : Table → (ℕ → Option ℕ) → ℕ → ℕ → ℕ → ℕ
delay b R i x h = cond (b.H h i) (ceil_div (x + jitter b R h i) (b.T h) * b.w h * b.S) 0

-- the right side of the equation of i's bound at x
unfoldable pub demand : Table → (ℕ → Option ℕ) → ℕ → ℕ → ℕ
demand b R i x = (b.S - b.e i) + b.S + alone b i + sum_to i (delay b R i x)

-- what a bound x of flow i keeps
pub record Bound (b : Table) (R : ℕ → Option ℕ) (i x : ℕ) : Type 0 where
  pub flow : Flow b i
  pub due : x ≤ b.D i
  pub higher : (h : ℕ) → b.H h i ≡ true → (y : ℕ) × (R h ≡ Some y)
  pub solves : x ≡ demand b R i x

abbrev pub Bounds : Table → (ℕ → Option ℕ) → Type 0
Bounds b R = (i x : ℕ) → R i ≡ Some x → Bound b R i x
