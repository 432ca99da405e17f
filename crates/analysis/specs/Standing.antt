-- Rows that stand for the flows of a timing table. Assumes nothing.
use Rattle.std.specs.Prelude.{◌≡◌, ℕ, ◌+◌, ◌*◌, ◌<◌, ◌≤◌, true, List, length, get_or, sum_by, Option, slice_index_or}
use Rattle.parts.specs.declared.slot.Slot.{Slot}
use Rattle.staircase.specs.declared.search.Climb.{Climb}
use Rattle.staircase.specs.declared.term.Term.{Term}
use Rattle.staircase.specs.Terms.{seen, term_for, charge}
use Rattle.timing.specs.Model.{Table, alone, jitter, delay}
use Rattle.timing.specs.Counts.{sum_to}
use Rattle.timing.specs.Figures.{bound_of, rounds_of}
use Rattle.analysis.specs.declared.above.Above.{Above}
use Rattle.analysis.specs.declared.row.Row.{Row}
use Rattle.analysis.specs.Marks.{marked}

-- only a flow of higher priority delays another
abbrev pub Ordered : Table → Type 0
Ordered b = (h i : ℕ) → b.H h i ≡ true → (1 ≤ h) × (h < i)

-- a slot has the times that the table says
pub record InSlot (b : Table) (slot : Slot) : Type 0 where
  pub length_is : slot.length ≡ b.S
  pub pause_is : slot.pause ≡ b.pause
  pub ends : (i : ℕ) → b.e i ≡ i * slot.interval

-- flow i's marks are the flows above it that share a link with it
abbrev pub Marks : Table → Above → ℕ → Type 0
Marks b a i = (h : ℕ) → 1 ≤ h → h < i → marked a h ≡ b.H h i

-- a row tells what the table says of flow i, and its figures
pub record Stands (b : Table) (row : Row) (i : ℕ) : Type 0 where
  pub parts : row.parts ≡ b.w i
  pub tail : row.tail ≡ b.c i
  pub alone_is : row.alone ≡ alone b i
  pub separation : row.record.separation ≡ b.T i
  pub deadline : row.record.deadline ≡ b.D i
  pub marks : Marks b row.above i
  pub bound : row.bound ≡ bound_of b i
  pub rounds : row.rounds ≡ rounds_of b i

-- the rows stand for flow 1 and so on
abbrev pub Standing : Table → List Row → Type 0
Standing b rows = (k : ℕ) (d : Row) → k < length rows → Stands b (slice_index_or rows k d) (k + 1)

-- the slot and the rows tell what the table says of it and of the first flows
pub record Told (b : Table) (slot : Slot) (rows : List Row) : Type 0 where
  pub ordered : Ordered b
  pub times : InSlot b slot
  pub standing : Standing b rows

-- what flow h takes from flow i, for each separation of h
abbrev pub TermFor : Table → ℕ → ℕ → Option Term → Type 0
TermFor b h i r = seen r ≡ term_for (jitter b (bound_of b) h i) (b.T h) (b.w h * b.S)

-- no flow may release all the time
abbrev pub Apart : List Row → Type 0
Apart rows = (k : ℕ) (d : Row) → k < length rows → 1 ≤ (get_or rows k d).record.separation

-- terms charge what the flows above take from flow i, in a window of any length
abbrev pub Takes : Table → ℕ → List Term → Type 0
Takes b i terms = (x : ℕ) → sum_by (charge x) terms ≡ sum_to i (delay b (bound_of b) i x)

-- a search that gave the bound of flow i, and its rounds
abbrev pub Figured : Table → ℕ → Climb → Type 0
Figured b i climb = (climb.least ≡ bound_of b i) × (climb.rounds ≡ rounds_of b i)
