-- A run by its accepted calls, the newest first: which packets they make, and what is proved of each. Assumes nothing.
use Rattle.std.specs.Prelude.{◌≡◌, ℕ, zero, suc, ◌+◌, ◌-◌, ◌*◌, ◌<◌, ◌≤◌, Bool, true, false, cond, not, ◌&&◌, ◌||◌, ltb, List, [], ◌∷◌, ◌++◌, map, length, get_or, Some, None, Option, ◌==◌, nat_lt, slice_index_or}
use Rattle.std.specs.List.{AllByRecursion}
use Rattle.timing.specs.Counts.{some_to, one}
use Rattle.timing.specs.Model.{Table, Flow, Lawful, Bounds}

pub data Call : Type 0 where
  -- of a flow, at a time
  release : ℕ → ℕ → Call
  inject : Call

-- the slot that a call belongs to: the injects before it
unfoldable pub slot_of : List Call → ℕ
slot_of [] = 0
slot_of (release i t ∷ l) = slot_of l
slot_of (inject ∷ l) = suc (slot_of l)

-- the flow's last release
unfoldable pub last_of : List Call → ℕ → Option ℕ
last_of [] i = None
last_of (release j t ∷ l) i = cond (i == j) (Some t) (last_of l i)
last_of (inject ∷ l) i = last_of l i

pub record Packet : Type 0 where
  pub flow : ℕ
  pub time : ℕ
  pub first : ℕ
  pub grants : ℕ
  pub denials : ℕ

-- a packet is open until it has a grant for each of its parts
unfoldable pub is_open : Table → Packet → Bool
is_open b p = nat_lt p.grants (b.w p.flow)

-- flow i has an open packet
unfoldable pub wants : Table → List Packet → ℕ → Bool
wants b [] i = false
wants b (p ∷ ps) i = (i == p.flow && is_open b p) || wants b ps i

-- who is granted, flow by flow below n: a flow that wants, if no flow above that shares a link with it is granted
unfoldable pub chosen : Table → (ℕ → Bool) → ℕ → ℕ → Bool
chosen b want zero i = false
chosen b want (suc n) i = cond (i == n) (want n && not (some_to n (λ h. b.H h n && chosen b want n h))) (chosen b want n i)

unfoldable pub granted : Table → (ℕ → Bool) → ℕ → Bool
granted b want i = chosen b want (suc i) i

-- a slot gives each open packet a grant or a denial
unfoldable pub counted : Table → (ℕ → Bool) → Packet → Packet
counted b won p =
    record {
      flow = p.flow;
      time = p.time;
      first = p.first;
      grants = p.grants + cond (is_open b p && won p.flow) 1 0;
      denials = p.denials + cond (is_open b p && not (won p.flow)) 1 0;
    }

-- the packets in the order of their releases
unfoldable pub ledger : Table → List Call → List Packet
ledger b [] = []
ledger b (release i t ∷ l) = ledger b l ++ (record { flow = i; time = t; first = slot_of l; grants = 0; denials = 0 } ∷ [])
ledger b (inject ∷ l) = map (counted b (granted b (wants b (ledger b l)))) (ledger b l)

-- a release that is accepted after the calls l
pub record Fits (b : Table) (l : List Call) (i t : ℕ) : Type 0 where
  pub flow : Flow b i
  pub in_time : slot_of l * b.S + b.e i ≤ t + b.S
  pub not_ahead : t < slot_of l * b.S + b.e i
  pub apart : (s : ℕ) → last_of l i ≡ Some s → s + b.T i ≤ t
  pub free : wants b (ledger b l) i ≡ false

abbrev pub Accepted : Table → List Call → Type 0
Accepted b [] = Unit {0}
Accepted b (release i t ∷ l) = Fits b l i t × Accepted b l
Accepted b (inject ∷ l) = Accepted b l

-- a packet at slot n: each slot since its first gave it a grant or a denial; it arrives, or can still arrive, within its flow's bound
pub record Kept (b : Table) (R : ℕ → Option ℕ) (n : ℕ) (p : Packet) : Type 0 where
  pub whole : p.grants ≤ b.w p.flow
  pub slots : p.grants < b.w p.flow → p.first + p.grants + p.denials ≡ n
  pub arrived : (y : ℕ) → R p.flow ≡ Some y → p.grants ≡ b.w p.flow →
      (p.first + p.grants + p.denials) * b.S + b.c p.flow ≤ p.time + y
  pub waiting : (y : ℕ) → R p.flow ≡ Some y → p.grants < b.w p.flow →
      (n + (b.w p.flow - p.grants)) * b.S + b.c p.flow ≤ p.time + y

abbrev pub CallsInBound : Type 0
CallsInBound =
    (b : Table) → Lawful b → (R : ℕ → Option ℕ) → Bounds b R → (l : List Call) → Accepted b l → AllByRecursion (Kept b R (slot_of l)) (ledger b l)

-- a bounded flow's packet is gone when its next may be released
abbrev pub NextFree : Type 0
NextFree =
    (b : Table) → Lawful b → (R : ℕ → Option ℕ) → Bounds b R → (l : List Call) → Accepted b l → (i y s t : ℕ) → R i ≡ Some y →
    last_of l i ≡ Some s → s + b.T i ≤ t → t < slot_of l * b.S + b.e i → wants b (ledger b l) i ≡ false

-- What a run keeps of its flows: the parts that are left of a flow's open packet, the count of packets, and the place of the flow's newest packet.
unfoldable pub left_of : Table → List Call → ℕ → ℕ
left_of b [] i = 0
left_of b (release j t ∷ l) i = cond (i == j) (b.w i) (left_of b l i)
left_of b (inject ∷ l) i = left_of b l i - one (granted b (λ k. ltb 0 (left_of b l k)) i)

unfoldable pub made_of : List Call → ℕ
made_of [] = 0
made_of (release j t ∷ l) = suc (made_of l)
made_of (inject ∷ l) = made_of l

unfoldable pub place_of : List Call → ℕ → ℕ
place_of [] i = 0
place_of (release j t ∷ l) i = cond (i == j) (made_of l) (place_of l i)
place_of (inject ∷ l) i = place_of l i

-- These counts tell of the ledger: who wants, and where the open packet stands.
pub record Row (b : Table) (l : List Call) (i : ℕ) : Type 0 where
  pub count : length (ledger b l) ≡ made_of l
  pub wanting : wants b (ledger b l) i ≡ nat_lt 0 (left_of b l i)
  pub place : 0 < left_of b l i → place_of l i < made_of l
  pub flow : 0 < left_of b l i → (d : Packet) → (get_or (ledger b l) (place_of l i) d).flow ≡ i
  pub left : 0 < left_of b l i → (d : Packet) → left_of b l i + (get_or (ledger b l) (place_of l i) d).grants ≡ b.w i

abbrev pub RowsTell : Type 0
RowsTell = (b : Table) → Lawful b → (l : List Call) → Accepted b l → (i : ℕ) → Row b l i

-- what stands past the end of the ledger
abbrev pub no_packet : Packet
no_packet = record { flow = 0; time = 0; first = 0; grants = 0; denials = 0 }

-- an open packet is its flow's newest
abbrev pub OpenPlaced : Type 0
OpenPlaced =
    (b : Table) → Lawful b → (l : List Call) → Accepted b l → (p : ℕ) → p < made_of l → is_open b (slice_index_or (ledger b l) p no_packet) ≡ true →
    (place_of l (get_or (ledger b l) p no_packet).flow ≡ p)
    × (0 < left_of b l (get_or (ledger b l) p no_packet).flow)
    × Flow b (get_or (ledger b l) p no_packet).flow

-- a flow that wants is granted exactly when no flow above that shares a link with it is
abbrev pub Decided : Type 0
Decided =
    (b : Table) → ((h i : ℕ) → b.H h i ≡ true → (1 ≤ h) × (h < i)) → (want : ℕ → Bool) (i : ℕ) →
    granted b want i ≡ (want i && not (some_to i (λ h. b.H h i && granted b want h)))

-- every packet is of a flow of the table
abbrev pub FlowsKnown : Type 0
FlowsKnown = (b : Table) → Lawful b → (l : List Call) → Accepted b l → (p : ℕ) → p < made_of l → Flow b (get_or (ledger b l) p no_packet).flow
