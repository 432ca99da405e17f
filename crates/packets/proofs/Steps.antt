-- What one more call makes of the slot, of the counts, and of the ledger. Assumes nothing.
use Rattle.std.proofs.Common.{◌≡◌, ℕ, suc, ◌-◌, ◌<◌, Bool, cond, eqb, ltb, List, [], ◌∷◌, ◌++◌, map, length, get_or, Some, None, refl, ◌∙◌, arith, length-append}
use lib.ListN.{length-map}
use Rattle.std.proofs.lemmas.List.{get_or-map, get_or_push, get_or_append_left}
use Rattle.std.proofs.lemmas.Bool.{cond-true, cond-false, eq-eqb, ne_eqb}
use Rattle.timing.specs.Counts.{one}
use Rattle.timing.specs.Model.{Table}
use Rattle.packets.specs.Calls.{Call, release, inject, slot_of, last_of, Packet, wants, granted, counted, ledger, left_of, made_of, place_of}

-- the slot
pub slot_start : slot_of [] ≡ 0
unfolding slot_of
slot_start = refl

pub slot_same : (l : List Call) (j t : ℕ) → slot_of (release j t ∷ l) ≡ slot_of l
unfolding slot_of
slot_same l j t = refl

pub slot_suc : (l : List Call) → slot_of (inject ∷ l) ≡ suc (slot_of l)
unfolding slot_of
slot_suc l = refl

-- a flow's last release
pub last_start : (i : ℕ) → last_of [] i ≡ None
unfolding last_of
last_start i = refl

pub last_release : (l : List Call) (j t i : ℕ) → last_of (release j t ∷ l) i ≡ cond (eqb i j) (Some t) (last_of l i)
unfolding last_of
last_release l j t i = refl

pub last_own : (l : List Call) (j t i : ℕ) → i ≡ j → last_of (release j t ∷ l) i ≡ Some t
last_own l j t i same = last_release l j t i ∙ cond-true (eqb i j) (Some t) (last_of l i) (eq-eqb i j same)

pub last_other : (l : List Call) (j t i : ℕ) → (i ≡ j → ⊥) → last_of (release j t ∷ l) i ≡ last_of l i
last_other l j t i ne = last_release l j t i ∙ cond-false (eqb i j) (Some t) (last_of l i) (ne_eqb i j ne)

pub last_inject : (l : List Call) (i : ℕ) → last_of (inject ∷ l) i ≡ last_of l i
unfolding last_of
last_inject l i = refl

-- the parts that are left
pub left_start : (b : Table) (i : ℕ) → left_of b [] i ≡ 0
unfolding left_of
left_start b i = refl

pub left_release : (b : Table) (l : List Call) (j t i : ℕ) → left_of b (release j t ∷ l) i ≡ cond (eqb i j) (b.w i) (left_of b l i)
unfolding left_of
left_release b l j t i = refl

pub left_own : (b : Table) (l : List Call) (j t i : ℕ) → i ≡ j → left_of b (release j t ∷ l) i ≡ b.w i
left_own b l j t i same = left_release b l j t i ∙ cond-true (eqb i j) (b.w i) (left_of b l i) (eq-eqb i j same)

pub left_other : (b : Table) (l : List Call) (j t i : ℕ) → (i ≡ j → ⊥) → left_of b (release j t ∷ l) i ≡ left_of b l i
left_other b l j t i ne = left_release b l j t i ∙ cond-false (eqb i j) (b.w i) (left_of b l i) (ne_eqb i j ne)

pub left_inject : (b : Table) (l : List Call) (i : ℕ) → left_of b (inject ∷ l) i ≡ left_of b l i - one (granted b (λ k. ltb 0 (left_of b l k)) i)
unfolding left_of
left_inject b l i = refl

-- the count of packets
pub made_start : made_of [] ≡ 0
unfolding made_of
made_start = refl

pub made_release : (l : List Call) (j t : ℕ) → made_of (release j t ∷ l) ≡ suc (made_of l)
unfolding made_of
made_release l j t = refl

pub made_inject : (l : List Call) → made_of (inject ∷ l) ≡ made_of l
unfolding made_of
made_inject l = refl

-- the place of a flow's newest packet
pub place_start : (i : ℕ) → place_of [] i ≡ 0
unfolding place_of
place_start i = refl

pub place_release : (l : List Call) (j t i : ℕ) → place_of (release j t ∷ l) i ≡ cond (eqb i j) (made_of l) (place_of l i)
unfolding place_of
place_release l j t i = refl

pub place_own : (l : List Call) (j t i : ℕ) → i ≡ j → place_of (release j t ∷ l) i ≡ made_of l
place_own l j t i same = place_release l j t i ∙ cond-true (eqb i j) (made_of l) (place_of l i) (eq-eqb i j same)

pub place_other : (l : List Call) (j t i : ℕ) → (i ≡ j → ⊥) → place_of (release j t ∷ l) i ≡ place_of l i
place_other l j t i ne = place_release l j t i ∙ cond-false (eqb i j) (made_of l) (place_of l i) (ne_eqb i j ne)

pub place_inject : (l : List Call) (i : ℕ) → place_of (inject ∷ l) i ≡ place_of l i
unfolding place_of
place_inject l i = refl

-- the packet that a release makes
abbrev pub new_of : List Call → ℕ → ℕ → Packet
new_of l j t = record { flow = j; time = t; first = slot_of l; grants = 0; denials = 0 }

-- the ledger
pub ledger_start : (b : Table) → ledger b [] ≡ []
unfolding ledger
ledger_start b = refl

pub ledger_release : (b : Table) (l : List Call) (j t : ℕ) → ledger b (release j t ∷ l) ≡ ledger b l ++ (new_of l j t ∷ [])
unfolding ledger
ledger_release b l j t = refl

pub ledger_inject : (b : Table) (l : List Call) → ledger b (inject ∷ l) ≡ map (counted b (granted b (wants b (ledger b l)))) (ledger b l)
unfolding ledger
ledger_inject b l = refl

pub ledger_length : (b : Table) (l : List Call) → length (ledger b l) ≡ made_of l
unfolding ledger made_of
ledger_length b [] = refl
ledger_length b (release j t ∷ l) = omega (arith, length-append (ledger b l) (new_of l j t ∷ []), ledger_length b l)
ledger_length b (inject ∷ l) = length-map (ledger b l) (counted b (granted b (wants b (ledger b l)))) ∙ ledger_length b l

-- the packet at a place of the ledger
pub packet_new : (b : Table) (l : List Call) (j t : ℕ) (d : Packet) → get_or (ledger b (release j t ∷ l)) (made_of l) d ≡ new_of l j t
unfolding ledger
packet_new b l j t d = get_or_push (ledger b l) (new_of l j t) d (made_of l) (ledger_length b l)

pub packet_kept :
    (b : Table) (l : List Call) (j t p : ℕ) (d : Packet) → p < made_of l → get_or (ledger b (release j t ∷ l)) p d ≡ get_or (ledger b l) p d
unfolding ledger
packet_kept b l j t p d lt = get_or_append_left (ledger b l) (new_of l j t ∷ []) d p (omega (arith, ledger_length b l))

pub packet_counted :
    (b : Table) (l : List Call) (p : ℕ) (d : Packet) → p < made_of l →
    get_or (ledger b (inject ∷ l)) p d ≡ counted b (granted b (wants b (ledger b l))) (get_or (ledger b l) p d)
unfolding ledger
packet_counted b l p d lt = get_or-map (counted b (granted b (wants b (ledger b l)))) (ledger b l) p d d (omega (arith, ledger_length b l))

-- a slot leaves a packet's flow, time and first slot
pub counted_flow : (b : Table) (won : ℕ → Bool) (p : Packet) → (counted b won p).flow ≡ p.flow
unfolding counted
counted_flow b won p = refl

pub counted_time : (b : Table) (won : ℕ → Bool) (p : Packet) → (counted b won p).time ≡ p.time
unfolding counted
counted_time b won p = refl

pub counted_first : (b : Table) (won : ℕ → Bool) (p : Packet) → (counted b won p).first ≡ p.first
unfolding counted
counted_first b won p = refl
