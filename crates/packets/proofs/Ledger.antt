-- The ledger of a list of calls tells of each packet what the run of its releases tells. Assumes nothing.
use Rattle.std.proofs.Common.{◌≡◌, ℕ, suc, ◌+◌, ◌-◌, ◌*◌, ◌<◌, ◌≤◌, Bool, true, false, cond, not, ◌&&◌, eqb, ltb, ◌⊎◌, List, [], ◌∷◌, ◌++◌, map, Some, None, Option, sym, refl, ap, ◌∙◌, ap₂, inl, inr, mul-le-mul_right, suc-mul, arith}
use Rattle.std.proofs.lemmas.Bool.{cases_lt, cases_eq, cases_Bool, both_ways, and_parts, and_from, or_cases, or_parts, or_left, or_right, eq-eqb, eqb-true, lt-ltb, le-ltb, ltb-true, ltb-false}
use Rattle.std.proofs.ByRecursion.{All-push, All-map, All-weaker}
use Rattle.std.specs.List.{AllByRecursion}
use Rattle.timing.specs.Counts.{one}
use Rattle.timing.specs.Model.{Table, Lawful, Bounds}
use Rattle.packets.specs.Runs.{Run, waiting, before, left, grants}
use Rattle.packets.specs.Calls.{Call, release, inject, slot_of, last_of, Packet, is_open, wants, granted, counted, ledger, Accepted, Kept, CallsInBound, NextFree}
use Rattle.std.proofs.lemmas.Option.{none-some}
use Rattle.timing.proofs.Options.{cases_option}
use Rattle.timing.proofs.Sums.{sum_eq, one_le}
use Rattle.packets.proofs.Flows.{left_none_of, left_some_of, before_suc_of, grants_zero_of, grants_suc_of}
use Rattle.packets.proofs.Slots.{winners, winners_are, winners_from, before_same, winners_same}
use Rattle.packets.proofs.Logs.{rel_of, rel_here, rel_there, rel_cases, rel_upto, rel_past, rel_last, rel_known, rel_on_time, rel_apart}
use Rattle.packets.proofs.Response.{in_bound}

module _ (b : Table) where
  -- the parts of flow i that wait in slot n, and its grants in m slots from f on
  abbrev pub Wait : (ℕ → ℕ → Option ℕ) → ℕ → ℕ → ℕ
  Wait rel n i = left b.w rel (winners b rel) n i

  abbrev pub Got : (ℕ → ℕ → Option ℕ) → ℕ → ℕ → ℕ → ℕ
  Got rel i f m = grants (winners b rel) i f m

  -- a packet of the ledger at slot n
  pub record Tied (rel : ℕ → ℕ → Option ℕ) (n : ℕ) (p : Packet) : Type 0 where
    pub whole : p.grants ≤ b.w p.flow
    pub released : rel p.first p.flow ≡ Some p.time
    pub slots : p.grants < b.w p.flow → p.first + (p.grants + p.denials) ≡ n
    pub given : p.grants < b.w p.flow → Got rel p.flow p.first (p.grants + p.denials) ≡ p.grants
    pub rest : p.grants < b.w p.flow → Wait rel n p.flow + p.grants ≡ b.w p.flow

  pub record Link (rel : ℕ → ℕ → Option ℕ) (n : ℕ) (ps : List Packet) : Type 0 where
    pub all : AllByRecursion (Tied rel n) ps
    pub some : (i : ℕ) → 0 < Wait rel n i → wants b ps i ≡ true

  pub open_lt : (p : Packet) → is_open b p ≡ true → p.grants < b.w p.flow
  unfolding is_open
  open_lt p e = ltb-true p.grants (b.w p.flow) e

  pub lt_open : (p : Packet) → p.grants < b.w p.flow → is_open b p ≡ true
  unfolding is_open
  lt_open p lt = lt-ltb p.grants (b.w p.flow) lt

  -- what a test on the first packet, and on the others, says
  pub wants_cases : (p : Packet) (ps : List Packet) (i : ℕ) → wants b (p ∷ ps) i ≡ true → ((i ≡ p.flow) × (p.grants < b.w p.flow)) ⊎ (wants b ps i ≡ true)
  unfolding wants
  wants_cases p ps i e =
      elim (or_cases (eqb i p.flow && is_open b p) (wants b ps i) e) [
        | inl here ↦ let q = and_parts (eqb i p.flow) (is_open b p) here in inl (eqb-true i p.flow q.0, open_lt p q.1)
        | inr there ↦ inr there
      ]

  pub wants_here : (p : Packet) (ps : List Packet) (i : ℕ) → i ≡ p.flow → p.grants < b.w p.flow → wants b (p ∷ ps) i ≡ true
  unfolding wants
  wants_here p ps i e lt =
      or_left (eqb i p.flow && is_open b p) (wants b ps i) (and_from (eqb i p.flow) (is_open b p) (eq-eqb i p.flow e) (lt_open p lt))

  pub wants_there : (p : Packet) (ps : List Packet) (i : ℕ) → wants b ps i ≡ true → wants b (p ∷ ps) i ≡ true
  unfolding wants
  wants_there p ps i e = or_right (eqb i p.flow && is_open b p) (wants b ps i) e

  pub wants_rest : (p : Packet) (ps : List Packet) (i : ℕ) → wants b (p ∷ ps) i ≡ false → wants b ps i ≡ false
  unfolding wants
  wants_rest p ps i e = (or_parts (eqb i p.flow && is_open b p) (wants b ps i) e).1

  pub wants_none : (i : ℕ) → wants b [] i ≡ false
  unfolding wants
  wants_none i = refl

  -- a flow that wants has parts that wait
  pub wants_waits : (rel : ℕ → ℕ → Option ℕ) (n i : ℕ) (ps : List Packet) → AllByRecursion (Tied rel n) ps → wants b ps i ≡ true → 0 < Wait rel n i
  wants_waits rel n i [] all e = absurd (both_ways (wants b [] i) (wants_none i) e)
  wants_waits rel n i (p ∷ ps) all e =
      elim (wants_cases p ps i e) [
        | inl here ↦ omega (arith, all.0.rest here.1, ap (λ (k : ℕ). Wait rel n k) here.0)
        | inr there ↦ wants_waits rel n i ps all.1 there
      ]

  pub wants_are : (rel : ℕ → ℕ → Option ℕ) (n : ℕ) (ps : List Packet) → Link rel n ps → (i : ℕ) → wants b ps i ≡ ltb 0 (Wait rel n i)
  wants_are rel n ps q i =
      elim (cases_lt 0 (Wait rel n i)) [
        | inl pos ↦ q.some i pos ∙ sym (lt-ltb 0 (Wait rel n i) pos)
        | inr none ↦
            elim (cases_Bool (wants b ps i)) [
              | inl yes-wants ↦ absurd (omega (arith, wants_waits rel n i ps q.all yes-wants))
              | inr no-wants ↦ no-wants ∙ sym (le-ltb 0 (Wait rel n i) none)
            ]
      ]

  -- what a slot adds to a packet
  pub count_open :
      (won : ℕ → Bool) (p : Packet) → p.grants < b.w p.flow →
      ((counted b won p).grants ≡ p.grants + one (won p.flow)) × ((counted b won p).denials + one (won p.flow) ≡ p.denials + 1)
  unfolding counted one
  count_open won p lt = go (is_open b p) (won p.flow) (lt_open p lt) p.grants p.denials
    where
      go : (s t : Bool) → s ≡ true → (g d : ℕ) → (g + cond (s && t) 1 0 ≡ g + cond t 1 0) × (d + cond (s && not t) 1 0 + cond t 1 0 ≡ d + 1)
      go true true e g d = (refl, omega arith)
      go true false e g d = (refl, omega arith)
      go false t e g d = absurd (both_ways false refl e)

  pub count_done : (won : ℕ → Bool) (p : Packet) → b.w p.flow ≤ p.grants → ((counted b won p).grants ≡ p.grants) × ((counted b won p).denials ≡ p.denials)
  unfolding counted is_open
  count_done won p le = go (is_open b p) (won p.flow) (le-ltb p.grants (b.w p.flow) le) p.grants p.denials
    where
      go : (s t : Bool) → s ≡ false → (g d : ℕ) → (g + cond (s && t) 1 0 ≡ g) × (d + cond (s && not t) 1 0 ≡ d)
      go false t e g d = (omega arith, omega arith)
      go true t e g d = absurd (both_ways true e refl)

  -- one slot more
  module _ (rel : ℕ → ℕ → Option ℕ) (n : ℕ) (past : (i : ℕ) → rel (suc n) i ≡ None) where
    pub wait_next : (i : ℕ) → Wait rel (suc n) i + one (winners b rel n i) ≡ Wait rel n i
    wait_next i = omega (arith, left_none_of b rel (winners b rel) (suc n) i (past i), before_suc_of b rel (winners b rel) n i (winners_are b rel n i))

    got_next : (i f m k : ℕ) → f + m ≡ n → k ≡ suc m → Got rel i f k ≡ Got rel i f m + one (winners b rel n i)
    got_next i f m k at next =
        ap (λ (j : ℕ). Got rel i f j) next ∙ grants_suc_of (winners b rel) i f m
        ∙ ap (λ (j : ℕ). Got rel i f m + one (winners b rel j i)) at

    tied_next : (won : ℕ → Bool) → ((i : ℕ) → won i ≡ winners b rel n i) → (p : Packet) → Tied rel n p → Tied rel (suc n) (counted b won p)
    unfolding counted
    tied_next won same p q =
        let whole = q.whole in
        elim (cases_lt p.grants (b.w p.flow)) [
          | inl few ↦
              let e = count_open won p few in
              let w-is : one (won p.flow) ≡ one (winners b rel n p.flow) = ap one (same p.flow) in
              let slots = q.slots few in
              let more : (counted b won p).grants + (counted b won p).denials ≡ suc (p.grants + p.denials) = omega arith in
              let wait = wait_next p.flow in
              let rest = q.rest few in
              record {
                whole = omega arith;
                released = q.released;
                slots = λ lt. omega arith;
                given = λ lt.
                    omega (
                      arith,
                      got_next p.flow p.first (p.grants + p.denials) ((counted b won p).grants + (counted b won p).denials) slots more,
                      q.given few,
                    );
                rest = λ lt. omega arith;
              }
          | inr done ↦
              let e = count_done won p done in
              record {
                whole = omega arith;
                released = q.released;
                slots = λ lt. absurd (omega arith);
                given = λ lt. absurd (omega arith);
                rest = λ lt. absurd (omega arith);
              }
        ]

    some_next :
        (won : ℕ → Bool) → ((i : ℕ) → won i ≡ winners b rel n i) → (i : ℕ) → 0 < Wait rel (suc n) i → (ps : List Packet) → AllByRecursion (Tied rel n) ps →
        wants b ps i ≡ true → wants b (map (counted b won) ps) i ≡ true
    some_next won same i pos [] all e = e
    some_next won same i pos (p ∷ ps) all e =
        elim (wants_cases p ps i e) [
          | inl here ↦
              let c = count_open won p here.1 in
              let w-is : one (won p.flow) ≡ one (winners b rel n p.flow) = ap one (same p.flow) in
              let at : Wait rel (suc n) i ≡ Wait rel (suc n) p.flow = ap (λ (k : ℕ). Wait rel (suc n) k) here.0 in
              wants_here (counted b won p) (map (counted b won) ps) i (here.0 ∙ flow_same won p)
              (few won p (omega (arith, wait_next p.flow, all.0.rest here.1)))
          | inr there ↦ wants_there (counted b won p) (map (counted b won) ps) i (some_next won same i pos ps all.1 there)
        ]
      where
        flow_same : (won : ℕ → Bool) (p : Packet) → p.flow ≡ (counted b won p).flow
        flow_same won p = unfold counted in refl

        few : (won : ℕ → Bool) (p : Packet) → (counted b won p).grants < b.w p.flow → (counted b won p).grants < b.w (counted b won p).flow
        few won p lt = unfold counted in lt

    link_next : (ps : List Packet) → Link rel n ps → Link rel (suc n) (map (counted b (granted b (wants b ps))) ps)
    link_next ps q =
        let won : ℕ → Bool = granted b (wants b ps) in
        let same : (i : ℕ) → won i ≡ winners b rel n i = winners_from b rel n (wants b ps) (wants_are rel n ps q) in
        record {
          all = All-map (Tied rel (suc n)) (counted b won) ps (All-weaker (Tied rel n) (λ p. Tied rel (suc n) (counted b won p)) (tied_next won same) ps q.all);
          some = λ i pos. some_next won same i pos ps q.all (q.some i (omega (arith, wait_next i)));
        }

  -- one release more, of flow j at t into slot n
  module _
      (rel rel' : ℕ → ℕ → Option ℕ) (n j t : ℕ) (other : (k i : ℕ) → ((k ≡ n) × (i ≡ j) → ⊥) → rel' k i ≡ rel k i)
      (here : rel' n j ≡ Some t) (empty : rel n j ≡ None) where
    agree : (k i : ℕ) → k < n → rel' k i ≡ rel k i
    agree k i lt = other k i (λ e. omega arith)

    pub left_kept : (i : ℕ) → (i ≡ j → ⊥) → Wait rel' n i ≡ Wait rel n i
    unfolding left
    left_kept i ne = ap₂ (λ (o : Option ℕ) (r : ℕ). waiting o (b.w i) r) (other n i (λ e. ne e.1)) (before_same b rel' rel n agree i)

    got_kept : (i f m : ℕ) → f + m ≤ n → Got rel' i f m ≡ Got rel i f m
    unfolding grants
    got_kept i f m le =
        sum_eq m (λ k. one (winners b rel' (f + k) i)) (λ k. one (winners b rel (f + k) i))
        (λ k lt. ap one (winners_same b rel' rel n agree (f + k) i (omega arith)))

    tied_kept : (p : Packet) → Tied rel n p → (p.grants < b.w p.flow → j ≡ p.flow → ⊥) → Tied rel' n p
    tied_kept p q apart =
        record {
          whole = q.whole;
          released = other p.first p.flow (λ e. none-some p.time (sym empty ∙ at e ∙ q.released)) ∙ q.released;
          slots = q.slots;
          given = λ lt. got_kept p.flow p.first (p.grants + p.denials) (omega (arith, q.slots lt)) ∙ q.given lt;
          rest = λ lt. omega (arith, left_kept p.flow (λ e. apart lt (sym e)), q.rest lt);
        }
      where
        at : (p.first ≡ n) × (p.flow ≡ j) → rel n j ≡ rel p.first p.flow
        at e = ap₂ rel (sym e.0) (sym e.1)

    all_kept : (ps : List Packet) → AllByRecursion (Tied rel n) ps → wants b ps j ≡ false → AllByRecursion (Tied rel' n) ps
    all_kept [] all e = tt
    all_kept (p ∷ ps) all e =
        (tied_kept p all.0 (λ lt same. both_ways (wants b (p ∷ ps) j) e (wants_here p ps j same lt)), all_kept ps all.1 (wants_rest p ps j e))

    abbrev newest : Packet
    newest = record { flow = j; time = t; first = n; grants = 0; denials = 0 }

    newest_tied : Tied rel' n newest
    newest_tied =
        record {
          whole = omega arith;
          released = here;
          slots = λ lt. omega arith;
          given = λ lt. grants_zero_of (winners b rel') j n;
          rest = λ lt. omega (arith, left_some_of b rel' (winners b rel') n j t here);
        }

    wants_push : (ps : List Packet) (i : ℕ) → wants b ps i ≡ true → wants b (ps ++ (newest ∷ [])) i ≡ true
    wants_push [] i e = absurd (both_ways (wants b [] i) (wants_none i) e)
    wants_push (p ∷ ps) i e =
        elim (wants_cases p ps i e) [
          | inl first ↦ wants_here p (ps ++ (newest ∷ [])) i first.0 first.1
          | inr later ↦ wants_there p (ps ++ (newest ∷ [])) i (wants_push ps i later)
        ]

    wants_newest : (ps : List Packet) → 0 < b.w j → (i : ℕ) → i ≡ j → wants b (ps ++ (newest ∷ [])) i ≡ true
    wants_newest [] pos i e = wants_here newest [] i e pos
    wants_newest (p ∷ ps) pos i e = wants_there p (ps ++ (newest ∷ [])) i (wants_newest ps pos i e)

    link_more : (ps : List Packet) → 0 < b.w j → wants b ps j ≡ false → Link rel n ps → Link rel' n (ps ++ (newest ∷ []))
    link_more ps pos free q =
        record {
          all = All-push (Tied rel' n) ps newest (all_kept ps q.all free) newest_tied;
          some = λ i waits.
              elim (cases_eq i j) [
                | inl same ↦ wants_newest ps pos i same
                | inr ne ↦ wants_push ps i (q.some i (omega (arith, left_kept i ne)))
              ];
        }

  -- a flow that is free has released nothing into this slot, and nothing of it waits
  pub none_here : (rel : ℕ → ℕ → Option ℕ) (n j : ℕ) (ps : List Packet) → Link rel n ps → 0 < b.w j → wants b ps j ≡ false → rel n j ≡ None
  none_here rel n j ps q pos free =
      elim (cases_option (rel n j)) [
        | inl none ↦ none
        | inr some_one ↦
            absurd
            (both_ways (wants b ps j) free (q.some j (omega (arith, left_some_of b rel (winners b rel) n j some_one.0 some_one.1))))
      ]

module _ (b : Table) (law : Lawful b) where
  pub link : (l : List Call) → Accepted b l → Link b (rel_of l) (slot_of l) (ledger b l)
  unfolding rel_of slot_of ledger
  link [] ok = record { all = tt; some = λ i pos. absurd (nothing i pos) }
    where
      nothing : (i : ℕ) → 0 < Wait b (rel_of []) 0 i → ⊥
      nothing i pos = let e : Wait b (rel_of []) 0 i ≡ 0 = unfold left before waiting in refl in omega arith
  link (release j t ∷ l) ok =
      let q = link l ok.1 in
      let pos = law.parts j ok.0.flow in
      link_more b (rel_of l) (rel_of (release j t ∷ l)) (slot_of l) j t (rel_there l j t) (rel_here l j t)
      (none_here b (rel_of l) (slot_of l) j (ledger b l) q pos ok.0.free) (ledger b l) pos ok.0.free q
  link (inject ∷ l) ok = link_next b (rel_of l) (slot_of l) (λ i. rel_past l (suc (slot_of l)) i (omega arith)) (ledger b l) (link l ok)

  -- what waits as slot n begins, up to the slot of a newest release
  before_kept :
      (l : List Call) (j t n i : ℕ) → n ≤ slot_of l →
      before b.w (rel_of (release j t ∷ l)) (winners b (rel_of (release j t ∷ l))) n i ≡ before b.w (rel_of l) (winners b (rel_of l)) n i
  before_kept l j t n i le =
      before_same b (rel_of (release j t ∷ l)) (rel_of l) n (λ k h lt. rel_there l j t k h (λ e. omega arith)) i

  before_free : (l : List Call) → Accepted b l → (j : ℕ) → 0 < b.w j → wants b (ledger b l) j ≡ false → before b.w (rel_of l) (winners b (rel_of l)) (slot_of l) j ≡ 0
  before_free l ok j pos free =
      let q = link l ok in
      let n = slot_of l in
      let none = none_here b (rel_of l) n j (ledger b l) q pos free in
      let empty = ltb-false 0 (Wait b (rel_of l) n j) (sym (wants_are b (rel_of l) n (ledger b l) q j) ∙ free) in
      omega (arith, left_none_of b (rel_of l) (winners b (rel_of l)) n j none)

  pub rel_free : (l : List Call) → Accepted b l → (n i u : ℕ) → rel_of l n i ≡ Some u → before b.w (rel_of l) (winners b (rel_of l)) n i ≡ 0
  unfolding rel_of
  rel_free [] ok n i u e = cc
  rel_free (release j t ∷ l) ok n i u e =
      elim (rel_cases l j t n i u e) [
        | inl here ↦
            before_kept l j t n i (omega arith)
            ∙ ap₂ (before b.w (rel_of l) (winners b (rel_of l))) here.0 here.1
            ∙ before_free l ok.1 j (law.parts j ok.0.flow) ok.0.free
        | inr there ↦ before_kept l j t n i (rel_upto l n i u there) ∙ rel_free l ok.1 n i u there
      ]
  rel_free (inject ∷ l) ok n i u e = rel_free l ok n i u e

  -- the run of the calls
  abbrev pub run_of : (l : List Call) → Accepted b l → Run b
  run_of l ok =
      record {
        rel = rel_of l;
        won = winners b (rel_of l);
        known = rel_known b l ok;
        on_time = rel_on_time b l ok;
        apart = rel_apart b l ok;
        free = rel_free l ok;
        arbitrated = winners_are b (rel_of l);
      }

  module _ (R : ℕ → Option ℕ) (bounds : Bounds b R) where
    -- an open packet
    pub open_bound :
        (l : List Call) (ok : Accepted b l) (p : Packet) → Tied b (rel_of l) (slot_of l) p → (y : ℕ) → R p.flow ≡ Some y →
        p.grants < b.w p.flow → (slot_of l + (b.w p.flow - p.grants)) * b.S + b.c p.flow ≤ p.time + y
    open_bound l ok p q y bound few =
        let m = p.grants + p.denials in
        let got = q.given few in
        let at = q.slots few in
        let all = in_bound b law R bounds (run_of l ok) p.flow y p.first p.time m bound q.released (omega arith) in
        let same : p.first + m + (b.w p.flow - Got b (rel_of l) p.flow p.first m) ≡ slot_of l + (b.w p.flow - p.grants) = omega arith in
        rw same at all

    KeptArrived : Packet → Type 0
    KeptArrived p = (y : ℕ) → R p.flow ≡ Some y → p.grants ≡ b.w p.flow → (p.first + p.grants + p.denials) * b.S + b.c p.flow ≤ p.time + y

    arrive :
        (l : List Call) (ok : Accepted b l) (won : ℕ → Bool) (p : Packet) → Tied b (rel_of l) (slot_of l) p → KeptArrived p → KeptArrived (counted b won p)
    unfolding KeptArrived counted
    arrive l ok won p q old y bound all =
        elim (cases_lt p.grants (b.w p.flow)) [
          | inl few ↦
              let c = count_open b won p few in
              let at = q.slots few in
              let late = open_bound l ok p q y bound few in
              let least = one_le (won p.flow) in
              let sum : p.first + (counted b won p).grants + (counted b won p).denials ≡ slot_of l + (b.w p.flow - p.grants) = omega arith in
              omega (arith, ap (λ (k : ℕ). k * b.S) sum)
          | inr done ↦
              let c = count_done b won p done in
              let sum : p.first + (counted b won p).grants + (counted b won p).denials ≡ p.first + p.grants + p.denials = omega arith in
              omega (arith, ap (λ (k : ℕ). k * b.S) sum, old y bound (omega arith))
        ]

    -- the packets of the ledger, with the tie of each
    both : (l : List Call) → (ps : List Packet) → AllByRecursion (Tied b (rel_of l) (slot_of l)) ps → AllByRecursion KeptArrived ps → AllByRecursion (λ p. Tied b (rel_of l) (slot_of l) p × KeptArrived p) ps
    both l [] xs ys = tt
    both l (p ∷ ps) xs ys = ((xs.0, ys.0), both l ps xs.1 ys.1)

    all_arrived : (l : List Call) → Accepted b l → AllByRecursion KeptArrived (ledger b l)
    unfolding ledger
    all_arrived [] ok = tt
    all_arrived (release j t ∷ l) ok =
        All-push KeptArrived (ledger b l) (record { flow = j; time = t; first = slot_of l; grants = 0; denials = 0 }) (all_arrived l ok.1)
        (fresh_one j t (slot_of l) (law.parts j ok.0.flow))
      where
        fresh_one : (j t n : ℕ) → 0 < b.w j → KeptArrived (record { flow = j; time = t; first = n; grants = 0; denials = 0 })
        fresh_one j t n pos = unfold KeptArrived in λ y bound all. absurd (omega arith)
    all_arrived (inject ∷ l) ok =
        let won : ℕ → Bool = granted b (wants b (ledger b l)) in
        All-map KeptArrived (counted b won) (ledger b l)
        (All-weaker (λ p. Tied b (rel_of l) (slot_of l) p × KeptArrived p) (λ p. KeptArrived (counted b won p)) (λ p q. arrive l ok won p q.0 q.1)
        (ledger b l) (both l (ledger b l) (link l ok).all (all_arrived l ok)))

    keep : (l : List Call) (ok : Accepted b l) (p : Packet) → Tied b (rel_of l) (slot_of l) p × KeptArrived p → Kept b R (slot_of l) p
    unfolding KeptArrived
    keep l ok p q =
        record {
          whole = q.0.whole;
          slots = λ few. omega (arith, q.0.slots few);
          arrived = q.1;
          waiting = open_bound l ok p q.0;
        }

    next_free :
        (l : List Call) (ok : Accepted b l) (i y s t : ℕ) → R i ≡ Some y → last_of l i ≡ Some s → s + b.T i ≤ t → t < slot_of l * b.S + b.e i →
        (ps : List Packet) → AllByRecursion (Tied b (rel_of l) (slot_of l)) ps → wants b ps i ≡ true → ⊥
    next_free l ok i y s t bound last apart ahead [] all e = both_ways (wants b [] i) (wants_none b i) e
    next_free l ok i y s t bound last apart ahead (p ∷ ps) all e =
        elim (wants_cases b p ps i e) [
          | inl here ↦
              let q = all.0 in
              let flow : p.flow ≡ i = sym here.0 in
              let r = rel_last b l ok p.first p.flow p.time q.released in
              let moved = ap (last_of l) flow in
              let same : r.0 ≡ s = cc in
              let own = law.parts i (bounds i y bound).flow in
              let late = open_bound l ok p q y (ap R flow ∙ bound) here.1 in
              let more : suc (slot_of l) * b.S ≤ (slot_of l + (b.w p.flow - p.grants)) * b.S = mul-le-mul_right b.S (omega (arith, here.1)) in
              let known = bounds i y bound in
              omega (arith, suc-mul (slot_of l) b.S, known.due, law.due i known.flow, law.ends i known.flow, r.2)
          | inr there ↦ next_free l ok i y s t bound last apart ahead ps all.1 there
        ]

pub calls_in_bound : CallsInBound
calls_in_bound b law R bounds l ok =
    All-weaker (λ p. Tied b (rel_of l) (slot_of l) p × KeptArrived b law R bounds p) (Kept b R (slot_of l)) (keep b law R bounds l ok) (ledger b l)
    (both b law R bounds l (ledger b l) (link b law l ok).all (all_arrived b law R bounds l ok))

pub free_again : NextFree
free_again b law R bounds l ok i y s t bound last apart ahead =
    elim (cases_Bool (wants b (ledger b l) i)) [
      | inl yes-wants ↦ absurd (next_free b law R bounds l ok i y s t bound last apart ahead (ledger b l) (link b law l ok).all yes-wants)
      | inr no-wants ↦ no-wants
    ]
