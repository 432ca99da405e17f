-- The response-time theorem: packets arrive within their bounds. Assumes nothing.
use Rattle.std.proofs.Common.{◌≡◌, ℕ, zero, suc, ◌+◌, ◌-◌, ◌*◌, ◌<◌, ◌≤◌, Bool, true, false, cond, not, ◌&&◌, ◌||◌, ltb, Some, Option, refl, ap, ◌∙◌, inl, inr, add-zero, add-suc, mul-le-mul_right, suc-mul, add-mul, arith}
use Rattle.std.proofs.lemmas.Bool.{cases_lt, cases_Bool, and_parts, and_from, or_cases, not-true, both_ways, cond-true, cond-false, lt-ltb, ltb-true}
use Rattle.timing.specs.Counts.{sum_to, some_to, ceil_div, one}
use Rattle.timing.specs.Model.{Table, Lawful, Bounds, within, jitter, share}
use Rattle.packets.specs.Runs.{Run}
use Rattle.packets.specs.Statement.{InBound, InSlots, NeverOpen}
use Rattle.timing.proofs.Ceil.{ceil_mono}
use Rattle.timing.proofs.Sums.{sum_le, sum_eq, sum_add, sum_term, some_true, some_false, every_true, one_true}
use Rattle.packets.proofs.Flows.{Before, Left, Grants, before_suc, before_zero, served, grants_suc, packet_left}
use Rattle.packets.proofs.Windows.{fresh, carried}
use Rattle.packets.proofs.Bounded.{jitter_some, alone_is, wide_enough, solved}

module _ (b : Table) (law : Lawful b) (R : ℕ → Option ℕ) (bounds : Bounds b R) (x : Run b) where
  -- what is to be shown of flow h
  abbrev pub Known : ℕ → Type 0
  Known h =
      (y f t m : ℕ) → R h ≡ Some y → x.rel f h ≡ Some t → Grants b x h f m < b.w h →
      (f + m + (b.w h - Grants b x h f m)) * b.S + b.c h ≤ t + y

  within_takes : (g h i : ℕ) → within b h i ≡ true → g < h → b.H g h ≡ true → b.H g i ≡ true
  unfolding within
  within_takes g h i e lt hi =
      elim (or_cases (not (b.H g h)) (b.H g i) (every_true h g (λ k. not (b.H k h) || b.H k i) e lt)) [
        | inl no-share ↦ absurd (both_ways (b.H g h) (not-true (b.H g h) no-share) hi)
        | inr yes-share ↦ yes-share
      ]

  -- the grants of a higher flow in the m slots from a on
  higher :
      (i h y a : ℕ) → b.H h i ≡ true → R h ≡ Some y → Known h → (within b h i ≡ true → Before b x a h ≡ 0) → (m : ℕ) →
      Grants b x h a m ≤ ceil_div (m * b.S + jitter b R h i) (b.T h) * b.w h
  higher i h y a hi bound known quiet m =
      let q = bounds h y bound in
      let wide = wide_enough b law R bounds h y bound in
      let flow = q.flow in
      let due = law.due h flow in
      let slot = law.slot in
      let own : 1 * b.S ≤ b.w h * b.S = mul-le-mul_right b.S (law.parts h flow) in
      let pos : 0 < b.T h = omega arith in
      let none : Before b x a h ≡ 0 → Grants b x h a m ≤ ceil_div (m * b.S + jitter b R h i) (b.T h) * b.w h =
      λ e.
      let more : ceil_div (m * b.S) (b.T h) ≤ ceil_div (m * b.S + jitter b R h i) (b.T h) =
      ceil_mono (m * b.S) (m * b.S + jitter b R h i) (b.T h) pos (omega arith)
      in
      omega (arith, fresh b law x h a flow e pos m, mul-le-mul_right (b.w h) more)
      in
      elim (cases_Bool (within b h i)) [
        | inl inside ↦ none (quiet inside)
        | inr outside ↦
            elim (cases_lt 0 (Before b x a h)) [
              | inl waits ↦
                  carried b law x h a flow y (jitter b R h i) (λ f t n e few. known y f t n bound e few)
                  (omega (arith, jitter_some b law R bounds h i y bound outside, alone_is b law R bounds h flow)) (omega arith) pos waits m
              | inr empty ↦ none (omega arith)
            ]
      ]

  -- a flow that delays i, and is itself delayed only by flows that delay i too, wants slot k
  busy : ℕ → ℕ → ℕ → Bool
  busy i k h = (b.H h i && within b h i) && ltb 0 (Left b x k h)

  idle : (i n h : ℕ) → b.H h i ≡ true → within b h i ≡ true → 0 < Left b x n h → some_to i (busy i n) ≡ false → ⊥
  unfolding busy
  idle i n h hi e waits no-busy =
      both_ways (busy i n h) (some_false i h (busy i n) no-busy (law.higher h i hi).1)
      (and_from (b.H h i && within b h i) (ltb 0 (Left b x n h)) (and_from (b.H h i) (within b h i) hi e) (lt-ltb 0 (Left b x n h) waits))

  -- the slots from s to n are busy, and before them nothing waits of a flow of that kind
  record Since (i n : ℕ) : Type 0 where
    s : ℕ
    le : s ≤ n
    full : (k : ℕ) → s ≤ k → k < n → some_to i (busy i k) ≡ true
    quiet : (h : ℕ) → b.H h i ≡ true → within b h i ≡ true → Before b x s h ≡ 0

  since : (i n : ℕ) → Since i n
  since i zero = record { s = 0; le = omega arith; full = λ k ge lt. absurd (omega arith); quiet = λ h hi e. before_zero b x h }
  since i (suc n) =
      elim (cases_Bool (some_to i (busy i n))) [
        | inl yes-busy ↦
            let old = since i n in
            record {
              s = old.s;
              le = omega arith;
              full = λ k ge lt.
                  elim (cases_lt k n) [
                    | inl less ↦ old.full k ge less
                    | inr more ↦
                        let same : k ≡ n = omega arith in
                        ap (λ (j : ℕ). some_to i (busy i j)) same ∙ yes-busy
                  ];
              quiet = old.quiet;
            }
        | inr no-busy ↦
            record {
              s = suc n;
              le = omega arith;
              full = λ k ge lt. absurd (omega arith);
              quiet = λ h hi e.
                  elim (cases_lt 0 (Left b x n h)) [
                    | inl waits ↦ absurd (idle i n h hi e waits no-busy)
                    | inr none ↦ omega (arith, before_suc b x n h)
                  ];
            }
      ]

  -- the grants of a slot k to flows that delay i
  wins : ℕ → ℕ → ℕ → ℕ
  wins i k h = cond (b.H h i) (one (x.won k h)) 0

  win : (i k h : ℕ) → b.H h i ≡ true → x.won k h ≡ true → 1 ≤ sum_to i (wins i k)
  unfolding wins
  win i k h hi e =
      omega
      (arith, sum_term i h (wins i k) (law.higher h i hi).1, cond-true (b.H h i) (one (x.won k h)) 0 hi, one_true (x.won k h) e)

  -- a busy slot grants a flow that delays i
  busy_win : (i k : ℕ) → some_to i (busy i k) ≡ true → 1 ≤ sum_to i (wins i k)
  unfolding busy
  busy_win i k e =
      let r = some_true i (busy i k) e in
      let h = r.0 in
      let p = and_parts (b.H h i && within b h i) (ltb 0 (Left b x k h)) r.2 in
      let q = and_parts (b.H h i) (within b h i) p.0 in
      elim (served b x k h (ltb-true 0 (Left b x k h) p.1)) [
        | inl own ↦ win i k h q.0 own
        | inr other ↦ win i k other.0 (within_takes other.0 h i q.1 other.1 other.2) other.3
      ]

  -- the grants to flows that delay i in the m slots from s on
  taken : ℕ → ℕ → ℕ → ℕ → ℕ
  taken i s m h = cond (b.H h i) (Grants b x h s m) 0

  split : (t : Bool) (p q r : ℕ) → p ≡ q + r → cond t p 0 ≡ cond t q 0 + cond t r 0
  split true p q r e = e
  split false p q r e = refl

  each : (i s m h : ℕ) → taken i s (suc m) h ≡ taken i s m h + wins i (s + m) h
  unfolding taken wins
  each i s m h = split (b.H h i) (Grants b x h s (suc m)) (Grants b x h s m) (one (x.won (s + m) h)) (grants_suc b x h s m)

  taken_suc : (i s m : ℕ) → sum_to i (taken i s (suc m)) ≡ sum_to i (taken i s m) + sum_to i (wins i (s + m))
  taken_suc i s m = sum_eq i (taken i s (suc m)) (λ h. taken i s m h + wins i (s + m) h) (λ h lt. each i s m h) ∙ sum_add i (taken i s m) (wins i (s + m))

  grants_mono : (i f j k : ℕ) → j ≤ k → Grants b x i f j ≤ Grants b x i f k
  grants_mono i f j zero le = let same : j ≡ 0 = omega arith in omega (arith, ap (λ (n : ℕ). Grants b x i f n) same)
  grants_mono i f j (suc k) le =
      elim (cases_lt k j) [
        | inl top ↦ let same : j ≡ suc k = omega arith in omega (arith, ap (λ (n : ℕ). Grants b x i f n) same)
        | inr less ↦ omega (arith, grants_mono i f j k less, grants_suc b x i f k)
      ]

  -- each slot before the packet's first is taken
  taken_before : (i f : ℕ) (q : Since i f) (m : ℕ) → q.s + m ≤ f → m ≤ sum_to i (taken i q.s m)
  taken_before i f q zero le = omega arith
  taken_before i f q (suc m) le =
      omega
      (arith, taken_before i f q m (omega arith), taken_suc i q.s m, busy_win i (q.s + m) (q.full (q.s + m) (omega arith) (omega arith)))

  -- each slot from the packet's first on is taken or granted to it
  taken_since :
      (i f t d : ℕ) (q : Since i f) → x.rel f i ≡ Some t → q.s + d ≡ f → (j : ℕ) → Grants b x i f j < b.w i →
      d + j ≤ sum_to i (taken i q.s (d + j)) + Grants b x i f j
  taken_since i f t d q e first zero few = rw add-zero (omega (arith, taken_before i f q d (omega arith)))
  taken_since i f t d q e first (suc j) few =
      let more = grants_suc b x i f j in
      let old : d + j ≤ sum_to i (taken i q.s (d + j)) + Grants b x i f j = taken_since i f t d q e first j (omega arith) in
      let waits : 0 < Left b x (f + j) i = omega (arith, packet_left b x i f t j e (omega arith)) in
      let here : q.s + (d + j) ≡ f + j = omega arith in
      let same : sum_to i (wins i (q.s + (d + j))) ≡ sum_to i (wins i (f + j)) = ap (λ (n : ℕ). sum_to i (wins i n)) here in
      let next = taken_suc i q.s (d + j) in
      rw add-suc (elim (served b x (f + j) i waits) [
        | inl own ↦ omega (arith, one_true (x.won (f + j) i) own)
        | inr other ↦ omega (arith, win i (f + j) other.0 other.2 other.3)
      ])

  -- so each part of the window is shorter than what is taken and i's own parts
  shorter :
      (i f t d : ℕ) (q : Since i f) → x.rel f i ≡ Some t → q.s + d ≡ f → (j : ℕ) → Grants b x i f j < b.w i → (m : ℕ) → m ≤ d + j →
      m < b.w i + sum_to i (taken i q.s m)
  shorter i f t d q e first j few m le =
      elim (cases_lt m d) [
        | inl less ↦ omega (arith, taken_before i f q m (omega arith), law.parts i (x.known f i t e))
        | inr more ↦
            let k = m - d in
            let same : d + k ≡ m = omega arith in
            let fewer = grants_mono i f k j (omega arith) in
            rw same at (within_window k (omega arith))
      ]
    where
      within_window : (k : ℕ) → Grants b x i f k < b.w i → d + k < b.w i + sum_to i (taken i q.s (d + k))
      within_window k fewer = omega (arith, taken_since i f t d q e first k fewer)

  -- every flow above i has a bound
  abbrev Above : ℕ → Type 0
  Above i = (h : ℕ) → b.H h i ≡ true → (y : ℕ) × (R h ≡ Some y)

  -- a window of at most y cycles holds no more
  capped_each :
      (i y f : ℕ) → Above i → ((h : ℕ) → h < i → Known h) → (q : Since i f) (m : ℕ) → m * b.S ≤ y → (h : ℕ) → h < i →
      taken i q.s m h ≤ share b R i y h
  unfolding taken share
  capped_each i y f above known q m short h lt =
      elim (cases_Bool (b.H h i)) [
        | inl yes-share ↦
            let bound = above h yes-share in
            let u = bound.0 in
            let own = bounds h u bound.1 in
            let wide = wide_enough b law R bounds h u bound.1 in
            let few = higher i h u q.s yes-share bound.1 (known h lt) (q.quiet h yes-share) m in
            let parts : 1 * b.S ≤ b.w h * b.S = mul-le-mul_right b.S (law.parts h own.flow) in
            let pos : 0 < b.T h = omega (arith, law.slot, law.due h own.flow) in
            let more = ceil_mono (m * b.S + jitter b R h i) (y + jitter b R h i) (b.T h) pos (omega arith) in
            omega (
              arith,
              mul-le-mul_right (b.w h) more,
              cond-true (b.H h i) (Grants b x h q.s m) 0 yes-share,
              cond-true (b.H h i) (ceil_div (y + jitter b R h i) (b.T h) * b.w h) 0 yes-share,
            )
        | inr no-share ↦ omega (arith, cond-false (b.H h i) (Grants b x h q.s m) 0 no-share)
      ]

  capped :
      (i y f : ℕ) → Above i → ((h : ℕ) → h < i → Known h) → (q : Since i f) (m : ℕ) → m * b.S ≤ y →
      sum_to i (taken i q.s m) ≤ sum_to i (share b R i y)
  capped i y f above known q m short = sum_le i (taken i q.s m) (share b R i y) (capped_each i y f above known q m short)

  -- n slots that hold i's parts and all that can be taken from a window of y cycles, with n slots in it, are enough
  respond :
      (i y n : ℕ) → Above i → ((h : ℕ) → h < i → Known h) → n * b.S ≤ y → b.w i + sum_to i (share b R i y) ≤ n → (f t j : ℕ) →
      x.rel f i ≡ Some t → Grants b x i f j < b.w i → (f + j + (b.w i - Grants b x i f j)) * b.S ≤ t + (b.S - b.e i) + n * b.S
  respond i y n above known wide enough f t j e few =
      let q = since i f in
      let le = q.le in
      let d = f - q.s in
      let first : q.s + d ≡ f = omega arith in
      elim (cases_lt (d + j) n) [
        | inl inside ↦
            let short : (d + j) * b.S ≤ n * b.S = mul-le-mul_right b.S (omega arith) in
            let cap = capped i y f above known q (d + j) (omega arith) in
            let all : f + j + (b.w i - Grants b x i f j) ≤ q.s + n = omega (arith, taken_since i f t d q e first j few) in
            let flow = x.known f i t e in
            omega
            (arith, mul-le-mul_right b.S all, add-mul q.s n b.S, mul-le-mul_right b.S le, (x.on_time f i t e).0, law.ends i flow)
        | inr outside ↦
            let cap = capped i y f above known q n wide in
            absurd (omega (arith, shorter i f t d q e first j few n outside))
      ]

  known_next : (i : ℕ) → ((h : ℕ) → h < i → Known h) → Known i
  known_next i known y f t j bound e few =
      let total = solved b law R bounds i y bound in
      omega
      (arith, respond i y (b.w i + sum_to i (share b R i y)) (bounds i y bound).higher known (omega arith) (omega arith) f t j e few)

  all_below : (n i : ℕ) → i < n → Known i
  all_below zero i lt = absurd (omega arith)
  all_below (suc n) i lt = known_next i (λ h less. all_below n h (omega arith))

  pub in_bound : (i : ℕ) → Known i
  in_bound i = all_below (suc i) i (omega arith)

pub holds_in_slots : InSlots
holds_in_slots b law R bounds x i Q f t m above enough e few =
    omega
    (arith, respond b law R bounds x i (Q * b.S) Q above (λ h less. in_bound b law R bounds x h) (omega arith) (omega arith) f t m e few)

pub holds : InBound
holds b law R bounds x i y f t m bound e few = in_bound b law R bounds x i y f t m bound e few

pub gone : NeverOpen
gone b law R bounds x i y f t m u bound e spaced ahead =
    elim (cases_lt (Grants b x i f m) (b.w i)) [
      | inl few ↦
          let late = in_bound b law R bounds x i y f t m bound e few in
          let flow = x.known f i t e in
          let more : suc (f + m) * b.S ≤ (f + m + (b.w i - Grants b x i f m)) * b.S = mul-le-mul_right b.S (omega arith) in
          absurd
          (omega (arith, suc-mul (f + m) b.S, (bounds i y bound).due, law.due i flow, law.ends i flow))
      | inr all ↦ all
    ]
