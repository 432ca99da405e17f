-- One flow of a run: what waits, what is granted, and how many grants a window holds. Assumes nothing.
use Rattle.std.proofs.Common.{◌≡◌, ℕ, zero, suc, ◌+◌, ◌-◌, ◌<◌, ◌≤◌, Bool, true, not, ◌&&◌, ltb, ◌⊎◌, Some, None, Option, sym, refl, ap, ◌∙◌, inl, inr, add-zero, add-suc, arith}
use Rattle.std.proofs.lemmas.Bool.{cases_lt, cases_Bool, and_parts, and_cases, not-false, lt-ltb, ltb-true, both_ways}
use Rattle.timing.specs.Counts.{some_to, one}
use Rattle.timing.specs.Model.{Table}
use Rattle.packets.specs.Runs.{Run, waiting, before, left, grants}
use Rattle.timing.proofs.Options.{cases_option}
use Rattle.timing.proofs.Sums.{sum_zero, sum_suc, some_true, one_true, one_false}

pub waiting_none : (o : Option ℕ) (k r : ℕ) → o ≡ None → waiting o k r ≡ r
unfolding waiting
waiting_none o k r e = ap (λ (p : Option ℕ). waiting p k r) e

pub waiting_some : (o : Option ℕ) (t k r : ℕ) → o ≡ Some t → waiting o k r ≡ k
unfolding waiting
waiting_some o t k r e = ap (λ (p : Option ℕ). waiting p k r) e

pub grants_zero_of : (won : ℕ → ℕ → Bool) (i f : ℕ) → grants won i f 0 ≡ 0
unfolding grants
grants_zero_of won i f = sum_zero (λ k. one (won (f + k) i))

pub grants_suc_of : (won : ℕ → ℕ → Bool) (i f m : ℕ) → grants won i f (suc m) ≡ grants won i f m + one (won (f + m) i)
unfolding grants
grants_suc_of won i f m = sum_suc m (λ k. one (won (f + k) i))

module _ (b : Table) (rel : ℕ → ℕ → Option ℕ) (won : ℕ → ℕ → Bool) where
  pub left_none_of : (n i : ℕ) → rel n i ≡ None → left b.w rel won n i ≡ before b.w rel won n i
  unfolding left
  left_none_of n i e = waiting_none (rel n i) (b.w i) (before b.w rel won n i) e

  pub left_some_of : (n i t : ℕ) → rel n i ≡ Some t → left b.w rel won n i ≡ b.w i
  unfolding left
  left_some_of n i t e = waiting_some (rel n i) t (b.w i) (before b.w rel won n i) e

  pub before_suc_of :
      (n i : ℕ) → won n i ≡ (ltb 0 (left b.w rel won n i) && not (some_to i (λ h. b.H h i && won n h))) →
      before b.w rel won (suc n) i + one (won n i) ≡ left b.w rel won n i
  before_suc_of n i arb =
      let e : before b.w rel won (suc n) i ≡ left b.w rel won n i - one (won n i) = unfold before left in refl in
      elim (cases_Bool (won n i)) [
        | inl yes-won ↦
            let test = and_parts (ltb 0 (left b.w rel won n i)) (not (some_to i (λ h. b.H h i && won n h))) (sym arb ∙ yes-won) in
            omega (arith, one_true (won n i) yes-won, ltb-true 0 (left b.w rel won n i) test.0)
        | inr not-won ↦ omega (arith, one_false (won n i) not-won)
      ]

module _ (b : Table) (x : Run b) where
  -- what waits of flow i in slot n
  abbrev pub Before : ℕ → ℕ → ℕ
  Before n i = before b.w x.rel x.won n i

  abbrev pub Left : ℕ → ℕ → ℕ
  Left n i = left b.w x.rel x.won n i

  abbrev pub Grants : ℕ → ℕ → ℕ → ℕ
  Grants i f m = grants x.won i f m

  pub left_none : (n i : ℕ) → x.rel n i ≡ None → Left n i ≡ Before n i
  left_none = left_none_of b x.rel x.won

  pub left_some : (n i t : ℕ) → x.rel n i ≡ Some t → Left n i ≡ b.w i
  left_some = left_some_of b x.rel x.won

  pub before_suc : (n i : ℕ) → Before (suc n) i + one (x.won n i) ≡ Left n i
  before_suc n i = before_suc_of b x.rel x.won n i (x.arbitrated n i)

  pub before_zero : (i : ℕ) → Before 0 i ≡ 0
  unfolding before
  before_zero i = refl

  -- something waits: the flow is granted, or a higher one is
  pub served : (n i : ℕ) → 0 < Left n i → (x.won n i ≡ true) ⊎ ((h : ℕ) × (h < i) × (b.H h i ≡ true) × (x.won n h ≡ true))
  served n i pos =
      elim (cases_Bool (x.won n i)) [
        | inl e ↦ inl e
        | inr e ↦
            let blocked : ℕ → Bool = λ h. b.H h i && x.won n h in
            elim (and_cases (ltb 0 (Left n i)) (not (some_to i blocked)) (sym (x.arbitrated n i) ∙ e)) [
              | inl no-wait ↦ absurd (both_ways (ltb 0 (Left n i)) no-wait (lt-ltb 0 (Left n i) pos))
              | inr stop ↦
                  let r = some_true i blocked (not-false (some_to i blocked) stop) in
                  let p = and_parts (b.H r.0 i) (x.won n r.0) r.2 in
                  inr (r.0, r.1, p.0, p.1)
            ]
      ]

  pub grants_zero : (i f : ℕ) → Grants i f 0 ≡ 0
  grants_zero = grants_zero_of x.won

  pub grants_suc : (i f m : ℕ) → Grants i f (suc m) ≡ Grants i f m + one (x.won (f + m) i)
  grants_suc = grants_suc_of x.won

  -- a packet with fewer than w grants: the others wait
  pub packet_left : (i f t m : ℕ) → x.rel f i ≡ Some t → Grants i f m < b.w i → Left (f + m) i + Grants i f m ≡ b.w i
  packet_left i f t zero e h = rw add-zero (omega (arith, left_some f i t e, grants_zero i f))
  packet_left i f t (suc m) e h =
      let more = grants_suc i f m in
      let old : Left (f + m) i + Grants i f m ≡ b.w i = packet_left i f t m e (omega arith) in
      let step = before_suc (f + m) i in
      rw add-suc (elim (cases_option (x.rel (suc (f + m)) i)) [
        | inl none ↦ omega (arith, left_none (suc (f + m)) i none)
        | inr some ↦ omega (arith, x.free (suc (f + m)) i some.0 some.1)
      ])

  -- what waits as a slot begins is of one packet, released before
  pub packet_of : (n i : ℕ) → 0 < Before n i →
      (f : ℕ) × (t : ℕ) × (m : ℕ) × (f < n) × (f + m ≡ n) × (x.rel f i ≡ Some t) × (Grants i f m + Before n i ≡ b.w i)
  packet_of zero i pos = absurd (omega (arith, before_zero i))
  packet_of (suc n) i pos =
      let step = before_suc n i in
      elim (cases_option (x.rel n i)) [
        | inl none ↦
            let same = left_none n i none in
            let r = packet_of n i (omega arith) in
            let at : one (x.won (r.0 + r.2) i) ≡ one (x.won n i) = ap (λ (k : ℕ). one (x.won k i)) r.4 in
            (r.0, r.1, suc r.2, omega arith, omega arith, r.5, omega (arith, grants_suc i r.0 r.2))
        | inr some ↦
            let at : one (x.won (n + 0) i) ≡ one (x.won n i) = ap (λ (k : ℕ). one (x.won k i)) (add-zero n) in
            (n, some.0, 1, omega arith, omega arith, some.1, omega (arith, grants_suc i n 0, grants_zero i n, left_some n i some.0 some.1))
      ]

  pub before_le : (n i : ℕ) → Before n i ≤ b.w i
  before_le n i =
      elim (cases_lt 0 (Before n i)) [
        | inl pos ↦ let p = packet_of n i pos in omega arith
        | inr none ↦ omega arith
      ]
