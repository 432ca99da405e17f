-- How many grants of one flow a window of slots can hold. Assumes nothing.
use Rattle.std.proofs.Common.{◌≡◌, ℕ, zero, suc, ◌+◌, ◌-◌, ◌*◌, ◌<◌, ◌≤◌, ◌⊎◌, Some, ap, inl, inr, add-zero, add-suc, mul-le-mul_right, suc-mul, add-mul, zero-mul, arith}
use Rattle.std.proofs.lemmas.Bool.{cases_lt}
use Rattle.timing.specs.Counts.{ceil_div}
use Rattle.timing.specs.Model.{Table, Flow, Lawful}
use Rattle.packets.specs.Runs.{Run}
use Rattle.timing.proofs.Ceil.{ceil_above}
use Rattle.timing.proofs.Options.{cases_option}
use Rattle.timing.proofs.Sums.{one_le}
use Rattle.packets.proofs.Flows.{Before, Grants, left_none, left_some, before_suc, grants_zero, grants_suc, packet_of, before_le}

-- the arithmetic of a window that begins with r parts of a packet waiting and ends with s parts of the k + 1st after it
carry_few :
    (a r c t₀ y j K S T k t f e s m G : ℕ) → (a + r) * S + c ≤ t₀ + y → y ≤ j + (K * S + c) → t₀ + T + k * T ≤ t + 0 → t < f * S + e →
    K + f ≤ s + (a + m) → G + s ≡ r + suc k * K → e ≤ S → K * S ≤ T → 0 < T → 0 < r → r ≤ K → s ≤ K → G ≤ ceil_div (m * S + j) T * K
carry_few a r c t₀ y j K S T k t f e s m G known wide later ahead last sum ends room pos waits rK sK =
    let slots : (K + f) * S ≤ (s + (a + m)) * S = mul-le-mul_right S last in
    let short : r * S + T + k * T < s * S + m * S + e + j =
    omega (arith, add-mul a r S, add-mul K f S, add-mul s (a + m) S, add-mul a m S)
    in
    elim (cases_lt s r) [
      | inl more ↦
          let one_more : suc s * S ≤ r * S = mul-le-mul_right S more in
          let below : suc k * T < m * S + j = omega (arith, suc-mul s S, suc-mul k T) in
          let few : suc (suc k) ≤ ceil_div (m * S + j) T = ceil_above (suc k) (m * S + j) T pos below in
          omega (arith, mul-le-mul_right K few, suc-mul (suc k) K)
      | inr less ↦
          let part : 1 * S ≤ r * S = mul-le-mul_right S waits in
          let whole : s * S ≤ K * S = mul-le-mul_right S sK in
          let below : k * T < m * S + j = omega arith in
          let few : suc k ≤ ceil_div (m * S + j) T = ceil_above k (m * S + j) T pos below in
          omega (arith, mul-le-mul_right K few)
    ]

-- k + 1 packets of flow h were released in the m slots from a on, the last of them into slot f at t.
-- Every release there is at v - u or later.
pub record Chain (b : Table) (x : Run b) (h a u v m : ℕ) : Type 0 where
  pub k : ℕ
  pub f : ℕ
  pub t : ℕ
  pub inside : f < a + m
  pub released : x.rel f h ≡ Some t
  pub later : v + k * b.T h ≤ t + u
  pub sum : Grants b x h a m + Before b x (a + m) h ≡ Before b x a h + suc k * b.w h
  pub last : b.w h + f ≤ Before b x (a + m) h + (a + m)

module _ (b : Table) (x : Run b) (h a u v : ℕ) (early : (f t : ℕ) → a ≤ f → x.rel f h ≡ Some t → v ≤ t + u) where
  pub counted : (m : ℕ) → (Grants b x h a m + Before b x (a + m) h ≡ Before b x a h) ⊎ Chain b x h a u v m
  counted zero = inl (rw add-zero (omega (arith, grants_zero b x h a)))
  counted (suc m) =
      let more = grants_suc b x h a m in
      let step = before_suc b x (a + m) h in
      let least = one_le (x.won (a + m) h) in
      let shift : a + suc m ≡ suc (a + m) = add-suc a m in
      let then : Before b x (a + suc m) h ≡ Before b x (suc (a + m)) h = ap (λ (n : ℕ). Before b x n h) shift in
      elim (cases_option (x.rel (a + m) h)) [
        | inl none ↦
            let same = left_none b x (a + m) h none in
            elim (counted m) [
              | inl e ↦ inl (omega arith)
              | inr q ↦
                  inr
                  (record {
                    k = q.k;
                    f = q.f;
                    t = q.t;
                    inside = omega arith;
                    released = q.released;
                    later = q.later;
                    sum = omega arith;
                    last = omega arith;
                  })
            ]
        | inr some ↦
            let full = left_some b x (a + m) h some.0 some.1 in
            let empty = x.free (a + m) h some.0 some.1 in
            elim (counted m) [
              | inl e ↦
                  inr
                  (record {
                    k = 0;
                    f = a + m;
                    t = some.0;
                    inside = omega arith;
                    released = some.1;
                    later = omega (arith, zero-mul (b.T h), early (a + m) some.0 (omega arith) some.1);
                    sum = omega (arith, suc-mul 0 (b.w h), zero-mul (b.w h));
                    last = omega arith;
                  })
              | inr q ↦
                  inr
                  (record {
                    k = suc q.k;
                    f = a + m;
                    t = some.0;
                    inside = omega arith;
                    released = some.1;
                    later = omega (arith, suc-mul q.k (b.T h), x.apart q.f (a + m) h q.t some.0 q.inside q.released some.1);
                    sum = omega (arith, suc-mul (suc q.k) (b.w h));
                    last = omega arith;
                  })
            ]
      ]

module _ (b : Table) (law : Lawful b) (x : Run b) (h a : ℕ) (is_flow : Flow b h) where
  -- nothing waits as the window begins
  pub fresh : Before b x a h ≡ 0 → 0 < b.T h → (m : ℕ) → Grants b x h a m ≤ ceil_div (m * b.S) (b.T h) * b.w h
  fresh none pos m =
      let early : (f t : ℕ) → a ≤ f → x.rel f h ≡ Some t → a * b.S + b.e h ≤ t + b.S =
      λ f t le e. omega (arith, (x.on_time f h t e).0, mul-le-mul_right b.S le)
      in
      elim (counted b x h a b.S (a * b.S + b.e h) early m) [
        | inl e ↦ omega arith
        | inr q ↦
            let ahead = (x.on_time q.f h q.t q.released).1 in
            let inside : suc q.f * b.S ≤ (a + m) * b.S = mul-le-mul_right b.S q.inside in
            let short : q.k * b.T h < m * b.S = omega (arith, suc-mul q.f b.S, add-mul a m b.S) in
            let few : suc q.k ≤ ceil_div (m * b.S) (b.T h) = ceil_above q.k (m * b.S) (b.T h) pos short in
            omega (arith, mul-le-mul_right (b.w h) few)
      ]

  -- at most one packet's parts, and none in a window of no slot
  single : (j : ℕ) → 0 < b.T h → (m : ℕ) → Grants b x h a m ≤ b.w h → Grants b x h a m ≤ ceil_div (m * b.S + j) (b.T h) * b.w h
  single j pos zero le = omega (arith, grants_zero b x h a)
  single j pos (suc m) le =
      let some : 0 * b.T h < suc m * b.S + j = omega (arith, zero-mul (b.T h), suc-mul m b.S, law.slot) in
      let few : 1 ≤ ceil_div (suc m * b.S + j) (b.T h) = ceil_above 0 (suc m * b.S + j) (b.T h) pos some in
      omega (arith, mul-le-mul_right (b.w h) few)

  -- a packet waits as the window begins; j is how far its flow may be pushed back
  pub carried :
      (y j : ℕ) → ((f t m : ℕ) → x.rel f h ≡ Some t → Grants b x h f m < b.w h → (f + m + (b.w h - Grants b x h f m)) * b.S + b.c h ≤ t + y) →
      y ≤ j + (b.w h * b.S + b.c h) → b.w h * b.S ≤ b.T h → 0 < b.T h → 0 < Before b x a h → (m : ℕ) →
      Grants b x h a m ≤ ceil_div (m * b.S + j) (b.T h) * b.w h
  carried y j bound wide room pos waits m =
      let p = packet_of b x a h waits in
      let old : (p.0 + p.2 + (b.w h - Grants b x h p.0 p.2)) * b.S + b.c h ≤ p.1 + y = bound p.0 p.1 p.2 p.5 (omega arith) in
      let r = Before b x a h in
      let same : p.0 + p.2 + (b.w h - Grants b x h p.0 p.2) ≡ a + r = omega arith in
      let known : (a + r) * b.S + b.c h ≤ p.1 + y = rw same at old in
      let early : (f t : ℕ) → a ≤ f → x.rel f h ≡ Some t → p.1 + b.T h ≤ t + 0 =
      λ f t le e. omega (arith, x.apart p.0 f h p.1 t (omega arith) p.5 e)
      in
      elim (counted b x h a 0 (p.1 + b.T h) early m) [
        | inl e ↦ single j pos m (omega (arith, before_le b x a h))
        | inr q ↦
            carry_few a r (b.c h) p.1 y j (b.w h) b.S (b.T h) q.k q.t q.f (b.e h) (Before b x (a + m) h) m (Grants b x h a m) known wide
            q.later (x.on_time q.f h q.t q.released).1 q.last q.sum (law.ends h is_flow) room pos waits (before_le b x a h)
            (before_le b x (a + m) h)
      ]
