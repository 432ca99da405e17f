-- What the flows above take from a flow, flow by flow. Assumes nothing.
use Rattle.std.proofs.Common.{◌≡◌, ℕ, ◌+◌, ◌*◌, Bool, true, false, cond, eqb, List, [], ◌∷◌, ◌++◌, Some, None, sum_by, Option, ap, ◌∙◌, mul_assoc, add-one, arith}
use Rattle.std.proofs.lemmas.List.Sums.{sum_by_push}
use Rattle.std.proofs.lemmas.Bool.{cond-true, cond-false}
use Rattle.staircase.specs.declared.term.Term.{Term}
use Rattle.staircase.specs.Terms.{charge, seen, term_for}
use Rattle.timing.specs.Counts.{sum_to, ceil_div}
use Rattle.timing.specs.Model.{Table, jitter, delay}
use Rattle.timing.proofs.Sums.{sum_zero, sum_suc}

pub sum_next : (n : ℕ) (f : ℕ → ℕ) → sum_to (n + 1) f ≡ sum_to n f + f n
sum_next n f = ap (λ k. sum_to k f) (add-one n) ∙ sum_suc n f

module _ (b : Table) (R : ℕ → Option ℕ) (i x : ℕ) where
  pub delay_none : (h : ℕ) → b.H h i ≡ false → delay b R i x h ≡ 0
  unfolding delay
  delay_none h e = cond-false (b.H h i) (ceil_div (x + jitter b R h i) (b.T h) * b.w h * b.S) 0 e

  delay_some : (h : ℕ) → b.H h i ≡ true → delay b R i x h ≡ ceil_div (x + jitter b R h i) (b.T h) * b.w h * b.S
  unfolding delay
  delay_some h e = cond-true (b.H h i) (ceil_div (x + jitter b R h i) (b.T h) * b.w h * b.S) 0 e

  -- the sum over the flows before the first
  pub delays_first : b.H 0 i ≡ false → 0 ≡ sum_to (0 + 1) (delay b R i x)
  delays_first e = omega (arith, sum_next 0 (delay b R i x), sum_zero (delay b R i x), delay_none 0 e)

  -- a flow that shares no link takes nothing
  pub delays_pass : (h : ℕ) → b.H h i ≡ false → sum_to (h + 1) (delay b R i x) ≡ sum_to h (delay b R i x)
  delays_pass h e = omega (arith, sum_next h (delay b R i x), delay_none h e)

  charged : (t : Term) (j d w : ℕ) → seen (Some t) ≡ term_for j d w → charge x t ≡ ceil_div (x + j) d * w
  unfolding charge
  charged t j d w e = by (eqb d 0) e
    where
      by : (z : Bool) → seen (Some t) ≡ cond z None (Some (j, d, w)) → ceil_div (x + t.jitter) t.separation * t.cost ≡ ceil_div (x + j) d * w
      by true same = let z : ◌≡◌ {A = ℕ} 0 1 = cc in absurd (omega arith)
      by false same =
          let all : ◌≡◌ {A = ℕ × ℕ × ℕ} (t.jitter, t.separation, t.cost) (j, d, w) = cc in
          ap (λ (p : ℕ × ℕ × ℕ). ceil_div (x + p.0) p.1 * p.2) all

  -- a flow that shares one takes what its term charges
  pub delays_more :
      (h : ℕ) (t : Term) (ts : List Term) → b.H h i ≡ true → seen (Some t) ≡ term_for (jitter b R h i) (b.T h) (b.w h * b.S) →
      sum_by (charge x) ts ≡ sum_to h (delay b R i x) → sum_by (charge x) (ts ++ (t ∷ [])) ≡ sum_to (h + 1) (delay b R i x)
  delays_more h t ts shares is old =
      let n = ceil_div (x + jitter b R h i) (b.T h) in
      omega (
        arith,
        sum_by_push (charge x) ts t,
        sum_next h (delay b R i x),
        delay_some h shares,
        charged t (jitter b R h i) (b.T h) (b.w h * b.S) is,
        mul_assoc n (b.w h) b.S,
        old,
      )
