-- What a bound says of a flow: it holds the flow's own parts, and all that the flows above can take. Assumes nothing.
use Rattle.std.proofs.Common.{◌≡◌, ℕ, suc, ◌+◌, ◌-◌, ◌*◌, ◌≤◌, false, Some, Option, ap, ◌∙◌, suc-mul, add-mul, arith}
use Rattle.std.proofs.lemmas.Bool.{cond-false}
use Rattle.timing.specs.Counts.{sum_to}
use Rattle.timing.specs.Model.{Table, Flow, Lawful, Bounds, within, figure, alone, jitter, share, demand}
use Rattle.timing.proofs.Equation.{delays}

module _ (b : Table) (law : Lawful b) (R : ℕ → Option ℕ) (bounds : Bounds b R) where
  pub jitter_some : (h i y : ℕ) → R h ≡ Some y → within b h i ≡ false → jitter b R h i ≡ y - alone b h - b.S + b.pause
  unfolding jitter figure
  jitter_some h i y known e =
      cond-false (within b h i) 0 (figure (R h) - alone b h - b.S + b.pause) e
      ∙ ap (λ (o : Option ℕ). figure o - alone b h - b.S + b.pause) known

  pub alone_is : (i : ℕ) → Flow b i → b.S + alone b i ≡ b.w i * b.S + b.c i
  unfolding alone
  alone_is i flow =
      let pos = law.parts i flow in
      let same : suc (b.w i - 1) ≡ b.w i = omega arith in
      omega (arith, suc-mul (b.w i - 1) b.S, ap (λ (n : ℕ). n * b.S) same)

  -- a bound is no less than the packet's own parts
  pub wide_enough : (i y : ℕ) → R i ≡ Some y → b.S - b.e i + (b.w i * b.S + b.c i) ≤ y
  unfolding demand
  wide_enough i y e = let q = bounds i y e in omega (arith, q.solves, alone_is i q.flow)

  pub solved : (i y : ℕ) → R i ≡ Some y → y ≡ (b.S - b.e i) + b.c i + (b.w i + sum_to i (share b R i y)) * b.S
  unfolding demand
  solved i y e =
      let q = bounds i y e in
      omega (arith, q.solves, alone_is i q.flow, delays b R i y, add-mul (b.w i) (sum_to i (share b R i y)) b.S)
