-- The equation of a bound. Assumes nothing.
use Rattle.std.proofs.Common.{◌≡◌, ℕ, ◌+◌, ◌*◌, Bool, true, false, cond, Option, sym, refl, ◌∙◌, zero-mul}
use Rattle.timing.specs.Counts.{sum_to, ceil_div}
use Rattle.timing.specs.Model.{Table, jitter, share, delay}
use Rattle.timing.proofs.Sums.{sum_eq, sum_mul}

times : (t : Bool) (p s : ℕ) → cond t (p * s) 0 ≡ cond t p 0 * s
times true p s = refl
times false p s = sym (zero-mul s)

pub delays : (b : Table) (R : ℕ → Option ℕ) (i x : ℕ) → sum_to i (delay b R i x) ≡ sum_to i (share b R i x) * b.S
unfolding delay share
delays b R i x =
    sum_eq i (delay b R i x) (λ h. share b R i x h * b.S) (λ h lt. times (b.H h i) (ceil_div (x + jitter b R h i) (b.T h) * b.w h) b.S)
    ∙ sum_mul i b.S (share b R i x)
