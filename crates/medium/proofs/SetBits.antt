-- Setting one bit of a number by `or`: that bit is set after it, and the others are as they were.
use Rattle.std.proofs.Common.{◌≡◌, ℕ, zero, suc, ◌+◌, ◌-◌, ◌*◌, ◌/◌, ◌%◌, ◌^◌, ◌<◌, ◌≤◌, true, false, eqb, refl, ap, ◌∙◌, ⊎_elim, mod-lt, mul-div_cancel, arith, pow_pos, pow-add}
use native.Mathlib.Nat.{div_self, div-eq_of_lt, mul-mod_right, zero-div, pow-succ'}
use lib.Bits.{bit_or, or_shr, or_mod, or_zero_r}
use lib.Pow.{pow-lt}
use Rattle.std.proofs.lemmas.Bool.{cases_lt}
use Rattle.medium.specs.Pulls.{bit_at}

or_one : (x : ℕ) → x < 2 → bit_or x 1 ≡ 1
or_one zero l = refl
or_one (suc zero) l = refl
or_one (suc (suc x)) l = absurd (omega arith)

-- The bit that is set.
pub bit_same : (w b : ℕ) → bit_at (bit_or w (2 ^ b)) b ≡ true
bit_same w b =
    ap (λ n. eqb (n % 2) 1) (or_shr w (2 ^ b) b)
    ∙ ap (λ n. eqb (bit_or (w / 2 ^ b) n % 2) 1) (div_self (pow_pos b))
    ∙ ap (λ n. eqb n 1) (or_mod (w / 2 ^ b) 1 1)
    ∙ ap (λ n. eqb n 1) (or_one (w / 2 ^ b % 2) (mod-lt (w / 2 ^ b) (omega arith)))

power_above : (b c : ℕ) → c < b → 2 ^ b / 2 ^ c % 2 ≡ 0
power_above b c l =
    let d = b - c - 1 in
    let sum : b ≡ suc d + c = omega arith in
    let split : 2 ^ b ≡ (2 * 2 ^ d) * 2 ^ c = ap (λ n. 2 ^ n) sum ∙ pow-add 2 (suc d) c ∙ ap (λ n. n * 2 ^ c) (pow-succ' 2 d) in
    ap (λ n. n / 2 ^ c % 2) split ∙ ap (λ n. n % 2) (mul-div_cancel (2 * 2 ^ d) (pow_pos c)) ∙ mul-mod_right 2 (2 ^ d)

power_below : (b c : ℕ) → b < c → 2 ^ b / 2 ^ c % 2 ≡ 0
power_below b c l = ap (λ n. n % 2) (div-eq_of_lt (pow-lt l))

-- The other bits.
pub bit_other : (w b c : ℕ) → (c ≡ b → ⊥) → bit_at (bit_or w (2 ^ b)) c ≡ bit_at w c
bit_other w b c ne =
    let none : 2 ^ b / 2 ^ c % 2 ≡ 0 = ⊎_elim (λ (l : c < b). power_above b c l) (λ (l : b ≤ c). power_below b c (omega arith)) (cases_lt c b) in
    ap (λ n. eqb (n % 2) 1) (or_shr w (2 ^ b) c)
    ∙ ap (λ n. eqb n 1) (or_mod (w / 2 ^ c) (2 ^ b / 2 ^ c) 1)
    ∙ ap (λ n. eqb (bit_or (w / 2 ^ c % 2) n) 1) none
    ∙ ap (λ n. eqb n 1) (or_zero_r (w / 2 ^ c % 2))

-- A number without bits.
pub bit_zero : (b : ℕ) → bit_at 0 b ≡ false
bit_zero b = ap (λ n. eqb (n % 2) 1) (zero-div (2 ^ b))
