-- What an arbitration grants. Assumes nothing.
use Rattle.std.proofs.Common.{◌≡◌, ℕ, zero, suc, ◌<◌, Bool, not, ◌&&◌, ◌||◌, eqb, refl, ap, ◌∙◌, inl, inr, arith}
use mathlib.Core.Path.{fun_ext}
use Rattle.std.proofs.lemmas.Bool.{cases_lt, cond-true, cond-false, eq-eqb, ne_eqb}
use Rattle.timing.specs.Counts.{some_to}
use Rattle.timing.specs.Model.{Table}
use Rattle.packets.specs.Calls.{chosen, granted, Decided}

pub some_eq : (n : ℕ) (p q : ℕ → Bool) → ((k : ℕ) → k < n → p k ≡ q k) → some_to n p ≡ some_to n q
unfolding some_to
some_eq zero p q h = refl
some_eq (suc n) p q h =
    ap (λ (t : Bool). t || p n) (some_eq n p q (λ k lt. h k (omega arith))) ∙ ap (λ (t : Bool). some_to n q || t) (h n (omega arith))

module _ (b : Table) (want : ℕ → Bool) where
  pub chosen_at : (i : ℕ) → granted b want i ≡ (want i && not (some_to i (λ h. b.H h i && chosen b want i h)))
  unfolding granted chosen
  chosen_at i =
      cond-true (eqb i i) (want i && not (some_to i (λ h. b.H h i && chosen b want i h))) (chosen b want i i) (eq-eqb i i refl)

  pub chosen_below : (n h : ℕ) → h < n → chosen b want n h ≡ granted b want h
  unfolding granted chosen
  chosen_below zero h lt = absurd (omega arith)
  chosen_below (suc n) h lt =
      elim (cases_lt h n) [
        | inl less ↦
            cond-false (eqb h n) (want n && not (some_to n (λ g. b.H g n && chosen b want n g))) (chosen b want n h) (ne_eqb h n (λ e. omega arith))
            ∙ chosen_below n h less
        | inr more ↦
            let same : n ≡ h = omega arith in
            ap (λ (k : ℕ). chosen b want (suc k) h) same
      ]

  -- a flow is granted exactly when it wants and no flow above that shares a link with it is granted
  pub granted_is : (i : ℕ) → granted b want i ≡ (want i && not (some_to i (λ h. b.H h i && granted b want h)))
  granted_is i =
      chosen_at i
      ∙ ap (λ (t : Bool). want i && not t)
      (some_eq i (λ h. b.H h i && chosen b want i h) (λ h. b.H h i && granted b want h)
      (λ h lt. ap (λ (t : Bool). b.H h i && t) (chosen_below i h lt)))

pub decided : Decided
decided b above want i = granted_is b want i

-- the grants depend only on who wants
pub granted_same : (b : Table) (want want' : ℕ → Bool) → ((k : ℕ) → want k ≡ want' k) → (i : ℕ) → granted b want i ≡ granted b want' i
granted_same b want want' same i = ap (λ (f : ℕ → Bool). granted b f i) (fun_ext same)
