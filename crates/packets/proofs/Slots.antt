-- What waits in each slot, from the releases alone. Assumes nothing.
use Rattle.std.proofs.Common.{◌≡◌, ℕ, zero, suc, ◌-◌, ◌<◌, Bool, not, ◌&&◌, ltb, Option, sym, refl, ap, ◌∙◌, ap₂, arith}
use mathlib.Core.Path.{fun_ext}
use Rattle.timing.specs.Counts.{some_to, one}
use Rattle.timing.specs.Model.{Table}
use Rattle.packets.specs.Runs.{waiting, before, left}
use Rattle.packets.specs.Calls.{granted}
use Rattle.packets.proofs.Arbiter.{granted_is}

-- the parts that wait as slot n begins
start : Table → (ℕ → ℕ → Option ℕ) → ℕ → ℕ → ℕ
start b rel zero i = 0
start b rel (suc n) i =
    waiting (rel n i) (b.w i) (start b rel n i) - one (granted b (λ k. ltb 0 (waiting (rel n k) (b.w k) (start b rel n k))) i)

module _ (b : Table) (rel : ℕ → ℕ → Option ℕ) where
  -- those that wait as slot n is arbitrated
  line : ℕ → ℕ → ℕ
  line n i = waiting (rel n i) (b.w i) (start b rel n i)

  -- who is granted in slot n
  pub winners : ℕ → ℕ → Bool
  winners n i = granted b (λ k. ltb 0 (line n k)) i

  start_is : (n i : ℕ) → before b.w rel winners n i ≡ start b rel n i
  unfolding before start winners line
  start_is zero i = refl
  start_is (suc n) i = ap (λ (r : ℕ). waiting (rel n i) (b.w i) r - one (winners n i)) (start_is n i)

  line_is : (n i : ℕ) → line n i ≡ left b.w rel winners n i
  unfolding left line
  line_is n i = ap (λ (r : ℕ). waiting (rel n i) (b.w i) r) (sym (start_is n i))

  -- what a run asks of them
  pub winners_are : (n i : ℕ) → winners n i ≡ (ltb 0 (left b.w rel winners n i) && not (some_to i (λ h. b.H h i && winners n h)))
  unfolding winners
  winners_are n i =
      granted_is b (λ k. ltb 0 (line n k)) i ∙ ap (λ (r : ℕ). ltb 0 r && not (some_to i (λ h. b.H h i && winners n h))) (line_is n i)

  -- they are what any list of those who want gives
  pub winners_from : (n : ℕ) (want : ℕ → Bool) → ((k : ℕ) → want k ≡ ltb 0 (left b.w rel winners n k)) → (i : ℕ) → granted b want i ≡ winners n i
  unfolding winners
  winners_from n want same i =
      ap (λ (f : ℕ → Bool). granted b f i) (fun_ext (λ k. same k ∙ ap (λ (r : ℕ). ltb 0 r) (sym (line_is n k))))

-- releases that agree in the slots below n
module _ (b : Table) (rel rel' : ℕ → ℕ → Option ℕ) where
  line_same : (n : ℕ) → ((i : ℕ) → start b rel n i ≡ start b rel' n i) → ((i : ℕ) → rel n i ≡ rel' n i) → line b rel n ≡ line b rel' n
  unfolding line
  line_same n old now-same = fun_ext (λ i. ap₂ (λ (o : Option ℕ) (r : ℕ). waiting o (b.w i) r) (now-same i) (old i))

  start_same : (n : ℕ) → ((k i : ℕ) → k < n → rel k i ≡ rel' k i) → (i : ℕ) → start b rel n i ≡ start b rel' n i
  unfolding start line
  start_same zero agree i = refl
  start_same (suc n) agree i =
      ap (λ (g : ℕ → ℕ). g i - one (granted b (λ k. ltb 0 (g k)) i))
      (line_same n (start_same n (λ k j lt. agree k j (omega arith))) (λ j. agree n j (omega arith)))

  pub before_same :
      (n : ℕ) → ((k i : ℕ) → k < n → rel k i ≡ rel' k i) → (i : ℕ) →
      before b.w rel (winners b rel) n i ≡ before b.w rel' (winners b rel') n i
  before_same n agree i = start_is b rel n i ∙ start_same n agree i ∙ sym (start_is b rel' n i)

  pub winners_same : (n : ℕ) → ((k i : ℕ) → k < n → rel k i ≡ rel' k i) → (k i : ℕ) → k < n → winners b rel k i ≡ winners b rel' k i
  unfolding winners
  winners_same n agree k i lt =
      ap (λ (g : ℕ → ℕ). granted b (λ j. ltb 0 (g j)) i)
      (line_same k (start_same k (λ j h less. agree j h (omega arith))) (λ j. agree k j lt))
