-- What is kept of items that are handed in in turn is the tightest of them. Assumes nothing.
use Rattle.std.proofs.Common.{◌≡◌, ℕ, zero, suc, ◌<◌, Bool, true, false, List, [], ◌∷◌, length, get_or, Some, None, Option, sym, refl, ap, ◌∙◌, arith}
use Rattle.std.proofs.lemmas.Bool.{cond_both}
use Rattle.std.proofs.lemmas.Cmp.{tied_itself, upto}
use Rattle.std.specs.Cmp.{IsTotalOrder}
use Rattle.std.specs.Ordering.{is_lt, is_gt, ordering_reverse}
use Rattle.std.specs.declared.cmp.Ordering.{Ordering}
use Rattle.std.specs.declared.cmp.Ordering.TheVariants.{Less, Equal, Greater}
use Rattle.tightest.specs.Order.{comes_before, tightest_from, tightest_of, Leads, Tells}

-- the laws of an order in which different items may be level
pub record Orders {T : Type 0} (before : T → T → Bool) : Type 0 where
  pub never : (x : T) → before x x ≡ false
  pub follows : (x y z : T) → before x y ≡ true → before y z ≡ true → before x z ≡ true
  pub splits : (x y z : T) → before x y ≡ false → before y z ≡ false → before x z ≡ false

is_less : (o : Ordering) → is_lt o ≡ true → o ≡ Less
is_less Less t = refl
is_less Equal t = absurd cc
is_less Greater t = absurd cc

is_back : (o : Ordering) → is_lt (ordering_reverse o) ≡ is_gt o
is_back Less = refl
is_back Equal = refl
is_back Greater = refl

-- every total order has them
pub orders : {T : Type 0} {cmp : T → T → Ordering} → IsTotalOrder cmp → Orders (comes_before cmp)
orders {T} {cmp} o =
    let back : (x y : T) → comes_before cmp x y ≡ is_gt (cmp y x) = λ x y. ap is_lt (o.antisymm x y) ∙ is_back (cmp y x) in
    record {
      never = λ x. ap is_lt (tied_itself o x);
      follows = λ x y z s t. ap is_lt (o.trans x y z (is_less (cmp x y) s) (is_less (cmp y z) t));
      splits = λ x y z s t. back x z ∙ upto o z y x (sym (back y z) ∙ t) (sym (back x y) ∙ s);
    }

nothing_below : {P : Type 0} (k : ℕ) → k < 0 → P
nothing_below k l = absurd (omega arith)

-- what is told of some items is told of one more in front, if it is so of each answer
one_more : {T : Type 0} (before : T → T → Bool) (a : T) (xs : List T) (b : T) (ys : List T) → ((y : T) → Leads before (a ∷ xs) y → Leads before (b ∷ ys) y) → (r : Option T) → Tells before (a ∷ xs) r → Tells before (b ∷ ys) r
one_more before a xs b ys f None e = let z : suc (length xs) ≡ 0 = ap length e in absurd (omega arith)
one_more before a xs b ys f (Some y) h = f y h

module _ {T : Type 0} (before : T → T → Bool) (o : Orders before) where
  lowers : (x y z : T) → before x y ≡ true → before x z ≡ false → before y z ≡ false
  lowers x y z t f = grind (arith, o.follows x y z)

  lifts : (x y z : T) → before x z ≡ true → before x y ≡ false → before y z ≡ true
  lifts x y z t f = grind (arith, o.splits x y z)

  passes : (x y z : T) → before x z ≡ true → before y z ≡ false → before x y ≡ true
  passes x y z t f = grind (arith, o.splits x y z)

  -- b is all there is
  alone : (b : T) → Leads before (b ∷ []) b
  alone b = record { place = 0; inside = omega arith; is = λ d. refl; none_before = none; earliest = λ k d. nothing_below k }
    where
      none : (k : ℕ) (d : T) → k < 1 → before (get_or (b ∷ []) k d) b ≡ false
      none zero d l = o.never b
      none (suc k) d l = absurd (omega arith)

  -- x comes before b, the best so far, and is kept
  takes : (b x : T) (xs : List T) → before x b ≡ true → (y : T) → Leads before (x ∷ xs) y → Leads before (b ∷ x ∷ xs) y
  takes b x xs t y h =
      record { place = suc h.place; inside = let i = h.inside in omega arith; is = h.is; none_before = none; earliest = first }
    where
      none : (k : ℕ) (d : T) → k < length (b ∷ x ∷ xs) → before (get_or (b ∷ x ∷ xs) k d) y ≡ false
      none zero d l = lowers x b y t (h.none_before 0 d (omega arith))
      none (suc k) d l = h.none_before k d (omega arith)

      first : (k : ℕ) (d : T) → k < suc h.place → before y (get_or (b ∷ x ∷ xs) k d) ≡ true
      first zero d l = lifts x y b t (h.none_before 0 d (omega arith))
      first (suc k) d l = h.earliest k d (omega arith)

  -- x does not come before b, and b is kept
  keeps : (b x : T) (xs : List T) → before x b ≡ false → (y : T) → Leads before (b ∷ xs) y → Leads before (b ∷ x ∷ xs) y
  keeps b x xs f y h = at h.place h.inside h.is h.earliest
    where
      none : (k : ℕ) (d : T) → k < length (b ∷ x ∷ xs) → before (get_or (b ∷ x ∷ xs) k d) y ≡ false
      none zero d l = h.none_before 0 d (omega arith)
      none (suc zero) d l = o.splits x b y f (h.none_before 0 d (omega arith))
      none (suc (suc k)) d l = h.none_before (suc k) d (omega arith)

      first : (p : ℕ) → ((k : ℕ) (d : T) → k < suc p → before y (get_or (b ∷ xs) k d) ≡ true) → (k : ℕ) (d : T) → k < suc (suc p) → before y (get_or (b ∷ x ∷ xs) k d) ≡ true
      first p e zero d l = e 0 d (omega arith)
      first p e (suc zero) d l = passes y x b (e 0 d (omega arith)) f
      first p e (suc (suc k)) d l = e (suc k) d (omega arith)

      at : (p : ℕ) → p < length (b ∷ xs) → ((d : T) → get_or (b ∷ xs) p d ≡ y) → ((k : ℕ) (d : T) → k < p → before y (get_or (b ∷ xs) k d) ≡ true) → Leads before (b ∷ x ∷ xs) y
      at zero l i e = record { place = 0; inside = omega arith; is = i; none_before = none; earliest = λ k d. nothing_below k }
      at (suc p) l i e = record { place = suc (suc p); inside = omega arith; is = i; none_before = none; earliest = first p e }

  tells_from : (b : T) (xs : List T) → Tells before (b ∷ xs) (tightest_from before (Some b) xs)
  tells_from b [] = alone b
  tells_from b (x ∷ xs) =
      cond_both (before x b) (Some x) (Some b) (λ (r : Option T). Tells before (b ∷ x ∷ xs) (tightest_from before r xs))
      (λ t. one_more before x xs b (x ∷ xs) (takes b x xs t) (tightest_from before (Some x) xs) (tells_from x xs))
      (λ f. one_more before b xs b (x ∷ xs) (keeps b x xs f) (tightest_from before (Some b) xs) (tells_from b xs))

  pub tells : (xs : List T) → Tells before xs (tightest_of before xs)
  tells [] = refl
  tells (x ∷ xs) = tells_from x xs
