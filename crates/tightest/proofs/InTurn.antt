-- Numbers that are compared in turn have an order, in which only equal lists are level. Assumes nothing.
use Rattle.std.proofs.Common.{◌≡◌, ℕ, true, false, List, sym, refl, ap, ◌∙◌, subst, arith}
use Rattle.std.proofs.lemmas.Bool.{true≢false}
use Rattle.std.proofs.lemmas.Bool.Decides.{nat_tests}
use Rattle.std.proofs.lemmas.Cmp.{same_from_slice_cmp, nat_list_cmp_total, on_total}
use Rattle.std.proofs.lemmas.Map.Lookups.{exact_bytes}
use Rattle.std.specs.Cmp.Lexicographic.{slice_cmp}
use Rattle.std.specs.Ordering.{is_lt, nat_cmp, ordering_reverse}
use Rattle.std.specs.declared.cmp.Ordering.{Ordering}
use Rattle.std.specs.declared.cmp.Ordering.TheVariants.{Less, Equal, Greater}
use Rattle.tightest.specs.Numbers.{lower}
use Rattle.tightest.specs.Order.{comes_before}
use Rattle.tightest.proofs.Keeping.{Orders, orders}

-- it is the order of std's lists of numbers
pub in_turn : (xs ys : List ℕ) → comes_before (slice_cmp nat_cmp) xs ys ≡ lower xs ys
in_turn xs ys = same_from_slice_cmp nat_cmp is_lt lower refl (λ _ _. refl) (λ _ _. refl) (λ x y xs ys o h. grind (arith, nat_tests)) xs ys (slice_cmp nat_cmp xs ys) refl

-- items that are compared by their numbers have an order
pub by_numbers : {T : Type 0} (numbers : T → List ℕ) → Orders (λ (x y : T). lower (numbers x) (numbers y))
by_numbers numbers = subst Orders (λ i x y. in_turn (numbers x) (numbers y) i) (orders (on_total numbers nat_list_cmp_total))

-- of different lists one is lower
pub one_lower : (xs ys : List ℕ) → (xs ≡ ys → ⊥) → lower ys xs ≡ false → lower xs ys ≡ true
one_lower xs ys apart back = ranked (slice_cmp nat_cmp xs ys) refl
  where
    ranked : (o : Ordering) → slice_cmp nat_cmp xs ys ≡ o → lower xs ys ≡ true
    ranked Less is = sym (in_turn xs ys) ∙ ap is_lt is
    ranked Equal is = absurd (apart (exact_bytes xs ys is))
    ranked Greater is = absurd (true≢false (sym (ap is_lt (nat_list_cmp_total.antisymm ys xs ∙ ap ordering_reverse is)) ∙ in_turn ys xs ∙ back))
