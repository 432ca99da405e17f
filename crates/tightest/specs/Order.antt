-- The tightest of a list of items, by an order that says which comes before which. Assumes nothing.
--   comes_before cmp x y: x comes strictly before y, by an order that compares two items
--   tighter before best x: what is kept of the best so far and one item more
--   tightest_from before best xs: what is kept of the best so far and the items, in their order
--   tightest_of before xs: the tightest of the items
--   Leads before xs x: x is the earliest of the items that none comes before
--   Tells before xs r: r is that item, or none of no items
use Rattle.std.specs.Prelude.{◌≡◌, ℕ, ◌<◌, Bool, true, false, cond, List, [], length, Some, None, Option, slice_index_or}
use Rattle.std.specs.declared.cmp.Ordering.{Ordering}
use Rattle.std.specs.Ordering.{is_lt}
use Rattle.std.specs.List.{fold}

abbrev pub comes_before : {T : Type 0} → (T → T → Ordering) → T → T → Bool
comes_before cmp x y = is_lt (cmp x y)

abbrev pub tighter : {T : Type 0} → (T → T → Bool) → Option T → T → Option T
tighter before None x = Some x
tighter before (Some best) x = cond (before x best) (Some x) (Some best)

abbrev pub tightest_from : {T : Type 0} → (T → T → Bool) → Option T → List T → Option T
tightest_from before best xs = fold (tighter before) best xs

abbrev pub tightest_of : {T : Type 0} → (T → T → Bool) → List T → Option T
tightest_of before xs = tightest_from before None xs

-- it stands at a place in the list, no item comes before it, and it comes before every item that was handed in earlier
pub record Leads {T : Type 0} (before : T → T → Bool) (xs : List T) (x : T) : Type 0 where
  pub place : ℕ
  pub inside : place < length xs
  pub is : (d : T) → slice_index_or xs place d ≡ x
  pub none_before : (k : ℕ) (d : T) → k < length xs → before (slice_index_or xs k d) x ≡ false
  pub earliest : (k : ℕ) (d : T) → k < place → before x (slice_index_or xs k d) ≡ true

abbrev pub Tells : {T : Type 0} → (T → T → Bool) → List T → Option T → Type 0
Tells before xs None = xs ≡ []
Tells before xs (Some x) = Leads before xs x
