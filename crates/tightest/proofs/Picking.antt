-- The tightest of those items of a list that count, by its place in that list. Assumes nothing.
--   Picked: t is told of the item at a place, and nothing that is told of an item comes before it
--   Picks: the same of an answer, which is none where nothing is told of any item
use Rattle.std.proofs.Common.{◌≡◌, ℕ, zero, suc, ◌<◌, Bool, false, List, [], ◌∷◌, length, get_or, Some, None, Option, sym, refl, ap, ◌∙◌, subst, zero-add, arith}
use Rattle.std.proofs.lemmas.List.FromFn.{length-enumerate_from, get_or-enumerate_from}
use Rattle.std.specs.List.{cons_option, filter_map, enumerate_from}
use Rattle.tightest.specs.Order.{tightest_of, Tells}
use Rattle.tightest.specs.Counted.{counted}
use Rattle.tightest.proofs.Keeping.{Orders, tells}

-- t stands among the items
record Listed {T : Type 0} (xs : List T) (t : T) : Type 0 where
  pub at : ℕ
  pub inside : at < length xs
  pub is : (d : T) → get_or xs at d ≡ t

front : {T : Type 0} (t : T) (xs : List T) (r : Option T) → r ≡ Some t → Listed (cons_option r xs) t
front {T} t xs r h = subst (λ (o : Option T). Listed (cons_option o xs) t) (sym h) (record { at = 0; inside = omega arith; is = λ d. refl })

behind : {T : Type 0} (t : T) (xs : List T) (r : Option T) → Listed xs t → Listed (cons_option r xs) t
behind t xs None h = h
behind t xs (Some x) h = record { at = suc h.at; inside = let i = h.inside in omega arith; is = h.is }

module _ {X T : Type 0} (f : X → Option T) (e : X) where
  -- t is told of one of the items
  record Stands (xs : List X) (t : T) : Type 0 where
    pub place : ℕ
    pub inside : place < length xs
    pub is : f (get_or xs place e) ≡ Some t

  counts_in : (xs : List X) (q : ℕ) (t : T) → q < length xs → f (get_or xs q e) ≡ Some t → Listed (filter_map f xs) t
  counts_in [] q t l h = absurd (omega arith)
  counts_in (x ∷ xs) zero t l h = front t (filter_map f xs) (f x) h
  counts_in (x ∷ xs) (suc q) t l h = behind t (filter_map f xs) (f x) (counts_in xs q t (omega arith) h)

  later : (x : X) (xs : List X) (t : T) → Stands xs t → Stands (x ∷ xs) t
  later x xs t h = record { place = suc h.place; inside = let i = h.inside in omega arith; is = h.is }

  told : (x : X) (xs : List X) (t : T) → ((j : ℕ) → j < length (filter_map f xs) → ((d : T) → get_or (filter_map f xs) j d ≡ t) → Stands xs t) → (r : Option T) → f x ≡ r → (j : ℕ) → j < length (cons_option r (filter_map f xs)) → ((d : T) → get_or (cons_option r (filter_map f xs)) j d ≡ t) → Stands (x ∷ xs) t
  told x xs t rest None was j l h = later x xs t (rest j l h)
  told x xs t rest (Some y) was zero l h = record { place = 0; inside = omega arith; is = was ∙ ap (λ (v : T). Some v) (h y) }
  told x xs t rest (Some y) was (suc j) l h = later x xs t (rest j (omega arith) h)

  counts_out : (xs : List X) (t : T) (j : ℕ) → j < length (filter_map f xs) → ((d : T) → get_or (filter_map f xs) j d ≡ t) → Stands xs t
  counts_out [] t j l h = absurd (omega arith)
  counts_out (x ∷ xs) t j l h = told x xs t (counts_out xs t) (f x) refl j l h

module _ {X T : Type 0} (before : T → T → Bool) (f : ℕ → X → Option T) (e : X) where
  pub record Picked (xs : List X) (t : T) : Type 0 where
    pub place : ℕ
    pub inside : place < length xs
    pub is : f place (get_or xs place e) ≡ Some t
    pub none_before : (q : ℕ) (u : T) → q < length xs → f q (get_or xs q e) ≡ Some u → before u t ≡ false

  abbrev pub Picks : List X → Option T → Type 0
  Picks xs None = (q : ℕ) (u : T) → q < length xs → f q (get_or xs q e) ≡ Some u → ⊥
  Picks xs (Some t) = Picked xs t

  abbrev told_of : ℕ × X → Option T
  told_of item = f item.0 item.1

  placed : (xs : List X) (q : ℕ) → q < length xs → get_or (enumerate_from 0 xs) q (0, e) ≡ (q, get_or xs q e)
  placed xs q l = get_or-enumerate_from 0 xs q (0, e) l ∙ ap (λ (n : ℕ). (n, get_or xs q e)) (zero-add q)

  -- something told of the item at q is among what counts
  among : (xs : List X) (q : ℕ) (u : T) → q < length xs → f q (get_or xs q e) ≡ Some u → Listed (counted f 0 xs) u
  among xs q u l h =
      counts_in told_of (0, e) (enumerate_from 0 xs) q u (omega (arith, length-enumerate_from 0 xs)) (ap told_of (placed xs q l) ∙ h)

  picks_from : (xs : List X) (r : Option T) → Tells before (counted f 0 xs) r → Picks xs r
  picks_from xs None h = λ q u l was.
      let m = among xs q u l was in
      let i = m.inside in
      let z : length (counted f 0 xs) ≡ 0 = ap length h in
      omega arith
  picks_from xs (Some t) h =
      let s = counts_out told_of (0, e) (enumerate_from 0 xs) t h.place h.inside h.is in
      let l : s.place < length xs = omega (arith, s.inside, length-enumerate_from 0 xs) in
      record {
        place = s.place;
        inside = l;
        is = sym (ap told_of (placed xs s.place l)) ∙ s.is;
        none_before =
            λ q u l was.
            let m = among xs q u l was in
            sym (ap (λ (v : T). before v t) (m.is t)) ∙ h.none_before m.at t m.inside;
      }

pub picks : {X T : Type 0} (before : T → T → Bool) → Orders before → (f : ℕ → X → Option T) (e : X) (xs : List X) → Picks before f e xs (tightest_of before (counted f 0 xs))
picks before o f e xs = picks_from before f e xs (tightest_of before (counted f 0 xs)) (tells before o (counted f 0 xs))
