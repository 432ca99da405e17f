-- A walk without a fault keeps the laws of routes.
use Rattle.std.specs.Prelude.{◌≡◌, ℕ, zero, suc, ◌<◌, false, List, [], ◌∷◌, ◌++◌, length, Some, None, Option, ◌==◌, ◌≢◌, slice_index, refl}
use Rattle.std.proofs.Common.{sym, ◌∙◌, arith}
use Rattle.std.proofs.lemmas.Bool.{or_parts, eqb-false}
use Rattle.std.proofs.lemmas.Bool.Decides.{nat_tests}
use Rattle.std.proofs.lemmas.List.Folds.{list_any-append}
use Rattle.fabric.specs.declared.route.Ends.{Ends}
use Rattle.fabric.specs.declared.fault.Cause.{Cause}
use Rattle.fabric.specs.declared.fault.RouteFault.{RouteFault}
use Rattle.listed.specs.ListedRoutes.{ends_at, among, first_cause, told, hop_checks, walk_fault}

pub told_none : (hop : ℕ) (cause : Option Cause) (later : Option RouteFault) → told hop cause later ≡ None → (cause ≡ None) × (later ≡ None)
told_none hop None later e = (refl, e)
told_none hop (Some cause) later e = cc

among_append : (us vs : List ℕ) (n : ℕ) → among (us ++ vs) n ≡ false → (among us n ≡ false) × (among vs n ≡ false)
among_append us vs n e = or_parts (among us n) (among vs n) (sym (list_any-append (λ u. u == n) us vs) ∙ e)

-- what the checks of a hop by link n tell, where none of them fails
record Hop (links : List Ends) (used : List ℕ) (at n : ℕ) : Type 0 where
  there : n < length links
  begins : (ends_at links n).start ≡ at
  fresh : among used n ≡ false

hop_sound : (links : List Ends) (used : List ℕ) (at n : ℕ) → first_cause (hop_checks links used at n) ≡ None → Hop links used at n
hop_sound links used at n e = record { there = grind (arith, nat_tests); begins = grind (arith, nat_tests); fresh = grind (arith, nat_tests) }

-- what a walk from vertex `at` to the goal keeps, after the links used
pub record Sound (links : List Ends) (goal : ℕ) (used : List ℕ) (at : ℕ) (p : List ℕ) : Type 0 where
  pub below : (k : ℕ) → k < length p → slice_index p k < length links
  pub fresh : (k : ℕ) → k < length p → among used (slice_index p k) ≡ false
  pub once : (j k : ℕ) → j < k → k < length p → slice_index p j ≢ slice_index p k
  pub starts : 0 < length p → (ends_at links (slice_index p 0)).start ≡ at
  pub chained : (k : ℕ) → suc k < length p → (ends_at links (slice_index p k)).stop ≡ (ends_at links (slice_index p (suc k))).start
  pub stays : length p ≡ 0 → at ≡ goal
  pub arrives : (k : ℕ) → suc k ≡ length p → (ends_at links (slice_index p k)).stop ≡ goal

sound_nil : (links : List Ends) (goal : ℕ) (used : List ℕ) (at : ℕ) → at ≡ goal → Sound links goal used at []
sound_nil links goal used at e =
    record {
      below = λ k h. absurd (omega arith);
      fresh = λ k h. absurd (omega arith);
      once = λ j k h h' s. omega arith;
      starts = λ h. absurd (omega arith);
      chained = λ k h. absurd (omega arith);
      stays = λ h. e;
      arrives = λ k h. absurd (omega arith);
    }

module _ (links : List Ends) (goal : ℕ) (used : List ℕ) (at n : ℕ) (rest : List ℕ) (hop : Hop links used at n) (on : Sound links goal (used ++ (n ∷ [])) (ends_at links n).stop rest) where
  cons_below : (k : ℕ) → k < length (n ∷ rest) → slice_index (n ∷ rest) k < length links
  cons_below zero h = hop.there
  cons_below (suc k) h = on.below k (omega arith)

  cons_fresh : (k : ℕ) → k < length (n ∷ rest) → among used (slice_index (n ∷ rest) k) ≡ false
  cons_fresh zero h = hop.fresh
  cons_fresh (suc k) h = (among_append used (n ∷ []) _ (on.fresh k (omega arith))).0

  cons_once : (j k : ℕ) → j < k → k < length (n ∷ rest) → slice_index (n ∷ rest) j ≢ slice_index (n ∷ rest) k
  cons_once j zero h h' e = omega arith
  cons_once zero (suc k) h h' e = let other = (among_append used (n ∷ []) _ (on.fresh k (omega arith))).1 in eqb-false n _ (or_parts _ _ other).0 e
  cons_once (suc j) (suc k) h h' e = on.once j k (omega arith) (omega arith) e

  cons_chained : (k : ℕ) → suc k < length (n ∷ rest) → (ends_at links (slice_index (n ∷ rest) k)).stop ≡ (ends_at links (slice_index (n ∷ rest) (suc k))).start
  cons_chained zero h = sym (on.starts (omega arith))
  cons_chained (suc k) h = on.chained k (omega arith)

  cons_arrives : (k : ℕ) → suc k ≡ length (n ∷ rest) → (ends_at links (slice_index (n ∷ rest) k)).stop ≡ goal
  cons_arrives zero h = on.stays (omega arith)
  cons_arrives (suc k) h = on.arrives k (omega arith)

  sound_cons : Sound links goal used at (n ∷ rest)
  sound_cons =
      record {
        below = cons_below;
        fresh = cons_fresh;
        once = cons_once;
        starts = λ h. hop.begins;
        chained = cons_chained;
        stays = λ h. absurd (omega arith);
        arrives = cons_arrives;
      }

pub sound : (links : List Ends) (goal : ℕ) (used : List ℕ) (at : ℕ) (p : List ℕ) → walk_fault links goal used at p ≡ None → Sound links goal used at p
sound links goal used at [] e = sound_nil links goal used at (grind (arith, nat_tests))
sound links goal used at (n ∷ rest) e =
    let both = told_none _ _ _ e in
    sound_cons links goal used at n rest (hop_sound links used at n both.0) (sound links goal (used ++ (n ∷ [])) (ends_at links n).stop rest both.1)
