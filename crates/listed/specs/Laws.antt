-- A listed route keeps the laws of routes.
use Rattle.std.specs.Prelude.{◌≡◌, ℕ, ◌+◌, ◌-◌, ◌*◌, ◌≤◌, List, [], length, Some, None, Ok, Option, refl}
use Rattle.std.proofs.Common.{subst, arith, add-one}
use Rattle.std.proofs.lemmas.List.{length-take-le, length-drop}
use Rattle.std.proofs.lemmas.Bool.Decides.{nat_tests}
use Rattle.fabric.specs.Routes.{Lawful}
use Rattle.fabric.specs.declared.route.Ends.{Ends}
use Rattle.fabric.specs.declared.fault.RouteFault.{RouteFault}
use Rattle.table.specs.declared.records.RouteEntry.{RouteEntry}
use Rattle.listed.specs.ListedRoutes.{ends_at, entry_of, numbers_at, first_cause, unless, entry_checks, listed_route}
use Rattle.listed.specs.Sound.{Sound, sound, told_none}

unless_ok : (fault : Option RouteFault) (p q : List ℕ) → unless fault q ≡ Ok p → (fault ≡ None) × (q ≡ p)
unless_ok None p q e = (refl, cc)
unless_ok (Some fault) p q e = cc

-- what the checks of an entry tell, where none of them fails
record Entry (entry : RouteEntry) (numbers : List ℕ) : Type 0 where
  two : 2 ≤ entry.length
  few : entry.length ≤ 64
  within : entry.position + entry.length ≤ length numbers

entry_sound : (nodes : ℕ) (entries : List RouteEntry) (numbers : List ℕ) (flow s d : ℕ) → first_cause (entry_checks nodes entries (length numbers) flow s d) ≡ None → Entry (entry_of entries flow) numbers
entry_sound nodes entries numbers flow s d e = record { two = grind (arith, nat_tests); few = grind (arith, nat_tests); within = grind (arith, nat_tests) }

length_numbers : (numbers : List ℕ) (entry : RouteEntry) → entry.position + entry.length ≤ length numbers → length (numbers_at numbers entry) ≡ entry.length
length_numbers numbers entry h = length-take-le entry.length _ (omega (arith, length-drop entry.position numbers))

laws_of : (links : List Ends) (s d : ℕ) (p : List ℕ) → 2 ≤ length p → length p ≤ 64 → Sound links (2 * d) [] (2 * s) p → Lawful (length links) (ends_at links) s d p
laws_of links s d p two few walk =
    record {
      two = two;
      few = few;
      below = walk.below;
      once = walk.once;
      starts = walk.starts (omega arith);
      chained = λ k h. rw add-one (walk.chained k (omega arith));
      arrives = walk.arrives (length p - 1) (omega arith);
    }

pub lawful : (nodes : ℕ) (links : List Ends) (entries : List RouteEntry) (numbers : List ℕ) (flow s d : ℕ) (p : List ℕ) → listed_route nodes links entries numbers flow s d ≡ Ok p → Lawful (length links) (ends_at links) s d p
unfolding listed_route
lawful nodes links entries numbers flow s d p e =
    let q = numbers_at numbers (entry_of entries flow) in
    let good = unless_ok _ p q e in
    let parts = told_none _ _ _ good.0 in
    let entry = entry_sound nodes entries numbers flow s d parts.0 in
    let long = length_numbers numbers (entry_of entries flow) entry.within in
    let P : List ℕ → Type 0 = Lawful (length links) (ends_at links) s d in
    subst P good.1 (laws_of links s d q (omega arith) (omega arith) (sound links (2 * d) [] (2 * s) q parts.1))
