-- What the answers to a fabric's questions tell of a route. Assumes nothing.
use Rattle.std.proofs.Common.{◌≡◌, ℕ, ◌<◌, List, length, get_or, Some, None, Ok, Err, refl, arith}
use Rattle.std.proofs.lemmas.Bool.Decides.{nat_tests}
use Rattle.fabric.specs.Routes.{Route, length_of, link_of}

pub length_ok : (r : Route) (n : ℕ) → Ok n ≡ length_of r → (p : List ℕ) × (r ≡ Ok p) × (length p ≡ n)
length_ok (Ok p) n e = (p, refl, cc)
length_ok (Err f) n e = cc

pub link_some : (r : Route) (p : List ℕ) (k link : ℕ) → r ≡ Ok p → k < length p → Some link ≡ link_of r k → link ≡ get_or p k 0
link_some (Ok q) p k link e h f = let same : q ≡ p = cc in grind (arith, nat_tests)
link_some (Err x) p k link e h f = cc

pub link_none : (r : Route) (p : List ℕ) (k : ℕ) → r ≡ Ok p → k < length p → None ≡ link_of r k → ⊥
link_none (Ok q) p k e h f = let same : q ≡ p = cc in grind (arith, nat_tests)
link_none (Err x) p k e h f = cc
