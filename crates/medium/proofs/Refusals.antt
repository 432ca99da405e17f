-- What an accepted open or pull tells of the medium that accepted it.
use Rattle.std.proofs.Common.{◌≡◌, ℕ, ◌<◌, true, ltb, Ok, arith}
use Rattle.std.proofs.lemmas.Bool.Decides.{nat_tests}
use Rattle.medium.specs.Levels.{may_open, may_pull}

-- It is not at its limit.
pub open_accepted : (most n : ℕ) → Ok tt ≡ may_open most n → ltb n most ≡ true
open_accepted most n e = grind (arith, nat_tests)

-- It has an interval, and the node is one that there is.
pub pull_accepted : (n node : ℕ) → Ok tt ≡ may_pull n node → (0 < n) × (node < 256)
pull_accepted n node e = grind (arith, nat_tests)
