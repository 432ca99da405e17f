-- What is left of the walk gives what the whole gives.
use Rattle.std.proofs.Common.{◌≡◌, [], take, drop}
use Rattle.listed.specs.ListedRoutes.{walk_fault}
use Rattle.listed.proofs.hops.walk.Given as goal

abbrev pub invariant-loop-k : goal.invariant-loop-k
invariant-loop-k l =
    walk_fault l.links l.goal (take l.k-counter l.numbers) l.here (drop l.k-counter l.numbers) ≡ walk_fault l.links l.goal [] l.start l.numbers
