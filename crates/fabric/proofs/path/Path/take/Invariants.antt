use Rattle.std.proofs.Common.{◌≡◌, ℕ, ◌≤◌, List, length, take, Ok}
use Rattle.fabric.proofs.path.Path.take.Given as goal

abbrev pub invariant-loop-k : goal.invariant-loop-k
invariant-loop-k g l =
    (p : List ℕ)
    × (g.F.Fabric.route l.fabric l.trip.flow l.trip.source l.trip.destination ≡ Ok p)
    × (length p ≡ l.len)
    × (length p ≤ 64)
    × (length l.links ≡ 64)
    × (take l.k l.links ≡ take l.k p)
