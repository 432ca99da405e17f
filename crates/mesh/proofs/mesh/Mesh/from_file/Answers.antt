-- The checks of a file leave no width and height that make no mesh.
use Rattle.std.proofs.Common.{arith}
use Rattle.mesh.proofs.Files.{file_sides}
use Rattle.mesh.proofs.mesh.Mesh.from_file.Goals as goal

pub invariant_of-result : goal.invariant_of-result
invariant_of-result c =
    let sides = file_sides _ _ c.in_ok-header.ensures in
    record { wide = omega arith; high = omega arith; few = rw (c.from.ensures, c.from-2.ensures) sides.2 }
