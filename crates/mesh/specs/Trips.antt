-- The links of a walk over a mesh. Assumes nothing.
use Rattle.std.specs.Prelude.{ℕ, List}
use Rattle.mesh.specs.declared.mesh.path.Walk.{Walk}
use Rattle.mesh.specs.Paths.{mesh_path}

abbrev pub walk_links : Walk → List ℕ
walk_links walk =
    let mesh = walk.mesh.now in
    mesh_path mesh.width mesh.height walk.trip.source walk.trip.destination
