-- The meshes that can be made. Assumes nothing.
--   Fits: so many columns and rows make a mesh
--   NewMesh: the answer to a width and a height
--   FileMesh: the answer to a file, by what its checks say
use Rattle.std.specs.Prelude.{◌≡◌, ℕ, ◌*◌, ◌≤◌, Some, None, Ok, Err, Option, Result}
use Rattle.table.specs.declared.fault.LoadFault.{LoadFault}
use Rattle.table.specs.declared.header.Header.{Header}
use Rattle.mesh.specs.declared.mesh.Mesh.{Mesh}

-- a mesh has 1 to 256 nodes
abbrev pub Fits : ℕ → ℕ → Type 0
Fits w h = (1 ≤ w * h) × (w * h ≤ 256)

abbrev pub NewMesh : ℕ → ℕ → Option Mesh → Type 0
NewMesh w h (Some m) = (m.width ≡ w) × (m.height ≡ h) × Fits w h
NewMesh w h None = Fits w h → ⊥

-- a file that passes has the mesh of its header's width and height; any other is refused for the fault that its checks find
abbrev pub FileMesh : Result Header LoadFault → Result Mesh LoadFault → Type 0
FileMesh (Ok header) (Ok m) = (m.width ≡ header.width) × (m.height ≡ header.height)
FileMesh (Ok header) (Err e) = ⊥
FileMesh (Err fault) (Ok m) = ⊥
FileMesh (Err fault) (Err e) = e ≡ fault
