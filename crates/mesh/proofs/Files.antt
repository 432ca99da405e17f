-- A file that passes its checks has the width and the height of a mesh.
use Rattle.std.proofs.Common.{◌≡◌, ℕ, zero, suc, ◌*◌, ◌≤◌, List, ◌++◌, length, None, Ok, sym, subst, arith}
use Rattle.std.proofs.lemmas.Bool.Decides.{nat_tests}
use Rattle.table.specs.declared.header.Header.{Header}
use Rattle.table.specs.File.{header_of}
use Rattle.table.specs.Checks.{first_fault, header_checks, section_checks, checked_file}
use Rattle.table.proofs.Firsts.{unless_ok, unless_value}
use Rattle.mesh.specs.Makes.{Fits}

checked_nodes : (len : ℕ) (h : Header) → first_fault (header_checks len h ++ section_checks len h) ≡ None → Fits h.width h.height
checked_nodes len h passed = grind (arith, nat_tests)

file_nodes : (bytes : List ℕ) (h : Header) → Ok h ≡ checked_file bytes → Fits h.width h.height
unfolding checked_file
file_nodes bytes h is =
    let P : Header → Type 0 = λ x. Fits x.width x.height in
    subst P (sym (unless_value _ (header_of bytes) h is)) (checked_nodes (length bytes) (header_of bytes) (unless_ok _ (header_of bytes) h is))

-- a mesh of some nodes has columns and rows
some_columns : (w h : ℕ) → 1 ≤ w * h → 1 ≤ w
some_columns zero h some = omega arith
some_columns (suc w) h some = omega arith

some_rows : (w h : ℕ) → 1 ≤ w * h → 1 ≤ h
some_rows w zero some = omega arith
some_rows w (suc h) some = omega arith

pub file_sides : (bytes : List ℕ) (h : Header) → Ok h ≡ checked_file bytes → (1 ≤ h.width) × (1 ≤ h.height) × (h.width * h.height ≤ 256)
file_sides bytes h is =
    let fits = file_nodes bytes h is in
    (some_columns h.width h.height fits.0, some_rows h.width h.height fits.0, fits.1)
