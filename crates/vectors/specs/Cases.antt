-- What the definitions say of a worked case: a file over the mesh of four columns and one row. Assumes nothing.
use Rattle.std.specs.Prelude.{◌≡◌, ℕ, List, [], ◌∷◌, length, Some, None, Ok, Err, Option, Result}
use Rattle.fabric.specs.Routes.{Route}
use Rattle.table.specs.declared.fault.LoadFault.{LoadFault}
use Rattle.table.specs.File.{header_of, flows_of}
use Rattle.table.specs.Checks.{first_fault}
use Rattle.parts.specs.Slots.{slot_for}
use Rattle.timing.specs.Model.{alone}
use Rattle.timing.specs.Figures.{bound_of, rounds_of}
use Rattle.mesh.specs.Paths.{mesh_route}
use Rattle.analysis.specs.declared.figures.Figures.{Figures}
use Rattle.analysis.specs.Loading.{profile_of, load_checks, timing_of}
use Rattle.analysis.specs.Tables.{path_of}
use Rattle.vectors.specs.declared.case.Case.{Case}

-- the routes of the mesh, which do not ask for the flow
abbrev routes : ℕ → ℕ → ℕ → Route
routes i s d = mesh_route 4 1 s d

-- the figures of flow i by their definitions
unfoldable pub figures_for : List ℕ → ℕ → Figures
figures_for bs i =
    let h = header_of bs in
    record {
      hops = length (path_of (slot_for h (profile_of h)) (profile_of h) (flows_of bs h) routes i);
      parts = (timing_of bs routes).w i;
      alone = alone (timing_of bs routes) i;
      bound = bound_of (timing_of bs routes) i;
      rounds = rounds_of (timing_of bs routes) i;
    }

-- the first fault, or the figures of the three flows
abbrev answered : List ℕ → Option LoadFault → Result (List Figures) LoadFault
answered bs None = Ok (figures_for bs 1 ∷ figures_for bs 2 ∷ figures_for bs 3 ∷ [])
answered bs (Some fault) = Err fault

abbrev pub Holds : Case → Type 0
Holds c = answered c.file (first_fault (load_checks c.file 4 routes 128)) ≡ c.expected
