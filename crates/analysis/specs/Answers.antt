-- The figures of a flow, and what a load answers. Assumes nothing.
use Rattle.std.specs.Prelude.{◌≡◌, ℕ, zero, suc, List, [], ◌∷◌, length, Some, None, vec_items, Option}
use Rattle.fabric.specs.Paths.{links_in}
use Rattle.fabric.specs.Routes.{Route}
use Rattle.table.specs.File.{header_of, flows_of}
use Rattle.parts.specs.Slots.{slot_for}
use Rattle.timing.specs.Model.{Table, Flow, Lawful, Bounds}
use Rattle.timing.specs.Figures.{bound_of, Exact}
use Rattle.analysis.specs.declared.loaded.Loaded.{Loaded}
use Rattle.analysis.specs.Loading.{profile_of}
use Rattle.analysis.specs.Rows.{RowsFit}
use Rattle.analysis.specs.declared.figures.Figures.{Figures}
use Rattle.analysis.specs.declared.row.Row.{Row}

abbrev pub figures_of : Row → Figures
figures_of row =
    record { hops = length (links_in row.path); parts = row.parts; alone = row.alone; bound = row.bound; rounds = row.rounds }

-- those of flow i, none where there is no such flow
unfoldable pub figures_at : List Row → ℕ → Option Figures
figures_at rows zero = None
figures_at [] (suc k) = None
figures_at (row ∷ rows) (suc zero) = Some (figures_of row)
figures_at (row ∷ rows) (suc (suc k)) = figures_at rows (suc k)

-- what was loaded of a file over a fabric's routes: its slot, and a row for each flow
pub record Loads (bs : List ℕ) (route : ℕ → ℕ → ℕ → Route) (l : Loaded) : Type 0 where
  pub slot_is : l.slot ≡ slot_for (header_of bs) (profile_of (header_of bs))
  pub rows_fit :
      RowsFit (slot_for (header_of bs) (profile_of (header_of bs))) (profile_of (header_of bs)) (flows_of bs (header_of bs)) route (header_of bs).flows (vec_items l.rows)

-- the bounds of a table are exactly what they should be: a flow is bounded exactly when all flows that delay it are, and some
-- number up to its deadline solves its equation, and its bound is the least such number
pub record Exactly (b : Table) : Type 0 where
  pub lawful : Lawful b
  pub figures : (i : ℕ) → Flow b i → Exact b i
  pub bounds : Bounds b (bound_of b)
