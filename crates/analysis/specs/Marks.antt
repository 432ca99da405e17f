-- Flows of higher priority that share a link, as a flow keeps them. Assumes nothing.
use Rattle.std.specs.Prelude.{ℕ, ◌-◌, Bool, false, cond, ◌||◌, nat_lt, slice_index_or}
use Rattle.fabric.specs.declared.path.Path.{Path}
use Rattle.fabric.specs.Paths.{links_in, shares}
use Rattle.analysis.specs.declared.above.Above.{Above}
use Rattle.analysis.specs.declared.row.Row.{Row}

-- flow h is marked
abbrev pub marked : Above → ℕ → Bool
marked a h = cond (nat_lt h 1 || nat_lt 128 h) false (slice_index_or a.flags (h - 1) false)

-- a row's route shares a link with a route
abbrev pub shares_with : Path → Row → Bool
shares_with path row = shares (links_in row.path) (links_in path)
