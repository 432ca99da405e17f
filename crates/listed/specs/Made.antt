-- The listed fabric that is made from a file. Assumes nothing.
--   entries_listed: the route entries that count
--   Lists: the fabric is what the file lists
--   MadeFrom: what comes of a file
use Rattle.std.specs.Prelude.{◌≡◌, ℕ, ◌*◌, cond, List, [], Ok, Err, vec_items, Result, ◌==◌}
use Rattle.table.specs.File.{links_of, entries_of, numbers_of}
use Rattle.table.specs.Checks.{checked_file}
use Rattle.table.specs.declared.fault.LoadFault.{LoadFault}
use Rattle.table.specs.declared.fault.LoadFault.TheVariants.{NoMemory}
use Rattle.table.specs.declared.header.Header.{Header}
use Rattle.table.specs.declared.records.RouteEntry.{RouteEntry}
use Rattle.listed.specs.declared.Listed.{Listed}

-- a file that lists no links means a mesh, and has no route entries
abbrev pub entries_listed : List ℕ → Header → List RouteEntry
entries_listed bs h = cond (h.links == 0) [] (entries_of bs h)

-- fabric l is what bytes bs with header h list; without links there are no numbers either, since the checks want their count to be 0
pub record Lists (bs : List ℕ) (h : Header) (l : Listed) : Type 0 where
  pub nodes : l.nodes ≡ h.width * h.height
  pub links : vec_items l.links ≡ links_of bs h
  pub entries : vec_items l.entries ≡ entries_listed bs h
  pub numbers : vec_items l.numbers ≡ numbers_of bs h

-- a file that fails the checks gives their fault; one that passes them gives its fabric, unless there is no memory
abbrev pub Gives : List ℕ → Result Header LoadFault → Result Listed LoadFault → Type 0
Gives bs (Err fault) r = r ≡ Err fault
Gives bs (Ok h) (Ok l) = Lists bs h l
Gives bs (Ok h) (Err fault) = fault ≡ NoMemory

abbrev pub MadeFrom : List ℕ → Result Listed LoadFault → Type 0
MadeFrom bs r = Gives bs (checked_file bs) r
