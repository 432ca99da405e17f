-- Marks of the flows above that share a link. Assumes nothing.
use Rattle.std.proofs.Common.{◌≡◌, ℕ, ◌+◌, ◌-◌, ◌<◌, ◌≤◌, Bool, false, ◌||◌, ltb, List, map, length, get_or, take, sym, ap, ◌∙◌, arith}
use Rattle.std.proofs.lemmas.List.{get_or-take, get_or-map}
use Rattle.std.proofs.lemmas.Bool.{cond-false, or_from, le-ltb}
use Rattle.fabric.specs.declared.path.Path.{Path}
use Rattle.timing.specs.Model.{Table}
use Rattle.analysis.specs.declared.above.Above.{Above}
use Rattle.analysis.specs.declared.row.Row.{Row}
use Rattle.analysis.specs.Marks.{marked, shares_with}
use Rattle.analysis.specs.Standing.{Marks}
use Rattle.analysis.specs.Rows.{Meets}

marked_is : (a : Above) (h : ℕ) → 1 ≤ h → h ≤ 128 → marked a h ≡ get_or a.flags (h - 1) false
marked_is a h low high =
    cond-false (ltb h 1 || ltb 128 h) false (get_or a.flags (h - 1) false) (or_from (ltb h 1) (ltb 128 h) (le-ltb h 1 low) (le-ltb 128 h high))

-- marks that were made from the rows are those of the table
pub marks_from :
    (b : Table) (rows : List Row) (path : Path) (a : Above) (d : Row) → length rows < 128 →
    take (length rows) a.flags ≡ map (shares_with path) rows → Meets b rows path → Marks b a (length rows + 1)
marks_from b rows path a d few made meets h low high =
    let k = h - 1 in
    let within : k < length rows = omega arith in
    let number : k + 1 ≡ h = omega arith in
    marked_is a h low (omega arith)
    ∙ sym (get_or-take (length rows) a.flags k false within)
    ∙ ap (λ (l : List Bool). get_or l k false) made
    ∙ get_or-map (shares_with path) rows k d false within
    ∙ meets k d within
    ∙ ap (λ n. b.H n (length rows + 1)) number
