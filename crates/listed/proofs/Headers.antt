-- What the header of a file that passes the checks keeps to.
use Rattle.std.proofs.Common.{◌≡◌, ℕ, ◌+◌, ◌*◌, ◌≤◌, List, ◌++◌, length, None, Ok, ap, ◌∙◌, arith}
use Rattle.std.proofs.lemmas.List.FromFn.{length-map-range_with_len}
use Rattle.std.proofs.lemmas.Bool.Decides.{nat_tests}
use Rattle.fabric.specs.declared.route.Ends.{Ends}
use Rattle.table.specs.File.{header_of, link_at, links_of}
use Rattle.table.specs.Checks.{first_fault, size_checks, shape_checks, unlisted_checks, reserved_checks, profile_checks, section_checks, header_checks, checked_file}
use Rattle.table.specs.declared.header.Header.{Header}
use Rattle.table.proofs.Firsts.{unless_ok, unless_value, both_passed}

pub record Sized (h : Header) : Type 0 where
  pub some : 1 ≤ h.width * h.height
  pub few : h.width * h.height ≤ 256
  pub limit : h.links ≤ 2048

shaped : (h : Header) → first_fault (shape_checks h) ≡ None → Sized h
shaped h e = record { some = grind (arith, nat_tests); few = grind (arith, nat_tests); limit = grind (arith, nat_tests) }

pub sized : (bs : List ℕ) (h : Header) → Ok h ≡ checked_file bs → Sized h
unfolding checked_file
sized bs h e =
    let g = header_of bs in
    let n = length bs in
    let all = (both_passed (header_checks n g) (section_checks n g) (unless_ok _ g h e)).0 in
    let fields = (both_passed (size_checks n) (shape_checks g ++ (unlisted_checks g ++ (reserved_checks g ++ profile_checks g))) all).1 in
    let shape = (both_passed (shape_checks g) (unlisted_checks g ++ (reserved_checks g ++ profile_checks g)) fields).0 in
    rw (unless_value _ g h e) (shaped g shape)

pub few_links : (bs : List ℕ) (h : Header) (links : List Ends) → Sized h → links ≡ links_of bs h → length links ≤ 2048
few_links bs h links size e =
    let count = ap length e ∙ length-map-range_with_len (λ i. link_at bs (h.links_at + 4 * i)) 0 h.links in
    omega arith
