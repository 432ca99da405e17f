-- A fabric made from a file is the one that the file means, and its faults are the load's. Assumes nothing.
use Rattle.std.proofs.Common.{◌≡◌, ℕ, ◌*◌, ◌≤◌, Bool, cond, not, ◌||◌, eqb, List, ◌++◌, length, IfOk, Some, None, Ok, Err, vec_items, Option, Result, MatchResult, sym, refl, ap, ◌∙◌, subst, ap₂, arith}
use Rattle.std.proofs.lemmas.Bool.{cond-true, cond-false, eq-eqb, ne_eqb, le-ltb}
use Rattle.std.proofs.lemmas.Bool.Decides.{nat_tests}
use Rattle.fabric.specs.Routes.{Route}
use Rattle.table.specs.declared.fault.LoadFault.{LoadFault}
use Rattle.table.specs.declared.fault.LoadFault.TheVariants.{NoMemory, Misfit}
use Rattle.fabric.specs.declared.route.Ends.{Ends}
use Rattle.table.specs.declared.records.RouteEntry.{RouteEntry}
use Rattle.table.specs.declared.header.Header.{Header}
use Rattle.table.specs.File.{header_of, links_of}
use Rattle.table.specs.Checks.{first_fault, unless, size_checks, shape_checks, unlisted_checks, reserved_checks, profile_checks, header_checks, section_checks, checked_file}
use Rattle.table.proofs.Firsts.{both_passed, first_passed, first_failed}
use Rattle.mesh.specs.declared.mesh.Mesh.{Mesh}
use Rattle.mesh.specs.Makes.{FileMesh}
use Rattle.mesh.specs.Paths.{mesh_route}
use Rattle.listed.specs.declared.Listed.{Listed}
use Rattle.listed.specs.ListedRoutes.{listed_route}
use Rattle.listed.specs.Meaning.{route_of}
use Rattle.listed.specs.Made.{Lists, Gives, entries_listed}
use Rattle.analysis.specs.declared.loaded.Loaded.{Loaded}
use Rattle.analysis.specs.Answers.{Loads, Exactly}
use Rattle.analysis.specs.Loading.{misfit_checks, flow_checks, load_checks, timing_of}
use Rattle.analysis.specs.Rows.{Builds}
use Rattle.files.specs.Means.{nodes_of, mesh_routes, listed_routes, routes_of}

module _ (bs : List ℕ) where
  abbrev H : Header
  H = header_of bs

  abbrev file_checks : List (Bool × LoadFault)
  file_checks = header_checks (length bs) (header_of bs) ++ section_checks (length bs) (header_of bs)

  few : first_fault (header_checks (length bs) H) ≡ None → H.flows ≤ 128
  few e =
      let fields = (both_passed (size_checks (length bs)) (shape_checks H ++ (unlisted_checks H ++ (reserved_checks H ++ profile_checks H))) e).1 in
      let shape = (both_passed (shape_checks H) (unlisted_checks H ++ (reserved_checks H ++ profile_checks H)) fields).0 in
      shaped H shape
    where
      shaped : (h : Header) → first_fault (shape_checks h) ≡ None → h.flows ≤ 128
      shaped h f = grind (arith, nat_tests)

  -- a table of 128 flows at most fits, over a fabric with its nodes
  fits : (h : Header) → h.flows ≤ 128 → first_fault (misfit_checks 128 (nodes_of h) h) ≡ None
  fits h le =
      ap₂ (λ (s t : Bool). cond (s || not t) (Some Misfit) None) (le-ltb 128 h.flows le) (eq-eqb (nodes_of h) (nodes_of h) refl)

  module _ (route : ℕ → ℕ → ℕ → Route) where
    past_header : (o : Option LoadFault) (e : LoadFault) → first_fault (header_checks (length bs) H) ≡ o → first_fault file_checks ≡ Some e →
        first_fault (load_checks bs (nodes_of H) route 128) ≡ Some e
    unfolding load_checks
    past_header (Some x) e header fault =
        let rest = misfit_checks 128 (nodes_of H) H ++ (section_checks (length bs) H ++ flow_checks bs (nodes_of H) route) in
        first_failed (header_checks (length bs) H) rest e (header ∙ sym (first_failed (header_checks (length bs) H) (section_checks (length bs) H) x header) ∙ fault)
    past_header None e header fault =
        let section = sym (first_passed (header_checks (length bs) H) (section_checks (length bs) H) header) ∙ fault in
        first_passed (header_checks (length bs) H) (misfit_checks 128 (nodes_of H) H ++ (section_checks (length bs) H ++ flow_checks bs (nodes_of H) route)) header
        ∙ first_passed (misfit_checks 128 (nodes_of H) H) (section_checks (length bs) H ++ flow_checks bs (nodes_of H) route) (fits H (few header))
        ∙ first_failed (section_checks (length bs) H) (flow_checks bs (nodes_of H) route) e section

    -- a fault of the file is the load's
    file_fault : (e : LoadFault) → first_fault file_checks ≡ Some e → first_fault (load_checks bs (nodes_of H) route 128) ≡ Some e
    file_fault e fault = past_header (first_fault (header_checks (length bs) H)) e refl fault

  -- a mesh that was made, and one that was refused
  mesh_made : (m : Mesh) → FileMesh (checked_file bs) (Ok m) → (m.width ≡ H.width) × (m.height ≡ H.height)
  unfolding checked_file
  mesh_made m is = by (first_fault file_checks) is
    where
      by : (o : Option LoadFault) → FileMesh (unless o H) (Ok m) → (m.width ≡ H.width) × (m.height ≡ H.height)
      by None same = same
      by (Some f) same = absurd same

  mesh_refused : (e : LoadFault) → FileMesh (checked_file bs) (Err e) → first_fault file_checks ≡ Some e
  unfolding checked_file
  mesh_refused e is = by (first_fault file_checks) is
    where
      by : (o : Option LoadFault) → FileMesh (unless o H) (Err e) → o ≡ Some e
      by None same = absurd same
      by (Some f) same = ap Some (sym same)

  listed_made : (l : Listed) → Gives bs (checked_file bs) (Ok l) → Lists bs H l
  unfolding checked_file
  listed_made l is = by (first_fault file_checks) is
    where
      by : (o : Option LoadFault) → Gives bs (unless o H) (Ok l) → Lists bs H l
      by None same = same
      by (Some f) same = let z : ◌≡◌ {A = ℕ} 0 1 = cc in absurd (omega arith)

  listed_refused : (e : LoadFault) → Gives bs (checked_file bs) (Err e) → (e ≡ NoMemory → ⊥) → first_fault file_checks ≡ Some e
  unfolding checked_file
  listed_refused e is other = by (first_fault file_checks) is
    where
      by : (o : Option LoadFault) → Gives bs (unless o H) (Err e) → o ≡ Some e
      by None same = absurd (other same)
      by (Some f) same = cc

  -- what a load over routes answers, at routes that are the same
  abbrev Answer : ℕ → (ℕ → ℕ → ℕ → Route) → Result Loaded LoadFault → Type 0
  Answer nodes route r = Builds (first_fault (load_checks bs nodes route 128)) (Loads bs route) r

  abbrev Proved : (ℕ → ℕ → ℕ → Route) → Result Loaded LoadFault → Type 0
  Proved route r = IfOk r (λ _. Exactly (timing_of bs route))

  -- where no fabric was made of the file
  refused :
      (route : ℕ → ℕ → ℕ → Route) (e : LoadFault) (r : Result Loaded LoadFault) → r ≡ Err e → ((e ≡ NoMemory → ⊥) → first_fault file_checks ≡ Some e) →
      Answer (nodes_of H) route r × Proved route r
  refused route e r told fault = subst (λ (q : Result Loaded LoadFault). Answer (nodes_of H) route q × Proved route q) (sym told) (λ other. file_fault route e (fault other), tt)

  -- a load over the mesh of the file, or over its lists, answers for the routes that the file means
  pub over_mesh :
      (made : Result Mesh LoadFault) (r : Result Loaded LoadFault) → FileMesh (checked_file bs) made →
      MatchResult made (λ m. Answer (m.width * m.height) (λ i s d. mesh_route m.width m.height s d) r × Proved (λ i s d. mesh_route m.width m.height s d) r) (λ e. r ≡ Err e) →
      Answer (nodes_of H) (mesh_routes bs) r × Proved (mesh_routes bs) r
  over_mesh (Ok m) r is told =
      let P : ℕ → ℕ → Type 0 = λ u v. Answer (u * v) (λ i s d. mesh_route u v s d) r × Proved (λ i s d. mesh_route u v s d) r in
      let same = mesh_made m is in
      subst (λ (v : ℕ). P H.width v) same.1 (subst (λ (u : ℕ). P u m.height) same.0 told)
  over_mesh (Err e) r is told = refused (mesh_routes bs) e r told (λ _. mesh_refused e is)

  pub over_listed :
      (made : Result Listed LoadFault) (r : Result Loaded LoadFault) → Gives bs (checked_file bs) made →
      MatchResult made (λ l. Answer l.nodes (route_of l) r × Proved (route_of l) r) (λ e. r ≡ Err e) → Answer (nodes_of H) (listed_routes bs) r × Proved (listed_routes bs) r
  over_listed (Ok l) r is told =
      let P : ℕ → List Ends → List RouteEntry → List ℕ → Type 0 = λ n ls es ns. Answer n (λ i s d. listed_route n ls es ns i s d) r × Proved (λ i s d. listed_route n ls es ns i s d) r in
      let same = listed_made l is in
      subst (λ (ns : List ℕ). P (nodes_of H) (links_of bs H) (entries_listed bs H) ns) same.numbers
      (subst (λ (es : List RouteEntry). P (nodes_of H) (links_of bs H) es (vec_items l.numbers)) same.entries
      (subst (λ (ls : List Ends). P (nodes_of H) ls (vec_items l.entries) (vec_items l.numbers)) same.links
      (subst (λ (n : ℕ). P n (vec_items l.links) (vec_items l.entries) (vec_items l.numbers)) same.nodes told)))
  over_listed (Err e) r is told = refused (listed_routes bs) e r told (listed_refused e is)

  -- the file means the mesh where it lists no links, and its lists otherwise
  pub means_mesh : (r : Result Loaded LoadFault) → H.links ≡ 0 → Answer (nodes_of H) (mesh_routes bs) r × Proved (mesh_routes bs) r → Answer (nodes_of H) (routes_of bs) r × Proved (routes_of bs) r
  unfolding routes_of
  means_mesh r none told =
      subst (λ (R : ℕ → ℕ → ℕ → Route). Answer (nodes_of H) R r × Proved R r) (sym (cond-true (eqb H.links 0) (mesh_routes bs) (listed_routes bs) (eq-eqb _ 0 none))) told

  pub means_lists :
      (r : Result Loaded LoadFault) → (H.links ≡ 0 → ⊥) → Answer (nodes_of H) (listed_routes bs) r × Proved (listed_routes bs) r → Answer (nodes_of H) (routes_of bs) r × Proved (routes_of bs) r
  unfolding routes_of
  means_lists r some told =
      subst (λ (R : ℕ → ℕ → ℕ → Route). Answer (nodes_of H) R r × Proved R r) (sym (cond-false (eqb H.links 0) (mesh_routes bs) (listed_routes bs) (ne_eqb _ 0 some))) told
