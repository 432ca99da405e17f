-- A mesh's route is its path, where both nodes are there and the path is not too long.
use Rattle.std.specs.Prelude.{◌≡◌, ℕ, ◌*◌, ◌<◌, ◌≤◌, Bool, true, false, cond, ◌&&◌, ◌⊎◌, List, length, Ok, nat_le, refl}
use Rattle.std.proofs.Common.{subst, ⊎_elim}
use Rattle.std.proofs.lemmas.Bool.{cond-false, and_parts, and_left, and_right, le-ltb, ltb-true, leb-true}
use Rattle.fabric.specs.Routes.{Lawful, unknown_node}
use Rattle.mesh.specs.Grid.{has}
use Rattle.mesh.specs.Links.{mesh_ends}
use Rattle.mesh.specs.Paths.{mesh_path, mesh_route, too_long}
use Rattle.mesh.specs.Laws.{path_lawful}

pub node_known : (w h s d : ℕ) → (w * h ≤ s) ⊎ (w * h ≤ d) → mesh_route w h s d ≡ unknown_node
node_known w h s d missing =
    ⊎_elim
    (λ m. cond-false _ _ _ (and_left _ (has w h d) (le-ltb s (w * h) m)))
    (λ m. cond-false _ _ _ (and_right (has w h s) _ (le-ltb d (w * h) m)))
    missing

-- what a route tells: the path, and the tests that let it pass
pub record Passed (w h s d : ℕ) (p : List ℕ) : Type 0 where
  pub from : s < w * h
  pub to : d < w * h
  pub few : length (mesh_path w h s d) ≤ 64
  pub path : mesh_path w h s d ≡ p

passed : (w h s d : ℕ) (p : List ℕ) (known short : Bool) → (has w h s && has w h d) ≡ known → nat_le (length (mesh_path w h s d)) 64 ≡ short → cond known (cond short (Ok (mesh_path w h s d)) too_long) unknown_node ≡ Ok p → Passed w h s d p
passed w h s d p true true known short is =
    let both = and_parts _ _ known in
    record {
      from = ltb-true s (w * h) both.0;
      to = ltb-true d (w * h) both.1;
      few = leb-true _ 64 short;
      path = cc;
    }
passed w h s d p true false known short is = cc
passed w h s d p false short known _ is = cc

pub route_passed : (w h s d : ℕ) (p : List ℕ) → mesh_route w h s d ≡ Ok p → Passed w h s d p
route_passed w h s d p is = passed w h s d p _ _ refl refl is

pub route_lawful : (w h s d : ℕ) (p : List ℕ) → 0 < w → mesh_route w h s d ≡ Ok p → Lawful (6 * (w * h)) (mesh_ends w h) s d p
route_lawful w h s d p wide is =
    let q = route_passed w h s d p is in
    let P : List ℕ → Type 0 = λ path. Lawful (6 * (w * h)) (mesh_ends w h) s d path in
    subst P q.path (path_lawful w h s d wide q.from q.to q.few)
