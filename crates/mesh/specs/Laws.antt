-- The laws of routes, shown of a mesh's path: its links are there, none comes twice, and each begins where the one before ends.
use Rattle.std.specs.Prelude.{◌≡◌, ℕ, ◌+◌, ◌-◌, ◌*◌, ◌<◌, ◌≤◌, length, ◌≢◌, slice_index}
use Rattle.std.proofs.Common.{sym, ap, ◌∙◌, ⊎_elim, arith}
use Rattle.std.proofs.lemmas.Bool.{cases_lt}
use Rattle.fabric.specs.Routes.{Lawful}
use Rattle.mesh.specs.Links.{router, mesh_ends}
use Rattle.mesh.specs.Paths.{visited, heading, step_link, mesh_path}
use Rattle.mesh.specs.Ends.{direction_below, ends_out, ends_in, ends_side}
use Rattle.mesh.specs.Walk.{visited_first, visited_last, visited_below}
use Rattle.mesh.specs.Headings.{steps_lead, steps_apart}
use Rattle.mesh.specs.Hops.{steps, path_length, path_first, path_step, path_last, places}

-- the link at a place of the path from s to d
abbrev link : ℕ → ℕ → ℕ → ℕ → ℕ → ℕ
link w h s d k = slice_index (mesh_path w h s d) k

-- the links of steps come after those of the cores
step_range : (w h s d j : ℕ) → 0 < w → s < w * h → d < w * h → (2 * (w * h) ≤ step_link w h s d j) × (step_link w h s d j < 6 * (w * h))
step_range w h s d j wide hs hd =
    let node = visited_below w h s d j wide hs hd in
    let way = direction_below (heading w s d j) in
    omega arith

-- all links are there
link_below : (w h s d k : ℕ) → 0 < w → s < w * h → d < w * h → k < steps w s d + 2 → link w h s d k < 6 * (w * h)
link_below w h s d k wide hs hd less =
    ⊎_elim
    (λ e. let at = ap (link w h s d) e ∙ path_first w h s d in omega arith)
    (⊎_elim
    (λ p. let at = ap (link w h s d) p.1 ∙ path_step w h s d p.0 p.2 in omega (arith, step_range w h s d p.0 wide hs hd))
    (λ e. let at = ap (link w h s d) e ∙ path_last w h s d in omega arith))
    (places (steps w s d) k less)

-- two steps have two links
steps_once : (w h s d i j : ℕ) → 0 < w → i < j → j < steps w s d → step_link w h s d i ≢ step_link w h s d j
steps_once w h s d i j wide less near same =
    let way-i = direction_below (heading w s d i) in
    let way-j = direction_below (heading w s d j) in
    steps_apart w s d i j wide less near (omega arith) (omega arith)

-- the source's link is below all others
past_first : (w h s d k : ℕ) → 0 < w → s < w * h → d < w * h → 0 < k → k < steps w s d + 2 → w * h ≤ link w h s d k
past_first w h s d k wide hs hd some less =
    ⊎_elim
    (λ e. absurd (omega arith))
    (⊎_elim
    (λ p. let at = ap (link w h s d) p.1 ∙ path_step w h s d p.0 p.2 in omega (arith, step_range w h s d p.0 wide hs hd))
    (λ e. let at = ap (link w h s d) e ∙ path_last w h s d in omega arith))
    (places (steps w s d) k less)

-- the link of a step is none of those after it
step_once : (w h s d i k : ℕ) → 0 < w → s < w * h → d < w * h → i < steps w s d → i + 1 < k → k < steps w s d + 2 → step_link w h s d i ≢ link w h s d k
step_once w h s d i k wide hs hd near less far same =
    ⊎_elim
    (λ e. omega arith)
    (⊎_elim
    (λ p. let at = ap (link w h s d) p.1 ∙ path_step w h s d p.0 p.2 in steps_once w h s d i p.0 wide (omega arith) p.2 (same ∙ at))
    (λ e. let at = ap (link w h s d) e ∙ path_last w h s d in omega (arith, step_range w h s d i wide hs hd)))
    (places (steps w s d) k far)

-- none of the links comes twice
link_once : (w h s d j k : ℕ) → 0 < w → s < w * h → d < w * h → j < k → k < steps w s d + 2 → link w h s d j ≢ link w h s d k
link_once w h s d j k wide hs hd less far same =
    ⊎_elim
    (λ e. let at = ap (link w h s d) e ∙ path_first w h s d in omega (arith, past_first w h s d k wide hs hd (omega arith) far))
    (⊎_elim
    (λ p. let at = ap (link w h s d) p.1 ∙ path_step w h s d p.0 p.2 in step_once w h s d p.0 k wide hs hd p.2 (omega arith) far (sym at ∙ same))
    (λ e. omega arith))
    (places (steps w s d) j (omega arith))

-- the link after k steps begins at the router of the node come to, and the one before it ends there
begins_at : (w h s d k : ℕ) → d < w * h → k < steps w s d + 1 → (mesh_ends w h (link w h s d (k + 1))).start ≡ router (visited w s d k)
begins_at w h s d k hd near =
    ⊎_elim
    (λ less. ap (λ l. (mesh_ends w h l).start) (path_step w h s d k less) ∙ ap (λ e. e.start) (ends_side w h (visited w s d k) (heading w s d k)))
    (λ more. let e : k ≡ steps w s d = omega arith in
    ap (λ l. (mesh_ends w h l).start) (ap (λ m. link w h s d (m + 1)) e ∙ path_last w h s d) ∙ ap (λ e. e.start) (ends_in w h d hd) ∙ ap router (sym (visited_last w s d) ∙ ap (visited w s d) (sym e)))
    (cases_lt k (steps w s d))

ends_at : (w h s d k : ℕ) → 0 < w → s < w * h → d < w * h → k < steps w s d + 1 → (mesh_ends w h (link w h s d k)).stop ≡ router (visited w s d k)
ends_at w h s d k wide hs hd near =
    ⊎_elim
    (λ e. ap (λ l. (mesh_ends w h l).stop) (ap (link w h s d) e ∙ path_first w h s d) ∙ ap (λ e. e.stop) (ends_out w h s hs) ∙ ap router (sym (visited_first w s d) ∙ ap (visited w s d) (sym e)))
    (⊎_elim
    (λ p. ap (λ l. (mesh_ends w h l).stop) (ap (link w h s d) p.1 ∙ path_step w h s d p.0 p.2) ∙ ap (λ e. e.stop) (ends_side w h (visited w s d p.0) (heading w s d p.0)) ∙ ap router (steps_lead w h s d p.0 wide hd p.2 ∙ ap (visited w s d) (sym p.1)))
    (λ e. absurd (omega arith)))
    (places (steps w s d) k (omega arith))

pub path_lawful : (w h s d : ℕ) → 0 < w → s < w * h → d < w * h → length (mesh_path w h s d) ≤ 64 → Lawful (6 * (w * h)) (mesh_ends w h) s d (mesh_path w h s d)
path_lawful w h s d wide hs hd few =
    let long = path_length w h s d in
    let end : length (mesh_path w h s d) - 1 ≡ steps w s d + 1 = omega arith in
    record {
      two = omega arith;
      few = few;
      below = λ k less. link_below w h s d k wide hs hd (omega arith);
      once = λ j k less far same. link_once w h s d j k wide hs hd less (omega arith) same;
      starts = ap (λ l. (mesh_ends w h l).start) (path_first w h s d) ∙ ap (λ e. e.start) (ends_out w h s hs);
      chained = λ k near. ends_at w h s d k wide hs hd (omega arith) ∙ sym (begins_at w h s d k hd (omega arith));
      arrives = ap (λ l. (mesh_ends w h l).stop) (ap (link w h s d) end ∙ path_last w h s d) ∙ ap (λ e. e.stop) (ends_in w h d hd);
    }
