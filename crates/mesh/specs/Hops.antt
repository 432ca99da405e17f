-- The links of a path by their place: the source's, those of the steps, the destination's.
use Rattle.std.specs.Prelude.{◌≡◌, ℕ, ◌+◌, ◌-◌, ◌*◌, ◌<◌, ◌≤◌, ◌⊎◌, [], ◌∷◌, map, length, slice_index, refl}
use Rattle.std.proofs.Common.{sym, ap, ◌∙◌, inl, inr, ⊎_elim, arith, add-one, length-append}
use Rattle.std.specs.List.{range_with_len}
use Rattle.std.proofs.lemmas.List.FromFn.{length-map-range_with_len, get_or-map-range_with_len}
use Rattle.std.proofs.lemmas.List.{get_or_append_left, get_or-append_right}
use Rattle.std.proofs.lemmas.Bool.{cases_lt}
use Rattle.mesh.specs.Paths.{steps_x, steps_y, step_link, mesh_path}

-- how many steps a route makes
abbrev pub steps : ℕ → ℕ → ℕ → ℕ
steps w s d = steps_x w s d + steps_y w s d

pub path_length : (w h s d : ℕ) → length (mesh_path w h s d) ≡ steps w s d + 2
path_length w h s d =
    let f = step_link w h s d in
    let made = length-map-range_with_len f 0 (steps w s d) in
    let joined = length-append (map f (range_with_len 0 (steps w s d))) ((w * h + d) ∷ []) in
    omega arith

pub path_first : (w h s d : ℕ) → slice_index (mesh_path w h s d) 0 ≡ s
path_first w h s d = refl

pub path_step : (w h s d j : ℕ) → j < steps w s d → slice_index (mesh_path w h s d) (j + 1) ≡ step_link w h s d j
path_step w h s d j near =
    let f = step_link w h s d in
    let middle = map f (range_with_len 0 (steps w s d)) in
    let made : length middle ≡ steps w s d = length-map-range_with_len f 0 (steps w s d) in
    rw add-one (get_or_append_left middle ((w * h + d) ∷ []) 0 j (omega arith) ∙ get_or-map-range_with_len f 0 (steps w s d) j j 0 near (omega arith))

pub path_last : (w h s d : ℕ) → slice_index (mesh_path w h s d) (steps w s d + 1) ≡ w * h + d
path_last w h s d =
    let f = step_link w h s d in
    let t = steps w s d in
    let middle = map f (range_with_len 0 t) in
    let none : t - t ≡ 0 = omega arith in
    rw add-one (get_or-append_right middle ((w * h + d) ∷ []) t t 0 (length-map-range_with_len f 0 t) (omega arith) ∙ ap (λ k. slice_index ((w * h + d) ∷ []) k) none)

-- a place of the path is the first, that of a step, or the last
pub places : (t k : ℕ) → k < t + 2 → (k ≡ 0) ⊎ (((j : ℕ) × (k ≡ j + 1) × (j < t)) ⊎ (k ≡ t + 1))
places t k less =
    ⊎_elim
    (λ h. inl (omega arith))
    (λ h. inr (⊎_elim (λ g. inl (k - 1, omega arith, omega arith)) (λ g. inr (omega arith)) (cases_lt (k - 1) t)))
    (cases_lt k 1)

-- what stands at a place, told by how the place compares with the number of steps
pub first_at : (w h s d k : ℕ) → k ≡ 0 → s ≡ slice_index (mesh_path w h s d) k
first_at w h s d k e = sym (ap (λ m. slice_index (mesh_path w h s d) m) e ∙ path_first w h s d)

pub step_at : (w h s d k : ℕ) → 0 < k → k ≤ steps w s d → step_link w h s d (k - 1) ≡ slice_index (mesh_path w h s d) k
step_at w h s d k some near =
    let e : k ≡ k - 1 + 1 = omega arith in
    sym (ap (λ m. slice_index (mesh_path w h s d) m) e ∙ path_step w h s d (k - 1) (omega arith))

pub last_at : (w h s d k : ℕ) → steps w s d < k → k < length (mesh_path w h s d) → w * h + d ≡ slice_index (mesh_path w h s d) k
last_at w h s d k past less =
    let e : k ≡ steps w s d + 1 = omega (arith, path_length w h s d) in
    sym (ap (λ m. slice_index (mesh_path w h s d) m) e ∙ path_last w h s d)
