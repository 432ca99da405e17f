-- The ends of each kind of link.
use Rattle.std.specs.Prelude.{◌≡◌, ℕ, ◌+◌, ◌-◌, ◌*◌, ◌/◌, ◌%◌, ◌<◌, refl}
use Rattle.std.proofs.Common.{ap, ◌∙◌, arith}
use Rattle.std.proofs.lemmas.Bool.{cond-true, cond-false, lt-ltb, le-ltb}
use Rattle.mesh.specs.declared.direction.Direction.{Direction}
use Rattle.mesh.specs.declared.direction.Direction.TheVariants.{East, West, North, South}
use Rattle.mesh.specs.Links.{direction_number, direction_at, side_link, out_ends, in_ends, side_ends, mesh_ends}

pub direction_below : (to : Direction) → direction_number to < 4
direction_below East = omega arith
direction_below West = omega arith
direction_below North = omega arith
direction_below South = omega arith

pub direction_back : (to : Direction) → direction_at (direction_number to) ≡ to
direction_back East = refl
direction_back West = refl
direction_back North = refl
direction_back South = refl

pub ends_out : (w h a : ℕ) → a < w * h → mesh_ends w h a ≡ out_ends a
ends_out w h a less = cond-true _ _ _ (lt-ltb a _ less)

pub ends_in : (w h a : ℕ) → a < w * h → mesh_ends w h (w * h + a) ≡ in_ends a
ends_in w h a less =
    let back : w * h + a - w * h ≡ a = omega arith in
    cond-false _ _ _ (le-ltb (w * h + a) (w * h) (omega arith)) ∙ cond-true _ _ _ (lt-ltb (w * h + a) (2 * (w * h)) (omega arith)) ∙ ap in_ends back

pub ends_side : (w h a : ℕ) (to : Direction) → mesh_ends w h (side_link w h a to) ≡ side_ends w h a to
ends_side w h a to =
    let small = direction_below to in
    let k = direction_number to in
    let link = side_link w h a to in
    let node : (link - 2 * (w * h)) / 4 ≡ a = omega arith in
    let place : (link - 2 * (w * h)) % 4 ≡ k = omega arith in
    cond-false _ _ _ (le-ltb link (w * h) (omega arith)) ∙ cond-false _ _ _ (le-ltb link (2 * (w * h)) (omega arith)) ∙ ap (λ b. side_ends w h b (direction_at ((link - 2 * (w * h)) % 4))) node ∙ ap (λ c. side_ends w h a (direction_at c)) place ∙ ap (side_ends w h a) (direction_back to)
