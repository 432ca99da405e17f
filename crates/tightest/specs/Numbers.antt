-- Numbers that are compared in turn. Assumes nothing.
use Rattle.std.specs.Prelude.{ℕ, Bool, true, false, ◌&&◌, ◌||◌, List, [], ◌∷◌, ◌==◌, nat_lt}

-- the first two numbers that differ decide; where none do, the shorter list is lower
abbrev pub lower : List ℕ → List ℕ → Bool
lower xs [] = false
lower [] (y ∷ ys) = true
lower (x ∷ xs) (y ∷ ys) = nat_lt x y || (x == y && lower xs ys)
