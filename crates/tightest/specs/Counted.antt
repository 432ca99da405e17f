-- The items of a list that count, as something of their own. Assumes nothing.
--   counted f p xs: what f tells of the items, by their place, where it tells anything; the first stands at place p
use Rattle.std.specs.Prelude.{ℕ, List, Option}
use Rattle.std.specs.List.{filter_map, enumerate_from}

abbrev pub counted : {X T : Type 0} → (ℕ → X → Option T) → ℕ → List X → List T
counted {X} f p xs = filter_map (λ (item : ℕ × X). f item.0 item.1) (enumerate_from p xs)
