-- What a medium answers to each call, and what it holds after it, from the list of its levels.
--   level_of p        the level of an interval that somebody pulled (p), or that nobody did
--   levels_of f n     the levels of n intervals, where f tells of each whether somebody pulled it
--   may_open most n   the answer to an open where n intervals are open
--   opened most ls   the levels after it
--   may_pull n node   the answer to a pull by a node where n intervals are open
--   pulled ls node   the levels after it
--   read_at ls k      the level of interval k
use Rattle.std.specs.Prelude.{ℕ, ◌-◌, Bool, cond, List, [], ◌∷◌, ◌++◌, map, length, Some, None, Ok, Err, Option, Result, nat_lt, slice_index_or, slice_set}
use Rattle.std.specs.List.{range_with_len}
use Rattle.medium.specs.declared.level.Level.{Level}
use Rattle.medium.specs.declared.level.Level.TheVariants.{Recessive, Dominant}
use Rattle.medium.specs.declared.fault.MediumFault.{MediumFault}
use Rattle.medium.specs.declared.fault.MediumFault.TheVariants.{Full, Closed, NoNode}

abbrev pub level_of : Bool → Level
level_of p = cond p Dominant Recessive

abbrev pub levels_of : (ℕ → Bool) → ℕ → List Level
levels_of f n = map (λ k. level_of (f k)) (range_with_len 0 n)

-- refused exactly at the limit
abbrev pub may_open : ℕ → ℕ → Result (Unit {0}) MediumFault
may_open most n = cond (nat_lt n most) (Ok tt) (Err Full)

abbrev pub opened : ℕ → List Level → List Level
opened most ls = cond (nat_lt (length ls) most) (ls ++ (Recessive ∷ [])) ls

-- refused where no interval is open, and then for a node above 255
abbrev pub may_pull : ℕ → ℕ → Result (Unit {0}) MediumFault
may_pull n node = cond (nat_lt 0 n) (cond (nat_lt node 256) (Ok tt) (Err NoNode)) (Err Closed)

abbrev pub pulled : List Level → ℕ → List Level
pulled ls node = cond (nat_lt 0 (length ls)) (cond (nat_lt node 256) (slice_set ls (length ls - 1) Dominant) ls) ls

abbrev pub read_at : List Level → ℕ → Option Level
read_at ls k = cond (nat_lt k (length ls)) (Some (slice_index_or ls k Recessive)) None
