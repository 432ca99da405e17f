-- How a packet is split into the parts that one slot carries each, and how long its last part travels. Assumes nothing.
--   capacity: the flits of one part, rounded down; parts_of: how many parts a payload takes, rounded up
--   last_flits: the flits of the last part, rounded up; tail_of: the cycles of the last part after its slot
--   split_of: all of it, where a part carries at least one flit
use Rattle.std.specs.Prelude.{ℕ, ◌+◌, ◌-◌, ◌*◌, ◌/◌, Bool, cond, ◌&&◌, Some, None, Option, nat_le}
use Rattle.parts.specs.declared.split.Split.{Split}
use Rattle.table.specs.declared.profile.Profile.{Profile}
use Rattle.timing.specs.Counts.{ceil_div}

-- What is left of the window once a header is routed at each router of the route: as many flits, less those that
-- the links of the route hold and the tail flit. Below 1 nothing can be carried.
unfoldable pub capacity : Profile → ℕ → ℕ → ℕ
capacity p window hops = (window - (hops - 1) * p.routing) / p.transfer - hops - 1

unfoldable pub parts_of : Profile → ℕ → ℕ → ℕ
parts_of p flits payload = ceil_div payload (flits * p.flit)

-- all parts but the last are full
unfoldable pub last_flits : Profile → ℕ → ℕ → ℕ
last_flits p flits payload = ceil_div (payload - (parts_of p flits payload - 1) * (flits * p.flit)) p.flit

-- routing at each router, the header over each link, and then the flits with the tail flit
unfoldable pub tail_of : Profile → ℕ → ℕ → ℕ
tail_of p hops flits = (hops - 1) * p.routing + hops * p.transfer + (flits + 1) * p.transfer

-- a profile that moves flits, and a route that is no longer than any
abbrev pub usable : Profile → ℕ → Bool
usable p hops = (nat_le 1 p.transfer && nat_le 1 p.flit) && nat_le hops 64

-- a part carries at least one flit
abbrev pub carries : Profile → ℕ → ℕ → Bool
carries p window hops = usable p hops && nat_le 1 (capacity p window hops)

abbrev pub split_for : Profile → ℕ → ℕ → ℕ → Split
split_for p window hops payload =
    record { parts = parts_of p (capacity p window hops) payload; tail = tail_of p hops (last_flits p (capacity p window hops) payload) }

abbrev pub split_of : Profile → ℕ → ℕ → ℕ → Option Split
split_of p window hops payload = cond (carries p window hops) (Some (split_for p window hops payload)) None
