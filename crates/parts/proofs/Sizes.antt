-- How large the figures of a split can get. Assumes nothing.
use Rattle.std.proofs.Common.{ℕ, ◌-◌, ◌*◌, ◌≤◌, arith}
use Rattle.table.specs.declared.profile.Profile.{Profile}
use Rattle.timing.proofs.Ceil.{ceil_le}
use Rattle.parts.specs.Split.{parts_of, last_flits}

-- the last part has no more flits than the packet has bytes
pub last_le : (p : Profile) (flits payload : ℕ) → 1 ≤ p.flit → last_flits p flits payload ≤ payload
unfolding last_flits
last_le p flits payload some = omega (arith, ceil_le (payload - (parts_of p flits payload - 1) * (flits * p.flit)) p.flit some)
