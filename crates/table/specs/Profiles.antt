-- The four built-in profiles. Assumes nothing.
--   profile_at: the profile of a number
--   profile_told: the same, or the fault that is told for a number that has none
use Rattle.std.specs.Prelude.{ℕ, zero, suc, Some, None, Option, Result}
use Rattle.std.specs.Option.{ok_or}
use Rattle.table.specs.declared.fault.LoadFault.{LoadFault}
use Rattle.table.specs.declared.fault.LoadFault.TheVariants.{Profile as NoProfile}
use Rattle.table.specs.declared.profile.Profile.{Profile}

abbrev pub profile_at : ℕ → Option Profile
profile_at zero = None
profile_at (suc zero) = Some (record { interval = 1; routing = 3; transfer = 1; pause = 0; flit = 4 })
profile_at (suc (suc zero)) = Some (record { interval = 1; routing = 3; transfer = 1; pause = 6; flit = 4 })
profile_at (suc (suc (suc zero))) = Some (record { interval = 4; routing = 3; transfer = 2; pause = 8; flit = 8 })
profile_at (suc (suc (suc (suc zero)))) = Some (record { interval = 2; routing = 1; transfer = 1; pause = 0; flit = 16 })
profile_at (suc (suc (suc (suc (suc n))))) = None

abbrev pub profile_told : ℕ → Result Profile LoadFault
profile_told number = ok_or (profile_at number) NoProfile
