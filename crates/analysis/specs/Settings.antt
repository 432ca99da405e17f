-- What the flows of a table are loaded over. Assumes nothing.
use Rattle.std.specs.Prelude.{◌≡◌}
use Rattle.table.specs.declared.header.Header.{Header}
use Rattle.parts.specs.Slots.{slot_for}
use Rattle.analysis.specs.declared.setting.Setting.{Setting}
use Rattle.analysis.specs.Loading.{profile_of}

-- the setting of a header, with the profile and the slot that it means
pub record SetFor (h : Header) (s : Setting) : Type 0 where
  pub header_is : s.header ≡ h
  pub profile_is : s.profile ≡ profile_of h
  pub slot_is : s.slot ≡ slot_for h (profile_of h)
