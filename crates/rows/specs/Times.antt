-- When a release is in time, and when slots end. Assumes nothing.
--   late, ahead: a release of flow i at cycle t into slot n, which the flow's interval before slot n or in it would have missed
--   soon: a release at t comes before the separation since the last one is over
--   slot_end: the cycle at which slot n ends
use Rattle.std.specs.Prelude.{ℕ, ◌+◌, ◌*◌, Bool, false, Some, None, Option, nat_le, nat_lt}
use Rattle.parts.specs.declared.slot.Slot.{Slot}

-- t < (n - 1) × S + i × dB
abbrev pub late : Slot → ℕ → ℕ → ℕ → Bool
late times n i t = nat_lt (t + times.length) (n * times.length + i * times.interval)

-- t ≥ n × S + i × dB
abbrev pub ahead : Slot → ℕ → ℕ → ℕ → Bool
ahead times n i t = nat_le (n * times.length + i * times.interval) t

abbrev pub soon : Option ℕ → ℕ → ℕ → Bool
soon None separation t = false
soon (Some s) separation t = nat_lt t (s + separation)

abbrev pub slot_end : Slot → ℕ → ℕ
slot_end times n = (n + 1) * times.length
