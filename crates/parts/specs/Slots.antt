-- The times of a slot. Assumes nothing.
use Rattle.std.specs.Prelude.{ℕ, ◌+◌, ◌*◌, cond, ◌||◌, Some, None, Option, nat_lt}
use Rattle.table.specs.declared.header.Header.{Header}
use Rattle.table.specs.declared.profile.Profile.{Profile}
use Rattle.parts.specs.declared.slot.Slot.{Slot}

-- an interval for each flow and each spare one, and then the pause
abbrev pub window_of : Header → Profile → ℕ
window_of h p = (h.flows + h.spare) * p.interval

abbrev pub slot_for : Header → Profile → Slot
slot_for h p = record { interval = p.interval; window = window_of h p; pause = p.pause; length = window_of h p + p.pause }

abbrev pub slot_of : Header → Profile → Option Slot
slot_of h p = cond (nat_lt 128 h.flows || nat_lt 4095 h.spare) None (Some (slot_for h p))
