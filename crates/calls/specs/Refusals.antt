-- The number of each refusal of a run's calls. Assumes nothing.
use Rattle.std.specs.Prelude.{ℕ}
use Rattle.calls.specs.declared.refusal.Refusal.{Refusal}
use Rattle.calls.specs.declared.refusal.Refusal.TheVariants.{NoFlow, Ended, Owed, Late, Ahead, Soon, Busy, ShortLedger, FullLedger, WrongSlip, LastSlot}

abbrev pub number_of : Refusal → ℕ
number_of NoFlow = 10
number_of Ended = 20
number_of Owed = 21
number_of Late = 22
number_of Ahead = 23
number_of Soon = 24
number_of Busy = 25
number_of ShortLedger = 26
number_of FullLedger = 27
number_of WrongSlip = 28
number_of LastSlot = 29
