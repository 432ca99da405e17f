-- The number of each cause for which there is no route. Assumes nothing.
use Rattle.std.specs.Prelude.{ℕ}
use Rattle.fabric.specs.declared.fault.Cause.{Cause}
use Rattle.fabric.specs.declared.fault.Cause.TheVariants.{Length, List, UnknownLink, Start, Gap, Repeated, End, UnknownNode}

abbrev pub cause_number : Cause → ℕ
cause_number Length = 1
cause_number List = 2
cause_number UnknownLink = 3
cause_number Start = 4
cause_number Gap = 5
cause_number Repeated = 6
cause_number End = 7
cause_number UnknownNode = 8
