-- The refusals of a medium: their numbers, and the text that tells a person what was refused and what would be accepted.
use Rattle.std.specs.Prelude.{ℕ, List, codes}
use Rattle.medium.specs.declared.fault.MediumFault.{MediumFault}
use Rattle.medium.specs.declared.fault.MediumFault.TheVariants.{Full, Closed, NoNode}

abbrev pub number_of : MediumFault → ℕ
number_of Full = 11
number_of Closed = 12
number_of NoNode = 13

abbrev pub text_of : MediumFault → List ℕ
text_of Full = codes "no more intervals can be opened: clear the medium first"
text_of Closed = codes "no interval is open: open one before a node pulls"
text_of NoNode = codes "there is no such node: nodes are numbered from 0 to 255"
