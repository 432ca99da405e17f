-- The number of each refusal of a run's load, the flow and byte that it tells, and the line that reports it. Assumes nothing.
use Rattle.std.specs.Prelude.{ℕ, List, ◌++◌, Some, Option, codes}
use Rattle.std.specs.Fmt.{decimal}
use Rattle.table.specs.Faults.{fault_number, fault_flow, fault_byte, line_of}
use Rattle.calls.specs.declared.load_refusal.LoadRefusal.{LoadRefusal}
use Rattle.calls.specs.declared.load_refusal.LoadRefusal.TheVariants.{Owed, Fault}

-- that of a table's refusal is the table's own
abbrev pub load_number : LoadRefusal → Option ℕ
load_number Owed = Some 21
load_number (Fault fault) = fault_number fault

-- the flow that it is about, 0 where it is about none
abbrev pub load_flow : LoadRefusal → ℕ
load_flow Owed = 0
load_flow (Fault fault) = fault_flow fault

-- the byte that it is told at, 0 where it is about none
abbrev pub load_byte : LoadRefusal → ℕ
load_byte Owed = 0
load_byte (Fault fault) = fault_byte fault

-- the one line that reports a refusal; that of a table's is the table's own
abbrev pub load_line : LoadRefusal → List ℕ
load_line Owed = codes "refused " ++ decimal 21 ++ codes " flow " ++ decimal 0 ++ codes " byte " ++ decimal 0
load_line (Fault fault) = line_of fault
