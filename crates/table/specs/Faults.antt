-- The number of each refusal of a load, the flow and byte that it tells, and the line that reports it. Assumes nothing.
use Rattle.std.specs.Prelude.{ℕ, List, [], ◌++◌, Some, None, Option, codes}
use Rattle.std.specs.Fmt.{decimal}
use Rattle.fabric.specs.Causes.{cause_number}
use Rattle.table.specs.declared.fault.LoadFault.{LoadFault}
use Rattle.table.specs.declared.fault.LoadFault.TheVariants.{NoMemory, Size, Field, Profile, Section, Record, Separation, Route, Capacity, Misfit}

-- want of memory has no number
abbrev pub fault_number : LoadFault → Option ℕ
fault_number NoMemory = None
fault_number Size = Some 1
fault_number (Field byte) = Some 2
fault_number Profile = Some 3
fault_number (Section byte) = Some 4
fault_number (Record flow byte) = Some 5
fault_number (Separation flow byte) = Some 6
fault_number (Route flow byte fault) = Some 7
fault_number (Capacity flow byte) = Some 8
fault_number Misfit = Some 9

-- the flow that it is about, 0 where it is about none
abbrev pub fault_flow : LoadFault → ℕ
fault_flow NoMemory = 0
fault_flow Size = 0
fault_flow (Field byte) = 0
fault_flow Profile = 0
fault_flow (Section byte) = 0
fault_flow (Record flow byte) = flow
fault_flow (Separation flow byte) = flow
fault_flow (Route flow byte fault) = flow
fault_flow (Capacity flow byte) = flow
fault_flow Misfit = 0

-- the byte that it is told at, 0 where it is about none; the profile's number stands at byte 6
abbrev pub fault_byte : LoadFault → ℕ
fault_byte NoMemory = 0
fault_byte Size = 0
fault_byte (Field byte) = byte
fault_byte Profile = 6
fault_byte (Section byte) = byte
fault_byte (Record flow byte) = byte
fault_byte (Separation flow byte) = byte
fault_byte (Route flow byte fault) = byte
fault_byte (Capacity flow byte) = byte
fault_byte Misfit = 0

-- the end of the line: only a missing route has a hop and a cause
abbrev pub cause_text : LoadFault → List ℕ
cause_text NoMemory = []
cause_text Size = []
cause_text (Field byte) = []
cause_text Profile = []
cause_text (Section byte) = []
cause_text (Record flow byte) = []
cause_text (Separation flow byte) = []
cause_text (Route flow byte fault) = codes " hop " ++ decimal fault.hop ++ codes " cause " ++ decimal (cause_number fault.cause)
cause_text (Capacity flow byte) = []
cause_text Misfit = []

-- the line, where the refusal has a number
abbrev pub numbered_line : Option ℕ → LoadFault → List ℕ
numbered_line None fault = codes "refused: no memory"
numbered_line (Some number) fault =
    codes "refused " ++ decimal number ++ codes " flow " ++ decimal (fault_flow fault) ++ codes " byte " ++ decimal (fault_byte fault) ++ cause_text fault

-- the one line that reports a refusal
abbrev pub line_of : LoadFault → List ℕ
line_of fault = numbered_line (fault_number fault) fault
