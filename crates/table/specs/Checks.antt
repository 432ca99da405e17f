-- The checks of a file's size, header and sections, in their order. Assumes nothing.
--   first_fault: the first check that fails
--   checked_header: the header, or the fault of the size, a field or the profile
--   checked_file: the same with the sections, what a fabric asks of its file
use Rattle.std.specs.Prelude.{ℕ, ◌+◌, ◌*◌, Bool, cond, not, ◌&&◌, ◌||◌, List, [], ◌∷◌, ◌++◌, length, is_some, Some, None, Ok, Err, Option, Result, ◌==◌, nat_lt}
use Rattle.table.specs.declared.fault.LoadFault.{LoadFault}
use Rattle.table.specs.declared.fault.LoadFault.TheVariants.{Size, Field, Profile, Section}
use Rattle.table.specs.declared.header.Header.{Header}
use Rattle.table.specs.Profiles.{profile_at}
use Rattle.table.specs.File.{header_of}

-- a check: whether something is wrong, and the fault that is told then
abbrev pub first_fault : List (Bool × LoadFault) → Option LoadFault
first_fault [] = None
first_fault (check ∷ rest) = cond check.0 (Some check.1) (first_fault rest)

-- the value, unless there is a fault
abbrev pub unless : {X : Type 0} → Option LoadFault → X → Result X LoadFault
unless None x = Ok x
unless (Some fault) x = Err fault

-- n is not from low to high
abbrev pub outside : ℕ → ℕ → ℕ → Bool
outside low high n = nat_lt n low || nat_lt high n

-- under 32 or over 65,535 bytes
abbrev pub size_checks : ℕ → List (Bool × LoadFault)
size_checks len = (outside 32 65535 len, Size) ∷ []

-- each field is told at its byte
abbrev pub shape_checks : Header → List (Bool × LoadFault)
shape_checks h =
    (outside 1 128 h.flows, Field 0)
    ∷ (outside 1 256 (h.width * h.height), Field 2)
    ∷ (nat_lt 4095 h.spare, Field 8)
    ∷ (nat_lt 2048 h.links, Field 10)
    ∷ []

-- a table that lists no links has zeros where it would describe them
abbrev pub unlisted_checks : Header → List (Bool × LoadFault)
unlisted_checks h =
    (h.links == 0 && nat_lt 0 h.links_at, Field 16)
    ∷ (h.links == 0 && nat_lt 0 h.routes_at, Field 20)
    ∷ (h.links == 0 && nat_lt 0 h.numbers_at, Field 24)
    ∷ (h.links == 0 && nat_lt 0 h.numbers, Field 28)
    ∷ []

abbrev pub reserved_checks : Header → List (Bool × LoadFault)
reserved_checks h = (nat_lt 0 h.reserved, Field 30) ∷ []

abbrev pub profile_checks : Header → List (Bool × LoadFault)
profile_checks h = (not (is_some (profile_at h.profile)), Profile) ∷ []

-- a section of so many bytes ends past the file, told at its offset's field; a table that lists no links has flow records only
abbrev pub section_checks : ℕ → Header → List (Bool × LoadFault)
section_checks len h =
    (nat_lt len (h.flows_at + 16 * h.flows), Section 12)
    ∷ (nat_lt 0 h.links && nat_lt len (h.links_at + 4 * h.links), Section 16)
    ∷ (nat_lt 0 h.links && nat_lt len (h.routes_at + 4 * h.flows), Section 20)
    ∷ (nat_lt 0 h.links && nat_lt len (h.numbers_at + 2 * h.numbers), Section 24)
    ∷ []

-- size, fields and profile
abbrev pub header_checks : ℕ → Header → List (Bool × LoadFault)
header_checks len h = size_checks len ++ (shape_checks h ++ (unlisted_checks h ++ (reserved_checks h ++ profile_checks h)))

unfoldable pub checked_header : List ℕ → Result Header LoadFault
checked_header bs = unless (first_fault (header_checks (length bs) (header_of bs))) (header_of bs)

unfoldable pub checked_file : List ℕ → Result Header LoadFault
checked_file bs = unless (first_fault (header_checks (length bs) (header_of bs) ++ section_checks (length bs) (header_of bs))) (header_of bs)
