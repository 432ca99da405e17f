-- Numbers in a file, little-endian. A byte past the end reads as 0. Assumes nothing.
use Rattle.std.specs.Prelude.{ℕ, ◌+◌, ◌*◌, List, slice_index}

-- the number of two bytes, and of four, from a place on
abbrev pub u16_at : List ℕ → ℕ → ℕ
u16_at bs at = slice_index bs at + 256 * slice_index bs (at + 1)

abbrev pub u32_at : List ℕ → ℕ → ℕ
u32_at bs at = u16_at bs at + 65536 * u16_at bs (at + 2)
