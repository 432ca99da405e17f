-- What the words of a node bank stand for. Each of 256 nodes has two words of its own: the bits of the first are its pulls of intervals 0 to 63, those of the second of 64 to 127.
--   word_of a k           the place of node a's word for interval k
--   bit_at w b            bit b of word w is set
--   pulled_by ws a k      node a pulled interval k
--   marked ws a k        the words after node a pulled interval k
--   pulled_under ws k n   one of the first n nodes pulled interval k
--   pulled_at ws k        some node pulled interval k
--   bank_levels ws n      the levels of the first n intervals
use Rattle.std.specs.Prelude.{ℕ, ◌+◌, ◌*◌, ◌/◌, ◌%◌, ◌^◌, Bool, List, ◌==◌, bit_or, slice_index, slice_set}
use Rattle.std.specs.List.{list_any, range_with_len}
use Rattle.medium.specs.declared.level.Level.{Level}
use Rattle.medium.specs.Levels.{levels_of}

abbrev pub word_of : ℕ → ℕ → ℕ
word_of a k = 2 * a + k / 64

abbrev pub bit_at : ℕ → ℕ → Bool
bit_at w b = w / 2 ^ b % 2 == 1

abbrev pub pulled_by : List ℕ → ℕ → ℕ → Bool
pulled_by ws a k = bit_at (slice_index ws (word_of a k)) (k % 64)

abbrev pub marked : List ℕ → ℕ → ℕ → List ℕ
marked ws a k = slice_set ws (word_of a k) (bit_or (slice_index ws (word_of a k)) (2 ^ (k % 64)))

unfoldable pub pulled_under : List ℕ → ℕ → ℕ → Bool
pulled_under ws k n = list_any (λ a. pulled_by ws a k) (range_with_len 0 n)

abbrev pub pulled_at : List ℕ → ℕ → Bool
pulled_at ws k = pulled_under ws k 256

-- a level is recessive when no node's bit is set
abbrev pub bank_levels : List ℕ → ℕ → List Level
bank_levels ws n = levels_of (pulled_at ws) n
