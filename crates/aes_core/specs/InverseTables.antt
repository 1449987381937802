-- Look-ups at the two halves of a byte.
use Rattle.std.specs.Prelude.{ℕ, List, [], bit_xor, slice_index_or}
use Rattle.aes_core.specs.Nibbles.{read, high, low}

-- the first table's entry of the low four bits plus the second's of the high four bits
abbrev pub sum_of_entries : List (List ℕ) → ℕ → ℕ
sum_of_entries tables n = bit_xor (read (slice_index_or tables 0 []) (low n)) (read (slice_index_or tables 1 []) (high n))
