-- The basis that the tables of sixteen bytes take: what a byte there stands for.
use Rattle.std.specs.Prelude.{ℕ, ◌*◌, ◌/◌, ◌%◌, List, [], ◌∷◌, bit_xor}

-- the sum of the bytes bs that the bits of y choose, the lowest bit first
unfoldable pub chosen_sum : List ℕ → ℕ → ℕ
chosen_sum [] y = 0
chosen_sum (b ∷ bs) y = bit_xor (y % 2 * b) (chosen_sum bs (y / 2))

-- the standard's byte
unfoldable pub back : ℕ → ℕ
back y = chosen_sum (0x60 ∷ 0xb6 ∷ 0x29 ∷ 0x08 ∷ 0xec ∷ 0xbc ∷ 0x51 ∷ 0xe0 ∷ []) y

-- the byte of a round key, which stands there with the constant of SubBytes
unfoldable pub back_key : ℕ → ℕ
back_key y = bit_xor (back y) 0x63
