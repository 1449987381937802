-- Reads of tables of sixteen bytes, and the inversion by them: a byte y is seen as its high and its low four bits.
use Rattle.std.specs.Prelude.{ℕ, ◌/◌, List, Bool, ◌||◌, cond, T, leb, ltb, bit_and, bit_xor, slice_index}
use Rattle.aes_core.specs.declared.tables.TheConstants.{INVERSES, SCALED_INVERSES}

-- below 16, or 128 and more
abbrev pub is_place : ℕ → Bool
is_place j = leb 128 j || ltb j 16

abbrev pub IsPlace : ℕ → Type 0
IsPlace j = T (is_place j)

-- the entry, and 0 from 128 on
abbrev pub read : List ℕ → ℕ → ℕ
read t j = cond (leb 128 j) 0 (slice_index t j)

abbrev pub high : ℕ → ℕ
high y = y / 16

abbrev pub low : ℕ → ℕ
low y = bit_and y 15

abbrev pub both : ℕ → ℕ
both y = bit_xor (low y) (high y)

abbrev pub first : ℕ → ℕ
first y = bit_xor (read INVERSES (high y)) (read SCALED_INVERSES (low y))

abbrev pub second : ℕ → ℕ
second y = bit_xor (read INVERSES (both y)) (read SCALED_INVERSES (low y))

-- the two places at which the tables behind the inversion are read
abbrev pub place_u : ℕ → ℕ
place_u y = bit_xor (read INVERSES (first y)) (both y)

abbrev pub place_t : ℕ → ℕ
place_t y = bit_xor (read INVERSES (second y)) (high y)
