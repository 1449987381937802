-- Eight vectors of bytes, and the planes of their bits.
use Rattle.std.specs.Prelude.{◌≡◌, ℕ, ◌+◌, ◌-◌, ◌*◌, ◌/◌, ◌%◌, ◌^◌, ◌<◌, List, [], ◌∷◌, length, map, replicate, bit_and, bit_xor}
use Rattle.std.specs.Simd.Lanes.{Each1, zip2}
use Rattle.std.specs.Int.{bit_at}

-- a vector of 32 bytes
abbrev pub IsVector : List ℕ → Type 0
IsVector v = (length v ≡ 32) × Each1 (λ x. x < 256) v

-- the bits that f makes of the bytes at each place of the vectors: that of the first vector is the lowest
unfoldable pub lifted : (ℕ → ℕ) → List (List ℕ) → List ℕ
lifted f [] = replicate 32 0
lifted f (v ∷ vs) = zip2 (λ x y. y * 2 + f x % 2) v (lifted f vs)

-- the same for each of the functions
abbrev pub wires : List (ℕ → ℕ) → List (List ℕ) → List (List ℕ)
wires fs vs = map (λ f. lifted f vs) fs

-- the bits of a byte, the lowest first
abbrev pub bits : List (ℕ → ℕ)
bits = (λ x. bit_at x 0) ∷ (λ x. bit_at x 1) ∷ (λ x. bit_at x 2) ∷ (λ x. bit_at x 3)
    ∷ (λ x. bit_at x 4) ∷ (λ x. bit_at x 5) ∷ (λ x. bit_at x 6) ∷ (λ x. bit_at x 7) ∷ []

-- bit b of a byte of vector k is bit k of that byte of vector b before
unfoldable pub turned : List (List ℕ) → List (List ℕ)
turned vs = wires bits vs

abbrev pub low_kept : ℕ → ℕ → ℕ → ℕ → ℕ
low_kept by mask a b = bit_xor (bit_and a mask) (bit_and (b * 2 ^ by % 256) (255 - mask))

abbrev pub high_kept : ℕ → ℕ → ℕ → ℕ → ℕ
high_kept by mask a b = bit_xor (bit_and (a / 2 ^ by) mask) (bit_and b (255 - mask))

-- from where the bytes of two blocks come: in ShiftRows, in that and one place up the column, and two places along it
abbrev pub left_rows : List ℕ
left_rows = 0 ∷ 5 ∷ 10 ∷ 15 ∷ 4 ∷ 9 ∷ 14 ∷ 3 ∷ 8 ∷ 13 ∷ 2 ∷ 7 ∷ 12 ∷ 1 ∷ 6 ∷ 11
    ∷ 16 ∷ 21 ∷ 26 ∷ 31 ∷ 20 ∷ 25 ∷ 30 ∷ 19 ∷ 24 ∷ 29 ∷ 18 ∷ 23 ∷ 28 ∷ 17 ∷ 22 ∷ 27 ∷ []

abbrev pub left_rows_up : List ℕ
left_rows_up = 5 ∷ 10 ∷ 15 ∷ 0 ∷ 9 ∷ 14 ∷ 3 ∷ 4 ∷ 13 ∷ 2 ∷ 7 ∷ 8 ∷ 1 ∷ 6 ∷ 11 ∷ 12
    ∷ 21 ∷ 26 ∷ 31 ∷ 16 ∷ 25 ∷ 30 ∷ 19 ∷ 20 ∷ 29 ∷ 18 ∷ 23 ∷ 24 ∷ 17 ∷ 22 ∷ 27 ∷ 28 ∷ []

abbrev pub two_down : List ℕ
two_down = 2 ∷ 3 ∷ 0 ∷ 1 ∷ 6 ∷ 7 ∷ 4 ∷ 5 ∷ 10 ∷ 11 ∷ 8 ∷ 9 ∷ 14 ∷ 15 ∷ 12 ∷ 13
    ∷ 18 ∷ 19 ∷ 16 ∷ 17 ∷ 22 ∷ 23 ∷ 20 ∷ 21 ∷ 26 ∷ 27 ∷ 24 ∷ 25 ∷ 30 ∷ 31 ∷ 28 ∷ 29 ∷ []
