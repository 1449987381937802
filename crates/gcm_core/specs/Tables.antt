-- The products of one block with the polynomials of four bits.
use Rattle.std.specs.Prelude.{◌≡◌, ◌<◌, ◌*◌, ℕ, zero, suc, List, [], ◌∷◌, slice_index, slice_index_or}
use Rattle.std.specs.Int.{bit_at}
use Rattle.crypto_model.specs.Gcm.{bits_128, block_product, times_x}

-- v times x ^ n
unfoldable pub times_power : ℕ → List ℕ → List ℕ
times_power zero v = v
times_power (suc n) v = times_power n (times_x v)

-- the four bits of a number below 16, the highest first
abbrev pub nibble : ℕ → List ℕ
nibble n = bit_at n 3 ∷ bit_at n 2 ∷ bit_at n 1 ∷ bit_at n 0 ∷ []

-- the products of v with the sixteen polynomials of degree below 4
abbrev pub IsRow : List ℕ → List ℕ → Type 0
IsRow v row = (n : ℕ) → n < 16 → bits_128 (slice_index row n) ≡ block_product (nibble n) v

-- row r has the products of h times x ^ (4 r)
abbrev pub IsTable : List ℕ → List (List ℕ) → Type 0
IsTable h table = (r : ℕ) → r < 32 → IsRow (times_power (4 * r) h) (slice_index_or table r [])
