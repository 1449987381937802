-- GCM (SP 800-38D) over any block cipher. A block as a polynomial is the list of its 128 bits, and the bit at
-- place i is the coefficient of x ^ i.
use Rattle.std.specs.Prelude.{ℕ, ◌+◌, ◌-◌, ◌*◌, ◌/◌, ◌%◌, ◌^◌, List, [], ◌∷◌, ◌++◌, length, take, drop, replicate, eqb, cond, slice_index}
use Rattle.std.specs.Int.{w32, w64, bit_at, to_be_bytes}
use Rattle.std.specs.List.{flat_map}
use Rattle.crypto_model.specs.Aes.{listed}
use Rattle.crypto_model.specs.Modes.{xor_with, blocks}

-- the bits of a byte and of bytes, the highest first
abbrev pub bits_of_byte : ℕ → List ℕ
bits_of_byte byte = listed 8 (λ i. bit_at byte (7 - i))

unfoldable pub bits_of : List ℕ → List ℕ
bits_of bytes = flat_map bits_of_byte bytes

-- the 128 bits of a number, the highest first
unfoldable pub bits_128 : ℕ → List ℕ
bits_128 n = listed 128 (λ i. bit_at n (127 - i))

-- the number with these bits, the highest first, and the bytes
unfoldable pub number_of : List ℕ → ℕ
number_of [] = 0
number_of (bit ∷ bits) = bit * 2 ^ length bits + number_of bits

unfoldable pub bytes_of : List ℕ → List ℕ
bytes_of bits = listed (length bits / 8) (λ i. number_of (take 8 (drop (8 * i) bits)))

-- v times x, modulo x ^ 128 + x ^ 7 + x ^ 2 + x + 1
unfoldable pub times_x : List ℕ → List ℕ
times_x v = cond (eqb (slice_index v 127) 1)
    (xor_with (0 ∷ take 127 v) (1 ∷ 1 ∷ 1 ∷ 0 ∷ 0 ∷ 0 ∷ 0 ∷ 1 ∷ replicate 120 0))
    (0 ∷ take 127 v)

-- the product of two blocks (6.3)
unfoldable pub block_product : List ℕ → List ℕ → List ℕ
block_product [] v = replicate 128 0
block_product (bit ∷ bits) v = cond (eqb bit 1) (xor_with v (block_product bits (times_x v))) (block_product bits (times_x v))

-- GHASH behind y, under the subkey h (6.4)
unfoldable pub ghash_from : List ℕ → List ℕ → List (List ℕ) → List ℕ
ghash_from h y [] = y
ghash_from h y (block ∷ more) = ghash_from h (block_product (xor_with y (bits_of block)) h) more

-- with zeros up to whole blocks
unfoldable pub padded : List ℕ → List ℕ
padded xs = xs ++ replicate ((length xs + 15) / 16 * 16 - length xs) 0

-- what the tag hashes: the data that is only authenticated, the ciphertext, and their lengths in bits
unfoldable pub hashed : List ℕ → List ℕ → List (List ℕ)
hashed aad text = blocks (padded aad ++ padded text ++ to_be_bytes w64 (length aad * 8) ++ to_be_bytes w64 (length text * 8))

-- counter block n of an IV of 12 bytes (7.1, 6.2)
abbrev pub iv_block : List ℕ → ℕ → List ℕ
iv_block iv n = iv ++ to_be_bytes w32 (n % 2 ^ 32)

-- the text under counter blocks n, n + 1, … (6.5)
unfoldable pub gctr_from : (List ℕ → List ℕ) → List ℕ → ℕ → List (List ℕ) → List ℕ
gctr_from e iv n [] = []
gctr_from e iv n (block ∷ more) = xor_with block (e (iv_block iv n)) ++ gctr_from e iv (n + 1) more

-- the ciphertext of a text, or the text of a ciphertext (7.1, 7.2)
unfoldable pub gcm_text : (List ℕ → List ℕ) → List ℕ → List ℕ → List ℕ
gcm_text e iv text = gctr_from e iv 2 (blocks text)

-- the tag of 16 bytes over a ciphertext, by the hash subkey H, the block J0 and the hash S (7.1)
unfoldable pub gcm_tag : (List ℕ → List ℕ) → List ℕ → List ℕ → List ℕ → List ℕ
gcm_tag e iv aad text =
    let h = bits_of (e (replicate 16 0)) in
    let j0 = iv_block iv 1 in
    let s = ghash_from h (replicate 128 0) (hashed aad text) in
    xor_with (bytes_of s) (e j0)
