-- CBC and CTR (SP 800-38A) over any block cipher: a function from a block of 16 bytes to one.
use Rattle.std.specs.Prelude.{ℕ, zero, suc, ◌+◌, ◌/◌, ◌%◌, ◌^◌, List, [], ◌∷◌, ◌++◌, length, take, drop, bit_xor}
use Rattle.std.specs.Int.{w128, from_be_bytes, to_be_bytes}

-- the exclusive or, as far as both lists go
unfoldable pub xor_with : List ℕ → List ℕ → List ℕ
xor_with [] ys = []
xor_with (x ∷ xs) [] = []
xor_with (x ∷ xs) (y ∷ ys) = bit_xor x y ∷ xor_with xs ys

-- n blocks of 16 bytes, of which the last may be cut
unfoldable pub cut : ℕ → List ℕ → List (List ℕ)
cut zero xs = []
cut (suc n) xs = take 16 xs ∷ cut n (drop 16 xs)

unfoldable pub blocks : List ℕ → List (List ℕ)
blocks xs = cut ((length xs + 15) / 16) xs

-- the number of a counter block, and the counter block of a number
unfoldable pub counter_of : List ℕ → ℕ
counter_of block = from_be_bytes w128 block % 2 ^ 128

unfoldable pub counter_block : ℕ → List ℕ
counter_block t = to_be_bytes w128 t

-- CTR from the counter t on (6.5), which steps as a number of 128 bits (appendix B.1)
unfoldable pub ctr_from : (List ℕ → List ℕ) → ℕ → List (List ℕ) → List ℕ
ctr_from e t [] = []
ctr_from e t (block ∷ more) = xor_with block (e (counter_block t)) ++ ctr_from e ((t + 1) % 2 ^ 128) more

unfoldable pub ctr : (List ℕ → List ℕ) → List ℕ → List ℕ → List ℕ
ctr e iv text = ctr_from e (counter_of iv) (blocks text)

-- CBC encryption behind the block c (6.2)
unfoldable pub cbc_encrypt_from : (List ℕ → List ℕ) → List ℕ → List (List ℕ) → List ℕ
cbc_encrypt_from e c [] = []
cbc_encrypt_from e c (p ∷ more) = e (xor_with p c) ++ cbc_encrypt_from e (e (xor_with p c)) more

unfoldable pub cbc_encrypt : (List ℕ → List ℕ) → List ℕ → List ℕ → List ℕ
cbc_encrypt e iv text = cbc_encrypt_from e iv (blocks text)

-- CBC decryption behind the block c, with the inverse cipher d (6.2)
unfoldable pub cbc_decrypt_from : (List ℕ → List ℕ) → List ℕ → List (List ℕ) → List ℕ
cbc_decrypt_from d c [] = []
cbc_decrypt_from d c (x ∷ more) = xor_with (d x) c ++ cbc_decrypt_from d x more

unfoldable pub cbc_decrypt : (List ℕ → List ℕ) → List ℕ → List ℕ → List ℕ
cbc_decrypt d iv text = cbc_decrypt_from d iv (blocks text)
