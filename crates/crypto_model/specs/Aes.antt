-- AES (FIPS 197) as functions on lists of bytes. The byte in row r and column c of a state stands at r + 4 * c.
use Rattle.std.specs.Prelude.{◌≡◌, ◌⊎◌, ℕ, zero, suc, ◌+◌, ◌-◌, ◌*◌, ◌/◌, ◌%◌, List, [], ◌∷◌, ◌++◌, length, map, eqb, cond, Bool, ◌&&◌, ◌||◌, nat_eq, bit_xor, slice_index}
use Rattle.std.specs.List.{range_with_len}
use Rattle.crypto_model.specs.Field.{product, sub_byte}

-- the list f 0, …, f (n - 1)
unfoldable pub listed : ℕ → (ℕ → ℕ) → List ℕ
listed n f = map f (range_with_len 0 n)

unfoldable pub sub_bytes : List ℕ → List ℕ
sub_bytes s = listed 16 (λ i. sub_byte (slice_index s i))

-- row r moves left by r places
unfoldable pub shift_rows : List ℕ → List ℕ
shift_rows s = listed 16 (λ i. slice_index s ((i + 4 * (i % 4)) % 16))

-- byte i of the state's columns times the matrix with the first row a b c d, and each further row turned one place right
abbrev pub mixed : ℕ → ℕ → ℕ → ℕ → List ℕ → ℕ → ℕ
mixed a b c d s i = let column = i / 4 * 4 in
    bit_xor (bit_xor (bit_xor (product a (slice_index s (column + i % 4)))
    (product b (slice_index s (column + (i + 1) % 4))))
    (product c (slice_index s (column + (i + 2) % 4))))
    (product d (slice_index s (column + (i + 3) % 4)))

unfoldable pub mix_columns : List ℕ → List ℕ
mix_columns s = listed 16 (mixed 2 3 1 1 s)

-- the state with round key r of the key schedule w added
unfoldable pub add_round_key : List ℕ → ℕ → List ℕ → List ℕ
add_round_key w r s = listed 16 (λ i. bit_xor (slice_index s i) (slice_index w (16 * r + i)))

-- x ^ n
unfoldable pub power : ℕ → ℕ
power zero = 1
power (suc n) = product 2 (power n)

-- the lengths that a key can have (5)
abbrev pub IsKeyLength : ℕ → Type 0
IsKeyLength n = (n ≡ 16) ⊎ (n ≡ 24) ⊎ (n ≡ 32)

abbrev pub is_key_length : ℕ → Bool
is_key_length n = nat_eq n 16 || (nat_eq n 24 || nat_eq n 32)

-- the number of rounds (5)
abbrev pub rounds_of : List ℕ → ℕ
rounds_of key = length key / 4 + 6

-- word i of the schedule w
unfoldable pub word_of : List ℕ → ℕ → List ℕ
word_of w i = listed 4 (λ j. slice_index w (4 * i + j))

-- RotWord, SubWord and word n of Rcon (5.2)
unfoldable pub rot_word : List ℕ → List ℕ
rot_word t = listed 4 (λ j. slice_index t ((j + 1) % 4))

unfoldable pub sub_word : List ℕ → List ℕ
sub_word t = listed 4 (λ j. sub_byte (slice_index t j))

abbrev pub rcon : ℕ → List ℕ
rcon n = power (n - 1) ∷ 0 ∷ 0 ∷ 0 ∷ []

unfoldable pub xor_words : List ℕ → List ℕ → List ℕ
xor_words s t = listed 4 (λ j. bit_xor (slice_index s j) (slice_index t j))

-- temp: what is added to word i - Nk of the schedule w, with nk = Nk, of which only 8 is above 6 (5.2)
unfoldable pub temp : ℕ → List ℕ → ℕ → List ℕ
temp nk w i =
    let t = word_of w (i - 1) in
    cond (eqb (i % nk) 0) (xor_words (sub_word (rot_word t)) (rcon (i / nk))) (cond (eqb nk 8 && eqb (i % 8) 4) (sub_word t) t)

-- word i from the words before it
unfoldable pub next_word : ℕ → List ℕ → ℕ → List ℕ
next_word nk w i = xor_words (word_of w (i - nk)) (temp nk w i)

-- the key, and n words behind it
unfoldable pub schedule : List ℕ → ℕ → List ℕ
schedule key zero = key
schedule key (suc n) = schedule key n ++ next_word (length key / 4) (schedule key n) (length key / 4 + n)

-- KeyExpansion (5.2)
unfoldable pub expanded : List ℕ → List ℕ
expanded key = schedule key (4 * (rounds_of key + 1) - length key / 4)

-- the state before round r + 1
unfoldable pub rounds : List ℕ → List ℕ → ℕ → List ℕ
rounds w s zero = add_round_key w 0 s
rounds w s (suc r) = add_round_key w (suc r) (mix_columns (shift_rows (sub_bytes (rounds w s r))))

-- the cipher with the schedule w of n rounds (5.1)
unfoldable pub cipher_with : List ℕ → ℕ → List ℕ → List ℕ
cipher_with w n s = add_round_key w n (shift_rows (sub_bytes (rounds w s (n - 1))))

unfoldable pub cipher : List ℕ → List ℕ → List ℕ
cipher key s = cipher_with (expanded key) (rounds_of key) s

-- ---- the inverse cipher (5.3)

-- the last byte below n that SubBytes takes to c, or 0
unfoldable pub unsub_below : ℕ → ℕ → ℕ
unsub_below c zero = 0
unsub_below c (suc n) = cond (eqb (sub_byte n) c) n (unsub_below c n)

unfoldable pub inverse_sub_bytes : List ℕ → List ℕ
inverse_sub_bytes s = listed 16 (λ i. unsub_below (slice_index s i) 256)

unfoldable pub inverse_shift_rows : List ℕ → List ℕ
inverse_shift_rows s = listed 16 (λ i. slice_index s ((i + 16 - 4 * (i % 4)) % 16))

unfoldable pub inverse_mix_columns : List ℕ → List ℕ
inverse_mix_columns s = listed 16 (mixed 14 11 13 9 s)

-- the state behind r of n rounds
unfoldable pub inverse_rounds : List ℕ → ℕ → List ℕ → ℕ → List ℕ
inverse_rounds w n s zero = add_round_key w n s
inverse_rounds w n s (suc r) =
    inverse_mix_columns (add_round_key w (n - 1 - r) (inverse_sub_bytes (inverse_shift_rows (inverse_rounds w n s r))))

unfoldable pub inverse_cipher_with : List ℕ → ℕ → List ℕ → List ℕ
inverse_cipher_with w n s = add_round_key w 0 (inverse_sub_bytes (inverse_shift_rows (inverse_rounds w n s (n - 1))))

unfoldable pub inverse_cipher : List ℕ → List ℕ → List ℕ
inverse_cipher key s = inverse_cipher_with (expanded key) (rounds_of key) s
