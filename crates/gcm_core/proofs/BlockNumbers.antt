-- Blocks of sixteen bytes as numbers.
use Rattle.std.proofs.Common.{◌≡◌, ℕ, suc, ◌<◌, ◌+◌, ◌-◌, ◌*◌, ◌%◌, ◌/◌, ◌^◌, List, [], ◌∷◌, length, refl, ap, sym, ◌∙◌, arith, slice_index, lit<, inl, inr}
use Rattle.std.specs.Int.{w128, bit_at, from_be_bytes, to_be_bytes}
use Rattle.std.proofs.lemmas.Nat.{pow-add, mul-add-lt, shr-shr}
use Rattle.std.proofs.lemmas.Nat.Bits.{bit_at_cat_high, bit_at_cat_low}
use Rattle.std.proofs.lemmas.Bool.{cases_lt}
use Rattle.std.proofs.lemmas.Simd.{pick_l_whole}
use Rattle.std.proofs.lemmas.List.{ext_get_or, get_or_append_left, get_or-append_right}
use Rattle.crypto_model.specs.Aes.{listed}
use Rattle.crypto_model.specs.Gcm.{bits_128, bits_of, bytes_of, number_of}
use Rattle.crypto_model.proofs.Listed.{at-listed, length-listed}
use Rattle.crypto_model.proofs.BlockBits.{length-bits_128, at-bits_128}

-- ---- the number of a block

-- of any number of bytes
abbrev joined : List ℕ → ℕ
joined [] = 0
joined (b ∷ bs) = b * 2 ^ (8 * length bs) + joined bs

joined-lt : (bs : List ℕ) → ((k : ℕ) → slice_index bs k < 256) → joined bs < 2 ^ (8 * length bs)
joined-lt [] bytes = lit< tt
joined-lt (b ∷ bs) bytes =
    let below = joined-lt bs (λ k. bytes (suc k)) in
    let power : 2 ^ (8 * suc (length bs)) ≡ 2 ^ (8 * length bs) * 256 = ap (λ (n : ℕ). 2 ^ n) (omega arith) ∙ pow-add 2 (8 * length bs) 8 in
    rw power (mul-add-lt b (2 ^ (8 * length bs)) (joined bs) 256 (bytes 0) below)

joined-block : (bs : List ℕ) → length bs ≡ 16 → joined bs ≡ from_be_bytes w128 bs
joined-block bs long = ap joined (sym (pick_l_whole 0 bs 16 long)) ∙ omega arith

pub length-bits_of : (bs : List ℕ) → length (bits_of bs) ≡ 8 * length bs
unfolding bits_of listed
length-bits_of [] = refl
length-bits_of (b ∷ bs) = let more = length-bits_of bs in omega (arith, more)

at-bits_of : (bs : List ℕ) (i : ℕ) → ((k : ℕ) → slice_index bs k < 256) → i < 8 * length bs → slice_index (bits_of bs) i ≡ bit_at (joined bs) (8 * length bs - 1 - i)
unfolding bits_of
at-bits_of [] i bytes inside = absurd (omega arith)
at-bits_of (b ∷ bs) i bytes inside =
    let first = listed 8 (λ j. bit_at b (7 - j)) in
    let long = length-listed 8 (λ j. bit_at b (7 - j)) in
    elim (cases_lt i 8) [
      | inl low ↦
          let place : 8 * suc (length bs) - 1 - i - 8 * length bs ≡ 7 - i = omega arith in
          get_or_append_left first (bits_of bs) 0 i (omega (arith, long)) ∙ at-listed 8 (λ j. bit_at b (7 - j)) i low
          ∙ sym (bit_at_cat_high b (8 * length bs) (joined bs) (8 * suc (length bs) - 1 - i) (joined-lt bs (λ k. bytes (suc k))) (omega arith) ∙ ap (bit_at b) place)
      | inr high ↦
          let place : 8 * length bs - 1 - (i - 8) ≡ 8 * suc (length bs) - 1 - i = omega arith in
          get_or-append_right first (bits_of bs) 8 i 0 long high ∙ at-bits_of bs (i - 8) (λ k. bytes (suc k)) (omega arith)
          ∙ ap (bit_at (joined bs)) place ∙ sym (bit_at_cat_low b (8 * length bs) (joined bs) (8 * suc (length bs) - 1 - i) (omega arith))
    ]

pub bits-number : (bs : List ℕ) (n : ℕ) → length bs ≡ 16 → ((k : ℕ) → slice_index bs k < 256) → n ≡ from_be_bytes w128 bs → bits_128 n ≡ bits_of bs
bits-number bs n long bytes e =
    let number : n ≡ joined bs = e ∙ sym (joined-block bs long) in
    ext_get_or 0 (bits_128 n) (bits_of bs) (omega (arith, length-bits_128 n, length-bits_of bs))
    (λ i h.
    let inside : i < 128 = omega (arith, length-bits_128 n) in
    let place : 8 * length bs - 1 - i ≡ 127 - i = omega arith in
    at-bits_128 n i inside ∙ sym (at-bits_of bs i bytes (omega arith) ∙ rw (place, number) refl))

-- ---- the block of a number

nibble_is : (m : ℕ) → m / 8 % 2 * 8 + (m / 4 % 2 * 4 + (m / 2 % 2 * 2 + (m % 2 * 1 + 0))) ≡ m % 16
nibble_is m = omega arith

byte_is : (m : ℕ) → m / 128 % 2 * 128 + (m / 64 % 2 * 64 + (m / 32 % 2 * 32 + (m / 16 % 2 * 16 + (m / 8 % 2 * 8 + (m / 4 % 2 * 4 + (m / 2 % 2 * 2 + (m % 2 * 1 + 0))))))) ≡ m % 256
byte_is m = omega (arith, nibble_is m, nibble_is (m / 16))

-- the byte from bit k on, by its bits
byte_of_bits : (n k : ℕ) → bit_at n (k + 7) * 128 + (bit_at n (k + 6) * 64 + (bit_at n (k + 5) * 32 + (bit_at n (k + 4) * 16 + (bit_at n (k + 3) * 8 + (bit_at n (k + 2) * 4 + (bit_at n (k + 1) * 2 + (bit_at n k * 1 + 0))))))) ≡ n / 2 ^ k % 256
byte_of_bits n k =
    let at : (j : ℕ) → bit_at n (k + j) ≡ n / 2 ^ k / 2 ^ j % 2 = λ j. ap (λ (m : ℕ). m % 2) (sym (shr-shr n k j)) in
    rw (at 7, at 6, at 5, at 4, at 3, at 2, at 1) (byte_is (n / 2 ^ k))

pub bytes-number : (n : ℕ) → bytes_of (bits_128 n) ≡ to_be_bytes w128 n
unfolding bytes_of bits_128 listed number_of
bytes-number n =
    let byte = byte_of_bits n in
    let lowest : n / 1 % 256 ≡ n % 256 = omega arith in
    rw (byte 120, byte 112, byte 104, byte 96, byte 88, byte 80, byte 72, byte 64, byte 56, byte 48, byte 40, byte 32, byte 24, byte 16, byte 8, byte 0, lowest) refl
