-- The tag of a ciphertext that grows.
use Rattle.std.proofs.Common.{◌≡◌, ℕ, ◌+◌, ◌-◌, ◌*◌, ◌%◌, ◌/◌, ◌^◌, List, [], ◌∷◌, ◌++◌, length, replicate, refl, ap, ◌∙◌, arith, length-append, append_assoc}
use Rattle.std.specs.Int.{w64, to_be_bytes}
use Rattle.std.proofs.lemmas.List.{length-replicate}
use Rattle.crypto_model.specs.Aes.{cipher}
use Rattle.crypto_model.specs.Modes.{xor_with, blocks}
use Rattle.crypto_model.specs.Gcm.{bytes_of, iv_block, padded, gcm_tag, ghash_from, hashed}
use Rattle.gcm_core.specs.Subkey.{subkey}

pub filled_whole : (xs : List ℕ) → length (padded xs) % 16 ≡ 0
unfolding padded
filled_whole xs =
    let more = (length xs + 15) / 16 * 16 - length xs in
    omega (arith, length-append xs (replicate more 0), length-replicate {A = ℕ} more 0)

padded-append : (xs ys : List ℕ) → length xs % 16 ≡ 0 → padded (xs ++ ys) ≡ xs ++ padded ys
unfolding padded
padded-append xs ys whole =
    let count : (length (xs ++ ys) + 15) / 16 * 16 - length (xs ++ ys) ≡ (length ys + 15) / 16 * 16 - length ys = omega (arith, length-append xs ys) in
    rw count (append_assoc xs ys (replicate ((length ys + 15) / 16 * 16 - length ys) 0))

cons_same : (x y : ℕ) (xs ys : List ℕ) → x ≡ y → xs ≡ ys → x ∷ xs ≡ y ∷ ys
cons_same x y xs ys e f = rw (e, f) refl

-- eight bytes are those of a number modulo 2 ^ 64
eight_bytes : (n : ℕ) → to_be_bytes w64 (n % 2 ^ 64) ≡ to_be_bytes w64 n
eight_bytes n =
    cons_same _ _ _ _ (omega arith) (cons_same _ _ _ _ (omega arith) (cons_same _ _ _ _ (omega arith) (cons_same _ _ _ _ (omega arith)
    (cons_same _ _ _ _ (omega arith) (cons_same _ _ _ _ (omega arith) (cons_same _ _ _ _ (omega arith) (cons_same _ _ [] [] (omega arith) refl)))))))

-- the bits of so many bytes, counted modulo 2 ^ 64
bits_counted : (n len : ℕ) (bytes : List ℕ) → n ≡ len % 2 ^ 64 → bytes ≡ to_be_bytes w64 (n * 8 % 2 ^ 64) → bytes ≡ to_be_bytes w64 (len * 8)
bits_counted n len bytes count is =
    let same : n * 8 % 2 ^ 64 ≡ len * 8 % 2 ^ 64 = omega (arith, count) in
    is ∙ ap (to_be_bytes w64) same ∙ eight_bytes (len * 8)

-- what is hashed: the text that was fed, its last block padded, and the two lengths
pub hashed_is : (aad text first second : List ℕ) (m n : ℕ) → m ≡ length aad % 2 ^ 64 → n ≡ length text % 2 ^ 64
    → first ≡ to_be_bytes w64 (m * 8 % 2 ^ 64) → second ≡ to_be_bytes w64 (n * 8 % 2 ^ 64)
    → blocks (padded (padded aad ++ text) ++ first ++ second) ≡ hashed aad text
unfolding hashed
hashed_is aad text first second m n aad_long text_long first_is second_is =
    rw (padded-append (padded aad) text (filled_whole aad), bits_counted m (length aad) first aad_long first_is, bits_counted n (length text) second text_long second_is) refl

pub hashed_whole : (xs first second : List ℕ) (m n : ℕ) → first ≡ to_be_bytes w64 m → second ≡ to_be_bytes w64 n → length (padded xs ++ first ++ second) % 16 ≡ 0
hashed_whole xs first second m n first_is second_is =
    omega (arith, length-append (padded xs ++ first) second, length-append (padded xs) first, filled_whole xs, ap length first_is, ap length second_is)

pub tag_is : (key iv aad text mask sum tag : List ℕ) → mask ≡ cipher key (iv_block iv 1) → sum ≡ bytes_of (ghash_from (subkey key) (replicate 128 0) (hashed aad text))
    → tag ≡ xor_with sum mask → tag ≡ gcm_tag (cipher key) iv aad text
unfolding gcm_tag subkey
tag_is key iv aad text mask sum tag mask_is sum_is made = made ∙ rw (sum_is, mask_is) refl
