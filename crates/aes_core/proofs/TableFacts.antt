-- What the tables hold, computed at each byte.
use Rattle.std.proofs.Common.{◌≡◌, ℕ, zero, suc, ◌*◌, ◌^◌, ◌≤◌, ◌<◌, Bool, true, eqb, ltb, refl, ap, ◌∙◌, slice_index, bit_xor, eqb-true, ltb-true, lit<, arith}
use Rattle.std.proofs.Math.Nat.{mul-le-mul_right, pow-suc}
use Rattle.crypto_model.proofs.Computed.{all_below, all_below_at}
use Rattle.crypto_model.specs.Field.{times, remainder, product, inverse_below, inverse, of_bits, sub_byte}
use Rattle.aes_core.specs.declared.tables.TheConstants.{SBOX, BASIS_LOW, BASIS_HIGH, SUB_U, SUB_T, DOUBLE_U, DOUBLE_T, PLAIN_U, PLAIN_T}
use Rattle.aes_core.specs.Basis.{chosen_sum, back}
use Rattle.aes_core.specs.Nibbles.{read, high, low, place_u, place_t}

abbrev pub agrees : (ℕ → ℕ) → (ℕ → ℕ) → ℕ → Bool
agrees f g x = eqb (f x) (g x)

pub at_byte : (f g : ℕ → ℕ) → all_below (agrees f g) 256 ≡ true → (x : ℕ) → x < 256 → f x ≡ g x
at_byte f g all x lt = eqb-true _ _ (all_below_at (agrees f g) 256 all x lt)

pub below_at_byte : (f : ℕ → ℕ) → all_below (λ x. ltb (f x) 256) 256 ≡ true → (x : ℕ) → x < 256 → f x < 256
below_at_byte f all x lt = ltb-true _ _ (all_below_at (λ x. ltb (f x) 256) 256 all x lt)

abbrev pub sbox : ℕ → ℕ
sbox x = slice_index SBOX x

sbox_all : all_below (agrees sbox sub_byte) 256 ≡ true
unfolding all_below product remainder times inverse_below inverse of_bits sub_byte
sbox_all = refl

pub sbox_is : (x : ℕ) → x < 256 → sbox x ≡ sub_byte x
sbox_is = at_byte sbox sub_byte sbox_all

-- a byte in the basis, and the tables behind the inversion
abbrev pub based : ℕ → ℕ
based x = bit_xor (read BASIS_LOW (low x)) (read BASIS_HIGH (high x))

abbrev pub sub_within : ℕ → ℕ
sub_within y = bit_xor (read SUB_U (place_u y)) (read SUB_T (place_t y))

abbrev pub double_within : ℕ → ℕ
double_within y = bit_xor (read DOUBLE_U (place_u y)) (read DOUBLE_T (place_t y))

abbrev pub sub_plain : ℕ → ℕ
sub_plain y = bit_xor (bit_xor (read PLAIN_U (place_u y)) (read PLAIN_T (place_t y))) 0x63

back_below_all : all_below (λ y. ltb (back y) 256) 256 ≡ true
unfolding all_below back chosen_sum
back_below_all = refl

pub back_below : (y : ℕ) → y < 256 → back y < 256
back_below = below_at_byte back back_below_all

based_all : all_below (agrees (λ x. back (based x)) (λ x. x)) 256 ≡ true
unfolding all_below back chosen_sum
based_all = refl

pub back-based : (x : ℕ) → x < 256 → back (based x) ≡ x
back-based = at_byte (λ x. back (based x)) (λ x. x) based_all

sub_all : all_below (agrees (λ y. back (sub_within y)) (λ y. bit_xor (sbox (back y)) 0x63)) 256 ≡ true
unfolding all_below back chosen_sum
sub_all = refl

pub back-sub_within : (y : ℕ) → y < 256 → back (sub_within y) ≡ bit_xor (sub_byte (back y)) 0x63
back-sub_within y lt =
    at_byte (λ y. back (sub_within y)) (λ y. bit_xor (sbox (back y)) 0x63) sub_all y lt ∙ ap (λ x. bit_xor x 0x63) (sbox_is (back y) (back_below y lt))

double_all : all_below (agrees (λ y. back (double_within y)) (λ y. bit_xor (product 2 (sbox (back y))) 0xc6)) 256 ≡ true
unfolding all_below back chosen_sum product remainder times
double_all = refl

pub back-double_within : (y : ℕ) → y < 256 → back (double_within y) ≡ bit_xor (product 2 (sub_byte (back y))) 0xc6
back-double_within y lt =
    at_byte (λ y. back (double_within y)) (λ y. bit_xor (product 2 (sbox (back y))) 0xc6) double_all y lt
    ∙ ap (λ x. bit_xor (product 2 x) 0xc6) (sbox_is (back y) (back_below y lt))

plain_all : all_below (agrees sub_plain (λ y. sbox (back y))) 256 ≡ true
unfolding all_below back chosen_sum
plain_all = refl

pub sub_plain_is : (y : ℕ) → y < 256 → sub_plain y ≡ sub_byte (back y)
sub_plain_is y lt = at_byte sub_plain (λ y. sbox (back y)) plain_all y lt ∙ sbox_is (back y) (back_below y lt)

-- products of small numbers with a byte
product_one_all : all_below (agrees (product 1) (λ x. x)) 256 ≡ true
unfolding all_below product remainder times
product_one_all = refl

pub product_one : (x : ℕ) → x < 256 → product 1 x ≡ x
product_one = at_byte (product 1) (λ x. x) product_one_all

product_three_all : all_below (agrees (product 3) (λ x. bit_xor (product 2 x) x)) 256 ≡ true
unfolding all_below product remainder times
product_three_all = refl

pub product_three : (x : ℕ) → x < 256 → product 3 x ≡ bit_xor (product 2 x) x
product_three = at_byte (product 3) (λ x. bit_xor (product 2 x) x) product_three_all

-- SubBytes gives bytes
bits_below : (f : ℕ → ℕ) (n : ℕ) → ((i : ℕ) → f i < 2) → of_bits f n < 2 ^ n
unfolding of_bits
bits_below f zero h = lit< tt
bits_below f (suc n) h =
    let i = bits_below f n h in
    let b = h n in
    let m : f n * 2 ^ n ≤ 1 * 2 ^ n = mul-le-mul_right (2 ^ n) (omega arith) in
    omega (arith, pow-suc 2 n)

pub sub_byte_below : (x : ℕ) → sub_byte x < 256
unfolding sub_byte
sub_byte_below x = bits_below _ 8 (λ i. omega arith)
