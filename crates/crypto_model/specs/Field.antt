-- Bytes as polynomials over GF(2): bit k of a number is the coefficient of x ^ k (FIPS 197, 4).
use Rattle.std.specs.Prelude.{ℕ, zero, suc, ◌+◌, ◌*◌, ◌%◌, ◌^◌, eqb, cond, bit_xor}
use Rattle.std.specs.Int.{bit_at}

-- a times the part of b below x ^ n
unfoldable pub times : ℕ → ℕ → ℕ → ℕ
times a b zero = 0
times a b (suc n) = bit_xor (times a b n) (bit_at b n * (a * 2 ^ n))

-- the remainder of p, of degree below 8 + n, modulo x ^ 8 + x ^ 4 + x ^ 3 + x + 1
unfoldable pub remainder : ℕ → ℕ → ℕ
remainder p zero = p
remainder p (suc n) = remainder (bit_xor p (bit_at p (8 + n) * (0x11b * 2 ^ n))) n

-- the product of two bytes in GF(2 ^ 8) (4.2)
unfoldable pub product : ℕ → ℕ → ℕ
product a b = remainder (times a b 8) 8

-- the last number below n whose product with b is 1, or 0 where there is none
unfoldable pub inverse_below : ℕ → ℕ → ℕ
inverse_below b zero = 0
inverse_below b (suc n) = cond (eqb (product b n) 1) n (inverse_below b n)

-- the number whose product with b is 1, and 0 for 0
unfoldable pub inverse : ℕ → ℕ
inverse b = inverse_below b 256

-- bit i of the affine step of SubBytes (5.1.1)
abbrev pub affine_bit : ℕ → ℕ → ℕ
affine_bit b i = (bit_at b i + bit_at b ((i + 4) % 8) + bit_at b ((i + 5) % 8) + bit_at b ((i + 6) % 8)
    + bit_at b ((i + 7) % 8) + bit_at 0x63 i) % 2

-- the number of the bits f 0, …, f (n - 1), the lowest first
unfoldable pub of_bits : (ℕ → ℕ) → ℕ → ℕ
of_bits f zero = 0
of_bits f (suc n) = of_bits f n + f n * 2 ^ n

-- SubBytes on a byte (5.1.1)
unfoldable pub sub_byte : ℕ → ℕ
sub_byte b = of_bits (affine_bit (inverse b)) 8
