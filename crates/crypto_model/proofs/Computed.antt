-- Facts on all bytes that are shown by computing them.
use Rattle.std.proofs.Common.{◌≡◌, ℕ, zero, suc, ◌<◌, Bool, true, false, ◌&&◌, refl, arith, bit_xor, inl, inr}
use Rattle.std.specs.Int.{rotate_left, w8}
use Rattle.std.specs.Prelude.{eqb}
use Rattle.std.proofs.lemmas.Bool.{eqb-true, cases_lt}
use Rattle.crypto_model.specs.Field.{affine_bit, of_bits}

-- whether the test passes at each number below n
unfoldable pub all_below : (ℕ → Bool) → ℕ → Bool
all_below p zero = true
all_below p (suc n) = p n && all_below p n

pub and_first : (a b : Bool) → a && b ≡ true → a ≡ true
and_first true b h = refl
and_first false b h = h

pub and_second : (a b : Bool) → a && b ≡ true → b ≡ true
and_second true b h = h
and_second false b h = cc

pub all_below_at : (p : ℕ → Bool) (n : ℕ) → all_below p n ≡ true → (k : ℕ) → k < n → p k ≡ true
unfolding all_below
all_below_at p zero h k l = absurd (omega arith)
all_below_at p (suc n) h k l = elim (cases_lt k n) [
  | inl a ↦ all_below_at p n (and_second (p n) (all_below p n) h) k a
  | inr b ↦ let e : k ≡ n = omega arith in rw e (and_first (p n) (all_below p n) h)
]

abbrev pub rotated : ℕ → ℕ
rotated c = bit_xor (bit_xor (bit_xor (bit_xor (bit_xor c (rotate_left w8 c 1)) (rotate_left w8 c 2)) (rotate_left w8 c 3)) (rotate_left w8 c 4)) 99

affine_256 : all_below (λ c. eqb (rotated c) (of_bits (affine_bit c) 8)) 256 ≡ true
unfolding all_below of_bits
affine_256 = refl

pub rotated_is_affine : (c : ℕ) → c < 256 → rotated c ≡ of_bits (affine_bit c) 8
rotated_is_affine c l = eqb-true (rotated c) (of_bits (affine_bit c) 8) (all_below_at (λ k. eqb (rotated k) (of_bits (affine_bit k) 8)) 256 affine_256 c l)
