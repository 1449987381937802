-- Steps of the product of two polynomials.
use Rattle.std.proofs.Common.{◌≡◌, ◌≢◌, ℕ, suc, ◌+◌, ◌-◌, ◌*◌, ◌/◌, ◌%◌, ◌^◌, ◌<◌, refl, ◌∙◌, sym, arith, bit_and, bit_xor, add-one, lit<}
use Rattle.std.specs.Int.{bit_at}
use Rattle.std.proofs.lemmas.Nat.{shr_split, xor_block, shl_below, shr_below, shl_whole, pow_pos, pow-add, mod_below, xor_lt}
use Rattle.std.proofs.lemmas.Nat.Bits.{bit_at-lt, shr_and_one}
use Rattle.std.specs.Int.Bits.{xor_zero_r}
use Rattle.crypto_model.specs.Field.{times, remainder}

pub times_more : (a b n p q : ℕ) → p ≡ times a b n → bit_at b n ≡ 1 → q ≡ bit_xor p (a * 2 ^ n) → q ≡ times a b (n + 1)
unfolding times
times_more a b n p q e one f =
    let u : 1 * (a * 2 ^ n) ≡ a * 2 ^ n = omega arith in
    rw (f, e, add-one, one, u) refl

pub times_same : (a b n p q : ℕ) → p ≡ times a b n → bit_at b n ≡ 0 → q ≡ p → q ≡ times a b (n + 1)
unfolding times
times_same a b n p q e none f =
    let u : 0 * (a * 2 ^ n) ≡ 0 = omega arith in
    rw (f, e, add-one, none, u) (sym (xor_zero_r _))

top_bit : (p k : ℕ) → p < 2 ^ (k + 1) → p / 2 ^ k ≡ bit_at p k
top_bit p k h =
    let e : k + 1 ≡ 1 + k = omega arith in
    let q : p / 2 ^ k < 2 ^ 1 = shr_below p 1 k (rw e at h) in
    omega arith

pub low_from_clear : (p k : ℕ) → p < 2 ^ (k + 1) → bit_at p k ≡ 0 → p < 2 ^ k
low_from_clear p k h e =
    let s = shr_split p k in
    let m : p % 2 ^ k < 2 ^ k = mod_below p (2 ^ k) (pow_pos k) in
    let q : p / 2 ^ k ≡ 0 = top_bit p k h ∙ e in
    let z : 0 * 2 ^ k + p % 2 ^ k ≡ p = rw q at s in
    omega arith

pub split_at_top : (p k : ℕ) → p < 2 ^ (k + 1) → bit_at p k ≡ 1 → p ≡ 1 * 2 ^ k + p % 2 ^ k
split_at_top p k h e =
    let s = shr_split p k in
    let q : p / 2 ^ k ≡ 1 = top_bit p k h ∙ e in
    sym (rw q at s)

xor_tops : (k p m r s : ℕ) → p ≡ 1 * 2 ^ k + r → m ≡ 1 * 2 ^ k + s → r < 2 ^ k → s < 2 ^ k → bit_xor p m < 2 ^ k
xor_tops k p m r s e f h g =
    let x : bit_xor p m ≡ 0 * 2 ^ k + bit_xor r s = rw (e, f) (xor_block k 1 1 r s h g) in
    let b : bit_xor r s < 2 ^ k = xor_lt k r s h g in
    omega arith

degree_falls : (p n : ℕ) → p < 2 ^ (8 + n + 1) → bit_at p (8 + n) ≡ 1 → bit_xor p (0x11b * 2 ^ n) < 2 ^ (8 + n)
degree_falls p n h e =
    let m : p % 2 ^ (8 + n) < 2 ^ (8 + n) = mod_below p (2 ^ (8 + n)) (pow_pos (8 + n)) in
    let s : 0x1b * 2 ^ n < 2 ^ (8 + n) = shl_below 0x1b 8 n (lit< tt) in
    let w : 2 ^ (8 + n) ≡ 2 ^ 8 * 2 ^ n = pow-add 2 8 n in
    xor_tops (8 + n) p (0x11b * 2 ^ n) (p % 2 ^ (8 + n)) (0x1b * 2 ^ n) (split_at_top p (8 + n) h e) (omega arith) m s

-- the coefficient of x ^ (15 - n) is cleared, where it is 1
pub degree_cleared : (p q n r : ℕ) → n < 8 → (p < 2 ^ (16 - n)) × (remainder p (8 - n) ≡ r) → bit_at p (15 - n) ≡ 1 → q ≡ bit_xor p (0x11b * 2 ^ (7 - n))
    → (q < 2 ^ (16 - (n + 1))) × (remainder q (8 - (n + 1)) ≡ r)
unfolding remainder
degree_cleared p q n r h i one e =
    let a : 16 - n ≡ 8 + (7 - n) + 1 = omega arith in
    let b : 15 - n ≡ 8 + (7 - n) = omega arith in
    let c : 16 - (n + 1) ≡ 8 + (7 - n) = omega arith in
    let d : 8 - (n + 1) ≡ 7 - n = omega arith in
    let f : 8 - n ≡ suc (7 - n) = omega arith in
    let o : bit_at p (8 + (7 - n)) ≡ 1 = rw b at one in
    let x : remainder (bit_xor p (bit_at p (8 + (7 - n)) * (0x11b * 2 ^ (7 - n)))) (7 - n) ≡ r = rw f at i.1 in
    let u : 1 * (0x11b * 2 ^ (7 - n)) ≡ 0x11b * 2 ^ (7 - n) = omega arith in
    (rw (e, c) (degree_falls p (7 - n) (rw a at i.0) o), rw (e, d) (rw (o, u) at x))

-- it is 0 already
pub degree_clear : (p q n r : ℕ) → n < 8 → (p < 2 ^ (16 - n)) × (remainder p (8 - n) ≡ r) → bit_at p (15 - n) ≡ 0 → q ≡ p
    → (q < 2 ^ (16 - (n + 1))) × (remainder q (8 - (n + 1)) ≡ r)
unfolding remainder
degree_clear p q n r h i none e =
    let a : 16 - n ≡ 8 + (7 - n) + 1 = omega arith in
    let b : 15 - n ≡ 8 + (7 - n) = omega arith in
    let c : 16 - (n + 1) ≡ 8 + (7 - n) = omega arith in
    let d : 8 - (n + 1) ≡ 7 - n = omega arith in
    let f : 8 - n ≡ suc (7 - n) = omega arith in
    let o : bit_at p (8 + (7 - n)) ≡ 0 = rw b at none in
    let x : remainder (bit_xor p (bit_at p (8 + (7 - n)) * (0x11b * 2 ^ (7 - n)))) (7 - n) ≡ r = rw f at i.1 in
    let u : 0 * (0x11b * 2 ^ (7 - n)) ≡ 0 = omega arith in
    (rw (e, c) (low_from_clear p (8 + (7 - n)) (rw a at i.0) o), rw (e, d) (rw (o, u, xor_zero_r) at x))

-- a bit that is not 1 is 0
pub clear_bit : (n k : ℕ) → (bit_and (n / 2 ^ k) 1 ≡ 1 → ⊥) → bit_at n k ≡ 0
clear_bit n k h =
    let e : bit_and (n / 2 ^ k) 1 ≡ bit_at n k = shr_and_one n k in
    let b : bit_at n k < 2 = bit_at-lt n k in
    let g : bit_at n k ≢ 1 = λ x. h (e ∙ x) in
    omega arith

pub set_bit : (n k : ℕ) → bit_and (n / 2 ^ k) 1 ≡ 1 → bit_at n k ≡ 1
set_bit n k h = sym (shr_and_one n k) ∙ h

pub shifted_fits : (a n : ℕ) → a < 2 ^ 8 → n < 8 → a * 2 ^ n % 65536 ≡ a * 2 ^ n
shifted_fits a n h l = shl_whole a 8 n 16 h (omega arith)

pub modulus_fits : (n : ℕ) → n < 8 → 283 * 2 ^ (7 - n) % 65536 ≡ 283 * 2 ^ (7 - n)
modulus_fits n l = shl_whole 283 9 (7 - n) 16 (lit< tt) (omega arith)
