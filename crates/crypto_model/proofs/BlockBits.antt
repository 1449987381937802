-- Blocks as lists of 128 bits, their sums and their products.
use Rattle.std.proofs.Common.{◌≡◌, ℕ, zero, suc, ◌<◌, ◌≤◌, ◌+◌, ◌-◌, ◌%◌, ◌/◌, ◌^◌, List, [], ◌∷◌, length, take, drop, replicate, refl, ap, sym, ◌∙◌, arith, slice_index, bit_xor, cond, Bool, lit<, true, false, get_or-take}
use Rattle.std.specs.Prelude.{eqb}
use Rattle.std.specs.Int.{bit_at}
use Rattle.std.specs.Int.Bits.{xor_shr, xor_mod, xor_assoc, xor_zero_l, xor_zero_r}
use Rattle.std.proofs.lemmas.Nat.Bits.{bit_at-suc, bit_at_above, bit_at_lowest}
use Rattle.std.proofs.lemmas.List.{ext_get_or, drop_more, length-take-le, drop_all}
use Rattle.std.proofs.lemmas.Bool.{eq-eqb}
use Rattle.crypto_model.specs.Aes.{listed}
use Rattle.crypto_model.specs.Modes.{xor_with}
use Rattle.crypto_model.specs.Gcm.{bits_128, block_product, times_x}
use Rattle.crypto_model.proofs.Listed.{at-listed, length-listed}

pub length-bits_128 : (n : ℕ) → length (bits_128 n) ≡ 128
unfolding bits_128
length-bits_128 n = length-listed 128 _

pub at-bits_128 : (n i : ℕ) → i < 128 → slice_index (bits_128 n) i ≡ bit_at n (127 - i)
unfolding bits_128
at-bits_128 n i h = at-listed 128 _ i h

pub bits_128-zero : bits_128 0 ≡ replicate 128 0
unfolding bits_128 listed
bits_128-zero = refl

-- ---- sums

pub length-xor_with : (xs ys : List ℕ) → length xs ≤ length ys → length (xor_with xs ys) ≡ length xs
unfolding xor_with
length-xor_with [] ys h = refl
length-xor_with (x ∷ xs) [] h = absurd (omega arith)
length-xor_with (x ∷ xs) (y ∷ ys) h = ap suc (length-xor_with xs ys (omega arith))

pub at-xor_with : (xs ys : List ℕ) (i : ℕ) → length xs ≤ length ys → i < length xs → slice_index (xor_with xs ys) i ≡ bit_xor (slice_index xs i) (slice_index ys i)
unfolding xor_with
at-xor_with [] ys i h l = absurd (omega arith)
at-xor_with (x ∷ xs) [] i h l = absurd (omega arith)
at-xor_with (x ∷ xs) (y ∷ ys) zero h l = refl
at-xor_with (x ∷ xs) (y ∷ ys) (suc i) h l = at-xor_with xs ys i (omega arith) (omega arith)

pub xor_with-assoc : (xs ys zs : List ℕ) → xor_with (xor_with xs ys) zs ≡ xor_with xs (xor_with ys zs)
unfolding xor_with
xor_with-assoc [] ys zs = refl
xor_with-assoc (x ∷ xs) [] zs = refl
xor_with-assoc (x ∷ xs) (y ∷ ys) [] = refl
xor_with-assoc (x ∷ xs) (y ∷ ys) (z ∷ zs) = rw (xor_assoc x y z, xor_with-assoc xs ys zs) refl

pub xor_with-zeros : (xs : List ℕ) (n : ℕ) → length xs ≡ n → xor_with xs (replicate n 0) ≡ xs
unfolding xor_with
xor_with-zeros [] zero h = refl
xor_with-zeros [] (suc n) h = refl
xor_with-zeros (x ∷ xs) zero h = absurd (omega arith)
xor_with-zeros (x ∷ xs) (suc n) h = rw (xor_zero_r x, xor_with-zeros xs n (omega arith)) refl

pub zeros-xor_with : (xs : List ℕ) (n : ℕ) → length xs ≡ n → xor_with (replicate n 0) xs ≡ xs
unfolding xor_with
zeros-xor_with [] zero h = refl
zeros-xor_with [] (suc n) h = refl
zeros-xor_with (x ∷ xs) zero h = absurd (omega arith)
zeros-xor_with (x ∷ xs) (suc n) h = rw (xor_zero_l x, zeros-xor_with xs n (omega arith)) refl

bit_at-xor : (a b i : ℕ) → bit_at (bit_xor a b) i ≡ bit_xor (bit_at a i) (bit_at b i)
bit_at-xor a b i = ap (λ (z : ℕ). z % 2 ^ 1) (xor_shr a b i) ∙ xor_mod (a / 2 ^ i) (b / 2 ^ i) 1

pub bits_128-xor : (a b : ℕ) → bits_128 (bit_xor a b) ≡ xor_with (bits_128 a) (bits_128 b)
bits_128-xor a b =
    let as_long : length (bits_128 a) ≤ length (bits_128 b) = omega (arith, length-bits_128 a, length-bits_128 b) in
    let long : length (xor_with (bits_128 a) (bits_128 b)) ≡ 128 = length-xor_with (bits_128 a) (bits_128 b) as_long ∙ length-bits_128 a in
    ext_get_or 0 (bits_128 (bit_xor a b)) (xor_with (bits_128 a) (bits_128 b)) (length-bits_128 (bit_xor a b) ∙ sym long)
    (λ i h.
    let inside : i < 128 = omega (arith, length-bits_128 (bit_xor a b)) in
    at-bits_128 (bit_xor a b) i inside ∙ bit_at-xor a b (127 - i)
    ∙ sym (at-xor_with (bits_128 a) (bits_128 b) i as_long (omega (arith, length-bits_128 a)) ∙ rw (at-bits_128 a i inside, at-bits_128 b i inside) refl))

-- ---- products with x

at_half : (v i : ℕ) → v < 2 ^ 128 → i < 128 → bit_at (v / 2) (127 - i) ≡ slice_index (0 ∷ take 127 (bits_128 v)) i
at_half v zero small h = sym (bit_at-suc v 127) ∙ bit_at_above v 128 128 small (omega arith)
at_half v (suc i) small h =
    let inside : i < 127 = omega arith in
    let place : suc (127 - suc i) ≡ 127 - i = omega arith in
    sym (bit_at-suc v (127 - suc i)) ∙ ap (bit_at v) place ∙ sym (get_or-take 127 (bits_128 v) i 0 inside ∙ at-bits_128 v i (omega arith))

bits_128-half : (v : ℕ) → v < 2 ^ 128 → bits_128 (v / 2) ≡ 0 ∷ take 127 (bits_128 v)
bits_128-half v small = ext_get_or 0 (bits_128 (v / 2)) (0 ∷ take 127 (bits_128 v))
    (length-bits_128 (v / 2) ∙ sym (ap suc (length-take-le 127 (bits_128 v) (omega (arith, length-bits_128 v)))))
    (λ i h. at-bits_128 (v / 2) i (omega (arith, length-bits_128 (v / 2))) ∙ at_half v i small (omega (arith, length-bits_128 (v / 2))))

modulus_bits : bits_128 0xe1000000000000000000000000000000 ≡ 1 ∷ 1 ∷ 1 ∷ 0 ∷ 0 ∷ 0 ∷ 0 ∷ 1 ∷ replicate 120 0
unfolding bits_128 listed
modulus_bits = refl

last_bit : (v : ℕ) → slice_index (bits_128 v) 127 ≡ v % 2
last_bit v = at-bits_128 v 127 (lit< tt) ∙ bit_at_lowest v

pub times_x_odd : (v : ℕ) → v < 2 ^ 128 → v % 2 ≡ 1 → bits_128 (bit_xor (v / 2) 0xe1000000000000000000000000000000) ≡ times_x (bits_128 v)
unfolding times_x
times_x_odd v small odd =
    let e : eqb (slice_index (bits_128 v) 127) 1 ≡ true = eq-eqb _ _ (last_bit v ∙ odd) in
    rw (bits_128-xor, bits_128-half v small, modulus_bits, e) refl

pub times_x_even : (v : ℕ) → v < 2 ^ 128 → ¬ (v % 2 ≡ 1) → bits_128 (v / 2) ≡ times_x (bits_128 v)
unfolding times_x
times_x_even v small even =
    let none : v % 2 ≡ 0 = omega arith in
    let e : eqb (slice_index (bits_128 v) 127) 1 ≡ false = rw (last_bit v, none) refl in
    rw (bits_128-half v small, e) refl

cond_length : (b : Bool) (xs ys : List ℕ) (n : ℕ) → length xs ≡ n → length ys ≡ n → length (cond b xs ys) ≡ n
cond_length true xs ys n h k = h
cond_length false xs ys n h k = k

pub length-times_x : (v : List ℕ) → length v ≡ 128 → length (times_x v) ≡ 128
unfolding times_x
length-times_x v h =
    let l : length (0 ∷ take 127 v) ≡ 128 = ap suc (length-take-le 127 v (omega arith)) in
    cond_length (eqb (slice_index v 127) 1) _ _ 128 (length-xor_with _ _ (omega (arith, l)) ∙ l) l

-- ---- products

pub length-block_product : (bits v : List ℕ) → length v ≡ 128 → length (block_product bits v) ≡ 128
unfolding block_product
length-block_product [] v h = refl
length-block_product (b ∷ bits) v h =
    let i = length-block_product bits (times_x v) (length-times_x v h) in
    cond_length (eqb b 1) _ _ 128 (length-xor_with _ _ (omega (arith, h, i)) ∙ h) i

-- before the first bit of x is taken
pub product_begins : (x y : ℕ) → xor_with (bits_128 0) (block_product (drop 0 (bits_128 x)) (bits_128 y)) ≡ block_product (bits_128 x) (bits_128 y)
product_begins x y = rw bits_128-zero (zeros-xor_with _ 128 (length-block_product (bits_128 x) (bits_128 y) (length-bits_128 y)))

-- bit i of x is 1
pub bit_taken : (x z v w i : ℕ) (p : List ℕ) → i < 128 → bit_at x (127 - i) ≡ 1 → xor_with (bits_128 z) (block_product (drop i (bits_128 x)) (bits_128 v)) ≡ p
    → bits_128 w ≡ times_x (bits_128 v) → xor_with (bits_128 (bit_xor z v)) (block_product (drop (i + 1) (bits_128 x)) (bits_128 w)) ≡ p
unfolding block_product
bit_taken x z v w i p inside one before next =
    let h : slice_index (bits_128 x) i ≡ 1 = at-bits_128 x i inside ∙ one in
    let d : drop i (bits_128 x) ≡ 1 ∷ drop (i + 1) (bits_128 x) = drop_more (bits_128 x) i 0 (omega (arith, length-bits_128 x)) ∙ rw h refl in
    sym (sym before ∙ rw (d, bits_128-xor, next, xor_with-assoc) refl)

-- it is 0
pub bit_left : (x z v w i : ℕ) (p : List ℕ) → i < 128 → bit_at x (127 - i) ≡ 0 → xor_with (bits_128 z) (block_product (drop i (bits_128 x)) (bits_128 v)) ≡ p
    → bits_128 w ≡ times_x (bits_128 v) → xor_with (bits_128 z) (block_product (drop (i + 1) (bits_128 x)) (bits_128 w)) ≡ p
unfolding block_product
bit_left x z v w i p inside none before next =
    let h : slice_index (bits_128 x) i ≡ 0 = at-bits_128 x i inside ∙ none in
    let d : drop i (bits_128 x) ≡ 0 ∷ drop (i + 1) (bits_128 x) = drop_more (bits_128 x) i 0 (omega (arith, length-bits_128 x)) ∙ rw h refl in
    sym (sym before ∙ rw (d, next) refl)

-- no bit is left
pub product_ends : (x z v i : ℕ) (p : List ℕ) → 128 ≤ i → xor_with (bits_128 z) (block_product (drop i (bits_128 x)) (bits_128 v)) ≡ p → bits_128 z ≡ p
unfolding block_product
product_ends x z v i p past e =
    let d : drop i (bits_128 x) ≡ [] = drop_all i (bits_128 x) (omega (arith, length-bits_128 x)) in
    sym (sym e ∙ rw d (xor_with-zeros (bits_128 z) 128 (length-bits_128 z)))
