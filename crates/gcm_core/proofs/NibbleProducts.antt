-- Products of blocks, four bits at a time.
use borrow.Author.Count.{below_more, below_none}
use Rattle.std.proofs.Common.{◌≡◌, ℕ, zero, suc, ◌<◌, ◌+◌, ◌-◌, ◌*◌, ◌/◌, ◌%◌, ◌^◌, List, [], ◌∷◌, ◌++◌, length, drop, replicate, refl, ap, sym, ◌∙◌, arith, slice_index, bit_xor, cond, Bool, true, false, subst}
use Rattle.std.specs.Prelude.{eqb, slice_index_or, slice_set}
use Rattle.std.specs.Int.{bit_at}
use Rattle.std.proofs.lemmas.Nat.{shr-shr, xor_comm}
use Rattle.std.proofs.lemmas.List.{drop_more, drop_all, get_or-set_other, get_or-set_same}
use Rattle.crypto_model.specs.Modes.{xor_with}
use Rattle.crypto_model.specs.Gcm.{bits_128, block_product, times_x}
use Rattle.crypto_model.proofs.BlockBits.{at-bits_128, bits_128-xor, bits_128-zero, length-bits_128, length-block_product, length-times_x, xor_with-assoc, xor_with-zeros, zeros-xor_with}
use Rattle.gcm_core.specs.Tables.{times_power, nibble, IsRow}

length-times_power : (n : ℕ) (v : List ℕ) → length v ≡ 128 → length (times_power n v) ≡ 128
unfolding times_power
length-times_power zero v h = h
length-times_power (suc n) v h = length-times_power n (times_x v) (length-times_x v h)

pub times_power-zero : (v : List ℕ) → times_power 0 v ≡ v
unfolding times_power
times_power-zero v = refl

pub times_power-four : (v : List ℕ) → times_power 4 v ≡ times_x (times_x (times_x (times_x v)))
unfolding times_power
times_power-four v = refl

pub times_power-add : (m n k : ℕ) (v : List ℕ) → m + n ≡ k → times_power k v ≡ times_power n (times_power m v)
unfolding times_power
times_power-add zero n k v e = let q : k ≡ n = omega arith in ap (λ (j : ℕ). times_power j v) q
times_power-add (suc m) n zero v e = absurd (omega arith)
times_power-add (suc m) n (suc k) v e = times_power-add m n k (times_x v) (omega arith)

xor_with-comm : (xs ys : List ℕ) → xor_with xs ys ≡ xor_with ys xs
unfolding xor_with
xor_with-comm [] [] = refl
xor_with-comm [] (y ∷ ys) = refl
xor_with-comm (x ∷ xs) [] = refl
xor_with-comm (x ∷ xs) (y ∷ ys) = rw (xor_comm x y, xor_with-comm xs ys) refl

-- ---- a product with some bits, and with those behind them

cond-xor_with : (t : Bool) (v p q : List ℕ) → cond t (xor_with v (xor_with p q)) (xor_with p q) ≡ xor_with (cond t (xor_with v p) p) q
cond-xor_with true v p q = sym (xor_with-assoc v p q)
cond-xor_with false v p q = refl

block_product-append : (bits more v : List ℕ) → length v ≡ 128
    → block_product (bits ++ more) v ≡ xor_with (block_product bits v) (block_product more (times_power (length bits) v))
unfolding block_product times_power
block_product-append [] more v h = sym (zeros-xor_with (block_product more v) 128 (length-block_product more v h))
block_product-append (b ∷ bits) more v h =
    rw (block_product-append bits more (times_x v) (length-times_x v h))
    (cond-xor_with (eqb b 1) v (block_product bits (times_x v)) (block_product more (times_power (length bits) (times_x v))))

-- ---- the sixteen products of a row

added : (e m : ℕ) (v p : List ℕ) → bits_128 e ≡ v → bits_128 m ≡ p → bits_128 (bit_xor e m) ≡ xor_with v p
added e m v p h k = bits_128-xor e m ∙ rw (h, k) refl

alone : (e : ℕ) (v : List ℕ) → bits_128 e ≡ v → bits_128 e ≡ xor_with v (replicate 128 0)
alone e v h = rw (← h) (sym (xor_with-zeros (bits_128 e) 128 (length-bits_128 e)))

abbrev row_of : ℕ → ℕ → ℕ → ℕ → List ℕ
row_of e8 e4 e2 e1 =
    0 ∷ e1 ∷ e2 ∷ bit_xor e2 e1 ∷ e4 ∷ bit_xor e4 e1 ∷ bit_xor e4 e2 ∷ bit_xor e4 (bit_xor e2 e1)
    ∷ e8 ∷ bit_xor e8 e1 ∷ bit_xor e8 e2 ∷ bit_xor e8 (bit_xor e2 e1) ∷ bit_xor e8 e4 ∷ bit_xor e8 (bit_xor e4 e1) ∷ bit_xor e8 (bit_xor e4 e2) ∷ bit_xor e8 (bit_xor e4 (bit_xor e2 e1)) ∷ []

pub is_row : (e8 e4 e2 e1 : ℕ) → bits_128 e4 ≡ times_x (bits_128 e8) → bits_128 e2 ≡ times_x (bits_128 e4) → bits_128 e1 ≡ times_x (bits_128 e2)
    → IsRow (bits_128 e8) (row_of e8 e4 e2 e1)
unfolding block_product
is_row e8 e4 e2 e1 h4 next next' =
    let h2 = next ∙ ap times_x h4 in
    let h1 = next' ∙ ap times_x h2 in
    let f1 = alone e1 _ h1 in
    let f2 = alone e2 _ h2 in
    let f3 = added e2 e1 _ _ h2 f1 in
    let f4 = alone e4 _ h4 in
    let f5 = added e4 e1 _ _ h4 f1 in
    let f6 = added e4 e2 _ _ h4 f2 in
    let f7 = added e4 (bit_xor e2 e1) _ _ h4 f3 in
    let P : ℕ → Type 0 = λ n. bits_128 (slice_index (row_of e8 e4 e2 e1) n) ≡ block_product (nibble n) (bits_128 e8) in
    let p0 = below_more P 0 (below_none P) bits_128-zero in
    let p1 = below_more P 1 p0 f1 in
    let p2 = below_more P 2 p1 f2 in
    let p3 = below_more P 3 p2 f3 in
    let p4 = below_more P 4 p3 f4 in
    let p5 = below_more P 5 p4 f5 in
    let p6 = below_more P 6 p5 f6 in
    let p7 = below_more P 7 p6 f7 in
    let p8 = below_more P 8 p7 (alone e8 _ refl) in
    let p9 = below_more P 9 p8 (added e8 e1 _ _ refl f1) in
    let p10 = below_more P 10 p9 (added e8 e2 _ _ refl f2) in
    let p11 = below_more P 11 p10 (added e8 (bit_xor e2 e1) _ _ refl f3) in
    let p12 = below_more P 12 p11 (added e8 e4 _ _ refl f4) in
    let p13 = below_more P 13 p12 (added e8 (bit_xor e4 e1) _ _ refl f5) in
    let p14 = below_more P 14 p13 (added e8 (bit_xor e4 e2) _ _ refl f6) in
    below_more P 15 p14 (added e8 (bit_xor e4 (bit_xor e2 e1)) _ _ refl f7)

-- ---- the rows of a table

pub four_more : (r v w : ℕ) (h : List ℕ) → bits_128 v ≡ times_power (4 * r) h → bits_128 w ≡ times_x (times_x (times_x (times_x (bits_128 v)))) → bits_128 w ≡ times_power (4 * (r + 1)) h
four_more r v w h before next =
    next ∙ sym (times_power-four (bits_128 v)) ∙ ap (times_power 4) before ∙ sym (times_power-add (4 * r) 4 (4 * (r + 1)) h (omega arith))

pub row_written : (table : List (List ℕ)) (row : List ℕ) (r : ℕ) (h : List ℕ) → r < length table → ((k : ℕ) → k < r → IsRow (times_power (4 * k) h) (slice_index_or table k []))
    → IsRow (times_power (4 * r) h) row → (k : ℕ) → k < r + 1 → IsRow (times_power (4 * k) h) (slice_index_or (slice_set table r row) k [])
row_written table row r h inside before here =
    let P : ℕ → Type 0 = λ k. IsRow (times_power (4 * k) h) (slice_index_or (slice_set table r row) k []) in
    below_more P r (λ k below. subst (IsRow (times_power (4 * k) h)) (sym (get_or-set_other table r k row [] (omega arith))) (before k below))
    (subst (IsRow (times_power (4 * r) h)) (sym (get_or-set_same table r row [] inside)) here)

-- ---- the bits of x, four by four from the last on

next_bit : (x k i j next : ℕ) → i < 128 → 127 - i ≡ k + j → i + 1 ≡ next → x / 2 ^ k / 2 ^ j % 2 ≡ bit_at (x / 2 ^ k % 16) j
    → drop i (bits_128 x) ≡ bit_at (x / 2 ^ k % 16) j ∷ drop next (bits_128 x)
next_bit x k i j next inside place step low =
    let bit : slice_index (bits_128 x) i ≡ bit_at (x / 2 ^ k % 16) j =
    at-bits_128 x i inside ∙ ap (λ (m : ℕ). x / 2 ^ m % 2) place ∙ ap (λ (m : ℕ). m % 2) (sym (shr-shr x k j)) ∙ low in
    drop_more (bits_128 x) i 0 (omega (arith, length-bits_128 x)) ∙ rw (bit, step) refl

nibble_bits : (x s k : ℕ) → s < 32 → k + 4 * s ≡ 124 → drop (4 * s) (bits_128 x) ≡ nibble (x / 2 ^ k % 16) ++ drop (4 * (s + 1)) (bits_128 x)
nibble_bits x s k inside place =
    next_bit x k (4 * s) 3 (4 * s + 1) (omega arith) (omega arith) refl (omega arith)
    ∙ ap (λ (bits : List ℕ). bit_at (x / 2 ^ k % 16) 3 ∷ bits) (next_bit x k (4 * s + 1) 2 (4 * s + 2) (omega arith) (omega arith) (omega arith) (omega arith)
    ∙ ap (λ (bits : List ℕ). bit_at (x / 2 ^ k % 16) 2 ∷ bits) (next_bit x k (4 * s + 2) 1 (4 * s + 3) (omega arith) (omega arith) (omega arith) (omega arith)
    ∙ ap (λ (bits : List ℕ). bit_at (x / 2 ^ k % 16) 1 ∷ bits) (next_bit x k (4 * s + 3) 0 (4 * (s + 1)) (omega arith) (omega arith) (omega arith) (omega arith))))

pub rest_more : (x r s rest : ℕ) → r ≡ s + 1 → s < 32 → rest ≡ x / 2 ^ (4 * (32 - r)) → rest / 16 ≡ x / 2 ^ (4 * (32 - s))
rest_more x r s rest next inside e = ap (λ (m : ℕ). m / 16) e ∙ shr-shr x (4 * (32 - r)) 4 ∙ ap (λ (m : ℕ). x / 2 ^ m) (omega arith)

pub none_taken : (x : ℕ) (h : List ℕ) → bits_128 0 ≡ block_product (drop 128 (bits_128 x)) (times_power 128 h)
unfolding block_product
none_taken x h =
    let none : drop 128 (bits_128 x) ≡ [] = drop_all 128 (bits_128 x) (omega (arith, length-bits_128 x)) in
    rw none bits_128-zero

pub nibble_taken : (x r s rest sum entry : ℕ) (h : List ℕ) → r ≡ s + 1 → s < 32 → length h ≡ 128 → rest ≡ x / 2 ^ (4 * (32 - r))
    → bits_128 sum ≡ block_product (drop (4 * r) (bits_128 x)) (times_power (4 * r) h) → bits_128 entry ≡ block_product (nibble (rest % 16)) (times_power (4 * s) h)
    → bits_128 (bit_xor sum entry) ≡ block_product (drop (4 * s) (bits_128 x)) (times_power (4 * s) h)
nibble_taken x r s rest sum entry h next inside long rest_is before here =
    let v = times_power (4 * s) h in
    let more = drop (4 * (s + 1)) (bits_128 x) in
    let bits : drop (4 * s) (bits_128 x) ≡ nibble (rest % 16) ++ more = rw (rest_is) (nibble_bits x s (4 * (32 - r)) inside (omega arith)) in
    let power : times_power (4 * r) h ≡ times_power 4 v = times_power-add (4 * s) 4 (4 * r) h (omega arith) in
    let sum_is : bits_128 sum ≡ block_product more (times_power 4 v) = rw (power, next) at before in
    bits_128-xor sum entry ∙ xor_with-comm (bits_128 sum) (bits_128 entry) ∙ rw (here, sum_is, bits) (sym (block_product-append (nibble (rest % 16)) more v (length-times_power (4 * s) h long)))

pub all_taken : (x r sum : ℕ) (h : List ℕ) → r ≡ 0 → bits_128 sum ≡ block_product (drop (4 * r) (bits_128 x)) (times_power (4 * r) h) → bits_128 sum ≡ block_product (bits_128 x) h
all_taken x r sum h none before = rw (none, times_power-zero h) at before
