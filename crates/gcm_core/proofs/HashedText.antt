-- GHASH of a text that grows.
use Rattle.std.proofs.Common.{◌≡◌, ℕ, zero, suc, ◌<◌, ◌≤◌, ◌+◌, ◌-◌, ◌*◌, ◌%◌, ◌/◌, List, [], ◌∷◌, ◌++◌, length, take, drop, replicate, bit_xor, refl, ap, sym, ◌∙◌, arith, length-append, length-drop, length-take, append_assoc, subst}
use Rattle.std.specs.Prelude.{slice_index_or}
use Rattle.std.specs.Simd.{first_chunks}
use Rattle.std.proofs.lemmas.List.{append-nil, drop-append-le, drop_all, take-append-drop, take-append-le, take_all, take_more, take-replicate}
use Rattle.std.proofs.lemmas.Slice.{drop-put_mid, take-put_mid}
use borrow.Rule.Slice.PartMut.{put_mid}
use Rattle.crypto_model.specs.Aes.{cipher, cipher_with, add_round_key, listed}
use Rattle.crypto_model.specs.Modes.{xor_with, cut, blocks}
use Rattle.crypto_model.specs.Gcm.{bits_128, bits_of, block_product, padded, ghash_from}
use Rattle.crypto_model.proofs.BlockBits.{bits_128-xor, bits_128-zero}
use Rattle.gcm_core.specs.Subkey.{subkey}
use Rattle.gcm_core.specs.Hashing.{IsHashed}
use Rattle.gcm_core.specs.declared.hash.Ghash.{Ghash}
use Rattle.gcm_core.proofs.BlockNumbers.{length-bits_of}

pub length-cipher : (key x : List ℕ) → length (cipher key x) ≡ 16
unfolding cipher cipher_with add_round_key listed
length-cipher key x = refl

pub length-subkey : (key : List ℕ) → length (subkey key) ≡ 128
unfolding subkey
length-subkey key = omega (arith, length-bits_of (cipher key (replicate 16 0)), length-cipher key (replicate 16 0))

-- ---- blocks behind blocks

pub ghash_from-none : (h y : List ℕ) → y ≡ ghash_from h y []
unfolding ghash_from
ghash_from-none h y = refl

ghash_from-append : (h y : List ℕ) (bs cs : List (List ℕ)) → ghash_from h y (bs ++ cs) ≡ ghash_from h (ghash_from h y bs) cs
unfolding ghash_from
ghash_from-append h y [] cs = refl
ghash_from-append h y (b ∷ bs) cs = ghash_from-append h (block_product (xor_with y (bits_of b)) h) bs cs

ghash_from-one : (h y b : List ℕ) → ghash_from h y (b ∷ []) ≡ block_product (xor_with y (bits_of b)) h
unfolding ghash_from
ghash_from-one h y b = refl

pub block_hashed : (h y : List ℕ) (all : List (List ℕ)) (i sum number after : ℕ) → i < length all → bits_128 sum ≡ ghash_from h y (take i all)
    → bits_128 number ≡ bits_of (slice_index_or all i []) → bits_128 after ≡ block_product (bits_128 (bit_xor sum number)) h → bits_128 after ≡ ghash_from h y (take (i + 1) all)
block_hashed h y all i sum number after inside before block product =
    let b = slice_index_or all i [] in
    product ∙ rw (bits_128-xor sum number, before, block)
    (sym (ap (ghash_from h y) (take_more all i [] inside) ∙ ghash_from-append h y (take i all) (b ∷ []) ∙ ghash_from-one h (ghash_from h y (take i all)) b))

cut-append : (n m : ℕ) (xs ys : List ℕ) → length xs ≡ 16 * n → cut (n + m) (xs ++ ys) ≡ cut n xs ++ cut m ys
unfolding cut
cut-append zero m [] ys long = let count : 0 + m ≡ m = omega arith in rw count refl
cut-append zero m (x ∷ xs) ys long = absurd (omega arith)
cut-append (suc n) m xs ys long =
    let count : suc n + m ≡ suc (n + m) = omega arith in
    rw (count, take-append-le 16 xs ys (omega arith), drop-append-le 16 xs ys (omega arith), cut-append n m (drop 16 xs) ys (omega (arith, length-drop 16 xs))) refl

pub blocks-append : (xs ys : List ℕ) → length xs % 16 ≡ 0 → blocks (xs ++ ys) ≡ blocks xs ++ blocks ys
unfolding blocks
blocks-append xs ys whole =
    let n = (length xs + 15) / 16 in
    let m = (length ys + 15) / 16 in
    let count : (length (xs ++ ys) + 15) / 16 ≡ n + m = omega (arith, length-append xs ys) in
    ap (λ (k : ℕ). cut k (xs ++ ys)) count ∙ cut-append n m xs ys (omega arith)

pub blocks-one : (xs : List ℕ) → length xs ≡ 16 → blocks xs ≡ xs ∷ []
unfolding blocks cut
blocks-one xs long =
    let count : (length xs + 15) / 16 ≡ 1 = omega arith in
    rw (count, take_all 16 xs (omega arith)) refl

-- ---- the state

-- some bytes more are held
pub held_more : (s t : Ghash) (bytes : List ℕ) → t.key.now ≡ s.key.now → t.sum ≡ s.sum → take t.held t.block ≡ take s.held s.block ++ bytes
    → (key text : List ℕ) → IsHashed key s text → IsHashed key t (text ++ bytes)
held_more s t bytes same sum more key text h = record {
  front = h.front;
  same_key = same ∙ h.same_key;
  whole = h.whole;
  sum = rw sum h.sum;
  parts = ap (λ (xs : List ℕ). xs ++ bytes) h.parts ∙ append_assoc h.front (take s.held s.block) bytes ∙ ap (λ (xs : List ℕ). h.front ++ xs) (sym more);
}

-- the bytes end a block
pub blocks_more : (s t : Ghash) (bytes : List ℕ) → t.key.now ≡ s.key.now → t.held ≡ 0 → length (take s.held s.block ++ bytes) % 16 ≡ 0
    → bits_128 t.sum ≡ ghash_from (subkey s.key.now) (bits_128 s.sum) (blocks (take s.held s.block ++ bytes))
    → (key text : List ℕ) → IsHashed key s text → IsHashed key t (text ++ bytes)
blocks_more s t bytes same none whole sum key text h =
    let more = take s.held s.block ++ bytes in
    let parts : text ++ bytes ≡ h.front ++ more = ap (λ (xs : List ℕ). xs ++ bytes) h.parts ∙ append_assoc h.front (take s.held s.block) bytes in
    record {
      front = h.front ++ more;
      same_key = same ∙ h.same_key;
      whole = omega (arith, length-append h.front more, h.whole);
      sum = sum ∙ rw (h.same_key, h.sum) (sym (ap (ghash_from (subkey key) (replicate 128 0)) (blocks-append h.front more h.whole) ∙ ghash_from-append (subkey key) (replicate 128 0) (blocks h.front) (blocks more)));
      parts = rw none (parts ∙ sym (append-nil (h.front ++ more)));
    }

-- bytes that are written behind those that are held
pub held_written : (held k end : ℕ) (block bytes out : List ℕ) → out ≡ bytes → end ≡ held + length bytes → held ≤ length block → take end (put_mid held k block out) ≡ take held block ++ bytes
held_written held k end block bytes out same sum inside =
    take-put_mid held k block out end (omega (arith, ap length same)) inside ∙ ap (λ (xs : List ℕ). take held block ++ xs) same

pub block_written : (h y : List ℕ) (held k : ℕ) (block bytes out : List ℕ) → out ≡ bytes → held + length bytes ≡ 16 → k ≡ length bytes → length block ≡ 16
    → ghash_from h y (put_mid held k block out ∷ []) ≡ ghash_from h y (blocks (take held block ++ bytes))
block_written h y held k block bytes out same sum wide long =
    let full = put_mid held k block out in
    let none : drop 16 full ≡ [] = drop-put_mid held k block out 16 (omega arith) (omega arith) (ap length same ∙ sym wide) ∙ drop_all 16 block (omega arith) in
    let all : full ≡ take held block ++ bytes =
    sym (take-append-drop 16 full) ∙ rw (none, append-nil (take 16 full)) (held_written held k 16 block bytes out same (omega arith) (omega arith)) in
    let size : length (take held block ++ bytes) ≡ 16 = omega (arith, length-append (take held block) bytes, length-take held block) in
    ap (λ (xs : List ℕ). ghash_from h y (xs ∷ [])) all ∙ ap (ghash_from h y) (sym (blocks-one (take held block ++ bytes) size))

pub hashed_none : (s : Ghash) → s.sum ≡ 0 → s.held ≡ 0 → IsHashed s.key.now s []
unfolding blocks cut ghash_from
hashed_none s sum none = record {
  front = [];
  same_key = refl;
  whole = refl;
  sum = rw sum bits_128-zero;
  parts = rw none refl;
}

pub held_is : (key text : List ℕ) (s : Ghash) → length s.block ≡ 16 → IsHashed key s text → s.held ≡ length text % 16
held_is key text s long h =
    omega (arith, ap length h.parts, length-append h.front (take s.held s.block), length-take s.held s.block, h.whole, s.within)

-- zeros behind the text
pub filled_is : (text : List ℕ) (held left : ℕ) → held ≡ length text % 16 → left ≡ (16 - held) % 16 → text ++ take left (replicate 16 0) ≡ padded text
unfolding padded
filled_is text held left held_is left_is =
    let count : left ≡ (length text + 15) / 16 * 16 - length text = omega arith in
    rw (take-replicate {X = ℕ} left 16 0 (omega arith), count) refl

-- the hash of whole blocks
pub sum_is : (key text : List ℕ) (s : Ghash) → length s.block ≡ 16 → IsHashed key s text → length text % 16 ≡ 0 → bits_128 s.sum ≡ ghash_from (subkey key) (replicate 128 0) (blocks text)
sum_is key text s long h whole =
    let none : s.held ≡ 0 = omega (arith, held_is key text s long h) in
    let all : text ≡ h.front = h.parts ∙ rw none (append-nil h.front) in
    h.sum ∙ ap (λ (xs : List ℕ). ghash_from (subkey key) (replicate 128 0) (blocks xs)) (sym all)

-- ---- a piece

first_chunks-cut : (n : ℕ) (xs : List ℕ) → first_chunks 16 n xs ≡ cut n xs
unfolding cut
first_chunks-cut zero xs = refl
first_chunks-cut (suc n) xs = ap (λ (bs : List (List ℕ)). take 16 xs ∷ bs) (first_chunks-cut n (drop 16 xs))

cut-none : (bs : List (List ℕ)) (xs : List ℕ) → bs ++ cut 0 xs ≡ bs
unfolding cut
cut-none bs xs = append-nil bs

first_chunks-blocks : (xs : List ℕ) → first_chunks 16 (length xs / 16) xs ≡ blocks (take (length xs / 16 * 16) xs)
unfolding blocks
first_chunks-blocks xs =
    let n = length xs / 16 in
    let front = take (n * 16) xs in
    let long : length front ≡ 16 * n = omega (arith, length-take (n * 16) xs) in
    let same : n ≡ n + 0 = omega arith in
    let count : n ≡ (length front + 15) / 16 = omega arith in
    first_chunks-cut n xs ∙ ap (λ (k : ℕ). cut k xs) same ∙ ap (cut (n + 0)) (sym (take-append-drop (n * 16) xs)) ∙ cut-append n 0 front (drop (n * 16) xs) long
    ∙ cut-none (cut n front) (drop (n * 16) xs) ∙ ap (λ (k : ℕ). cut k front) count

pub whole_blocks : (s t : Ghash) (xs : List ℕ) → t.key.now ≡ s.key.now → s.held ≡ 0 → t.held ≡ s.held
    → bits_128 t.sum ≡ ghash_from (subkey s.key.now) (bits_128 s.sum) (first_chunks 16 (length xs / 16) xs)
    → (key text : List ℕ) → IsHashed key s text → IsHashed key t (text ++ take (length xs / 16 * 16) xs)
whole_blocks s t xs same none kept sum =
    let front = take (length xs / 16 * 16) xs in
    let alone : take s.held s.block ++ front ≡ front = rw none refl in
    blocks_more s t front same (kept ∙ none) (omega (arith, ap length alone, length-take (length xs / 16 * 16) xs))
    (sum ∙ ap (ghash_from (subkey s.key.now) (bits_128 s.sum)) (first_chunks-blocks xs ∙ ap blocks (sym alone)))

pub nothing_more : (key text piece begun rest : List ℕ) (s : Ghash) → piece ≡ begun ++ rest → length rest ≡ 0 → IsHashed key s (text ++ begun) → IsHashed key s (text ++ piece)
nothing_more key text piece begun [] s parts none h = subst (λ (xs : List ℕ). IsHashed key s (text ++ xs)) (sym (parts ∙ append-nil begun)) h
nothing_more key text piece begun (x ∷ rest) s parts none h = absurd (omega arith)

pub three_parts : (text piece begun rest last : List ℕ) (n : ℕ) → piece ≡ begun ++ rest → last ≡ drop n rest → ((text ++ begun) ++ take n rest) ++ last ≡ text ++ piece
three_parts text piece begun rest last n parts is =
    rw (is, parts, append_assoc (text ++ begun) (take n rest) (drop n rest), take-append-drop n rest) (append_assoc text begun rest)
