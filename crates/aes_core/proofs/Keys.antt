-- Expanded keys.
use Rattle.std.proofs.Common.{◌≡◌, ℕ, suc, zero, slice_index, get_or-take, ◌+◌, ◌-◌, ◌*◌, ◌/◌, ◌≤◌, ◌<◌, List, length, map, take, drop, replicate, refl, sym, ap, ◌∙◌, arith, bit_xor, length-take, length-drop, length-append}
use Rattle.std.proofs.lemmas.List.{take_all, length-take-le, map-append, map-id, length-map}
use Rattle.std.proofs.lemmas.Simd.{zip2_splat, map-map, put_chunk_whole}
use Rattle.std.proofs.Math.Seq.{take-add}
use Rattle.std.proofs.Math.Path.{fun_ext}
use Rattle.std.specs.Int.Bits.{xor_assoc, xor_self, xor_zero_r}
use Rattle.std.specs.Simd.Lanes.{zip2, put_chunk}
use borrow.Rule.Slice.PartMut.{put_mid}
use Rattle.std.proofs.lemmas.Slice.{take-put_mid}
use Rattle.crypto_model.specs.Aes.{add_round_key, cipher, cipher_with, rounds, inverse_mix_columns, inverse_rounds, inverse_cipher_with, inverse_cipher}
use Rattle.aes_core.specs.Basis.{back, back_key}
use Rattle.aes_core.specs.KeyState.{IsExpanded}
use Rattle.aes_core.proofs.Rows.{listed_same}

pub cancelled : (x : ℕ) → bit_xor (bit_xor x 0x63) 0x63 ≡ x
cancelled x = xor_assoc x 0x63 0x63 ∙ ap (bit_xor x) (xor_self 0x63) ∙ xor_zero_r x

inner_is : (k key : List ℕ) → length k ≡ 16 → map back key ≡ zip2 bit_xor k (replicate 16 0x63) → map back_key key ≡ k
unfolding back_key
inner_is k key long e =
    sym (map-map (λ x. bit_xor x 0x63) back key)
    ∙ ap (map (λ x. bit_xor x 0x63)) (e ∙ zip2_splat bit_xor k 16 0x63 long)
    ∙ map-map (λ x. bit_xor x 0x63) (λ x. bit_xor x 0x63) k
    ∙ ap (λ (f : ℕ → ℕ). map f k) (fun_ext cancelled)
    ∙ map-id k

-- the write of one key more
pub inner_more : (w inner k key : List ℕ) (r n : ℕ) → r < 15 → n ≡ 16 → length w ≡ 240
    → (length inner ≡ 240) × (map back_key (take (16 * r) inner) ≡ take (16 * r) w)
    → k ≡ take 16 (drop (16 * r) w) → map back key ≡ zip2 bit_xor k (replicate 16 0x63)
    → (length (put_mid (16 * r) n inner (put_chunk 0 (take n (drop (16 * r) inner)) key)) ≡ 240)
    × (map back_key (take (16 * (r + 1)) (put_mid (16 * r) n inner (put_chunk 0 (take n (drop (16 * r) inner)) key))) ≡ take (16 * (r + 1)) w)
inner_more w inner k key r n lt en lw held ek e =
    let lk : length k ≡ 16 = ap length ek ∙ length-take-le 16 (drop (16 * r) w) (omega (arith, length-drop (16 * r) w)) in
    let is_key = inner_is k key lk e in
    let long : length key ≡ 16 = sym (length-map key back_key) ∙ ap length is_key ∙ lk in
    let part : length (take n (drop (16 * r) inner)) ≡ length key = length-take-le n (drop (16 * r) inner) (omega (arith, length-drop (16 * r) inner)) ∙ en ∙ sym long in
    let same = put_chunk_whole (take n (drop (16 * r) inner)) key part in
    let next : 16 * (r + 1) ≡ 16 * r + 16 = omega arith in (
      simp (same, length-append, length-take, length-drop) (omega arith),
      rw same
          (ap (map back_key) (take-put_mid (16 * r) n inner key (16 * (r + 1)) (omega arith) (omega arith))
          ∙ map-append back_key (take (16 * r) inner) key
          ∙ rw (held.1, is_key, ek) refl
          ∙ sym (take-add (16 * r) 16 w)
          ∙ ap (λ (i : ℕ). take i w) (sym next)),
    )

-- all of them
pub inner_all : (w inner : List ℕ) (r : ℕ) → 15 ≤ r → length w ≡ 240
    → (length inner ≡ 240) × (map back_key (take (16 * r) inner) ≡ take (16 * r) w) → map back_key inner ≡ w
inner_all w inner r h lw held =
    ap (map back_key) (sym (take_all (16 * r) inner (omega arith))) ∙ held.1 ∙ take_all (16 * r) w (omega arith)

-- ---- the cipher reads no more of the schedule than its rounds need

add_round_key-take : (w s : List ℕ) (r m : ℕ) → 16 * r + 16 ≤ m → add_round_key (take m w) r s ≡ add_round_key w r s
unfolding add_round_key
add_round_key-take w s r m h = listed_same 16 _ _ (λ i lt. ap (bit_xor (slice_index s i)) (get_or-take m w (16 * r + i) 0 (omega arith)))

rounds-take : (w s : List ℕ) (r m : ℕ) → 16 * r + 16 ≤ m → rounds (take m w) s r ≡ rounds w s r
unfolding rounds
rounds-take w s zero m h = add_round_key-take w s 0 m (omega arith)
rounds-take w s (suc r) m h = rw (rounds-take w s r m (omega arith)) (add_round_key-take w _ (suc r) m (omega arith))

cipher_with-take : (w s : List ℕ) (n : ℕ) → cipher_with w n s ≡ cipher_with (take (16 * (n + 1)) w) n s
unfolding cipher_with
cipher_with-take w s n = sym (rw (rounds-take w s (n - 1) (16 * (n + 1)) (omega arith)) (add_round_key-take w _ n (16 * (n + 1)) (omega arith)))

is_cipher : (w inner block : List ℕ) (n : ℕ) → length w ≡ 240 → IsExpanded w inner n → cipher_with w n block ≡ cipher (take (4 * (n - 6)) w) block
unfolding cipher
is_cipher w inner block n lw h =
    let l : length (take (4 * (n - 6)) w) ≡ 4 * (n - 6) = length-take-le (4 * (n - 6)) w (omega arith) in
    let m : 4 * (n - 6) / 4 + 6 ≡ n = omega arith in
    rw (← h.1, l, m) (cipher_with-take w block n)

-- what comes of a block with the words of an expanded key
pub under_key : (w inner key block x : List ℕ) (n : ℕ) → length w ≡ 240 → IsExpanded w inner n → take (4 * (n - 6)) w ≡ key
    → x ≡ cipher_with w n block → x ≡ cipher key block
under_key w inner key block x n lw h view e = e ∙ is_cipher w inner block n lw h ∙ ap (λ (k : List ℕ). cipher k block) view

-- ---- the inverse cipher alike

inverse_rounds-take : (w s : List ℕ) (n r m : ℕ) → 16 * n + 16 ≤ m → inverse_rounds (take m w) n s r ≡ inverse_rounds w n s r
unfolding inverse_rounds
inverse_rounds-take w s n zero m h = add_round_key-take w s n m h
inverse_rounds-take w s n (suc r) m h = rw (inverse_rounds-take w s n r m h) (ap inverse_mix_columns (add_round_key-take w _ (n - 1 - r) m (omega arith)))

inverse_cipher_with-take : (w s : List ℕ) (n : ℕ) → inverse_cipher_with w n s ≡ inverse_cipher_with (take (16 * (n + 1)) w) n s
unfolding inverse_cipher_with
inverse_cipher_with-take w s n = sym (rw (inverse_rounds-take w s n (n - 1) (16 * (n + 1)) (omega arith)) (add_round_key-take w _ 0 (16 * (n + 1)) (omega arith)))

is_inverse_cipher : (w inner block : List ℕ) (n : ℕ) → length w ≡ 240 → IsExpanded w inner n → inverse_cipher_with w n block ≡ inverse_cipher (take (4 * (n - 6)) w) block
unfolding inverse_cipher
is_inverse_cipher w inner block n lw h =
    let l : length (take (4 * (n - 6)) w) ≡ 4 * (n - 6) = length-take-le (4 * (n - 6)) w (omega arith) in
    let m : 4 * (n - 6) / 4 + 6 ≡ n = omega arith in
    rw (← h.1, l, m) (inverse_cipher_with-take w block n)

pub back_under_key : (w inner key block x : List ℕ) (n : ℕ) → length w ≡ 240 → IsExpanded w inner n → take (4 * (n - 6)) w ≡ key
    → x ≡ inverse_cipher_with w n block → x ≡ inverse_cipher key block
back_under_key w inner key block x n lw h view e = e ∙ is_inverse_cipher w inner block n lw h ∙ ap (λ (k : List ℕ). inverse_cipher k block) view
