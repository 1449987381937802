-- The counter blocks of an IV as those of CTR.
use Rattle.std.proofs.Common.{◌≡◌, ℕ, zero, suc, ◌<◌, ◌≤◌, ◌+◌, ◌-◌, ◌*◌, ◌/◌, ◌%◌, ◌^◌, List, [], ◌∷◌, ◌++◌, length, drop, get_or, slice_index, refl, ap, sym, subst, lit<, ◌∙◌, arith, length-append}
use Rattle.std.specs.Int.{w32, w64, w128, from_be_bytes, to_be_bytes}
use Rattle.std.proofs.lemmas.Nat.{be_bytes_4, be_bytes_8, from_be_bytes-to_be_bytes_4, mod_below}
use Rattle.std.proofs.Math.Seq.{drop-append_seam}
use Rattle.crypto_model.specs.Aes.{cipher}
use Rattle.std.proofs.lemmas.Simd.{pick_l_whole}
use Rattle.crypto_model.specs.Modes.{xor_with, counter_of, counter_block, ctr}
use Rattle.crypto_model.specs.Gcm.{iv_block, gcm_text}
use Rattle.aes_modes.specs.Counters as C
use Rattle.aes_modes.proofs.KeyStream.{ctr_is}
use Rattle.aes_modes.proofs.XorLists.{append-xor_with}
use Rattle.gcm_core.proofs.KeyStreams.{iv_block-round, key_stream, length-key_stream, key_stream-add, key_stream-same, gcm_text_is}
use Rattle.gcm_core.proofs.HashedText.{length-cipher}

abbrev named : (ℕ → ℕ) → List ℕ
named b = b 0 ∷ b 1 ∷ b 2 ∷ b 3 ∷ b 4 ∷ b 5 ∷ b 6 ∷ b 7 ∷ b 8 ∷ b 9 ∷ b 10 ∷ b 11 ∷ []

abbrev first_eight : (ℕ → ℕ) → List ℕ
first_eight b = b 0 ∷ b 1 ∷ b 2 ∷ b 3 ∷ b 4 ∷ b 5 ∷ b 6 ∷ b 7 ∷ []

abbrev last_four : (ℕ → ℕ) → List ℕ
last_four b = b 8 ∷ b 9 ∷ b 10 ∷ b 11 ∷ []

-- the number of the counter block with the last four bytes 0
abbrev base : (ℕ → ℕ) → ℕ
base b = from_be_bytes w64 (first_eight b) * 2 ^ 64 + from_be_bytes w32 (last_four b) * 2 ^ 32

cons_same : {x y : ℕ} {xs ys : List ℕ} → x ≡ y → xs ≡ ys → x ∷ xs ≡ y ∷ ys
cons_same e f = λ i. e i ∷ f i

-- sixteen bytes by eight, four and four
parts_of : (h m l : ℕ) → m < 2 ^ 32 → l < 2 ^ 32 → to_be_bytes w128 (h * 2 ^ 64 + m * 2 ^ 32 + l) ≡ (to_be_bytes w64 h ++ to_be_bytes w32 m) ++ to_be_bytes w32 l
parts_of h m l lm ll =
    cons_same (omega arith) (cons_same (omega arith) (cons_same (omega arith) (cons_same (omega arith)
    (cons_same (omega arith) (cons_same (omega arith) (cons_same (omega arith) (cons_same (omega arith)
    (cons_same (omega arith) (cons_same (omega arith) (cons_same (omega arith) (cons_same (omega arith)
    (cons_same (omega arith) (cons_same (omega arith) (cons_same (omega arith) (cons_same (omega arith) refl)))))))))))))))

module _ (b : ℕ → ℕ) (bytes : (i : ℕ) → b i < 256) where
  eight_below : (i : ℕ) → get_or (first_eight b) i 0 < 256
  eight_below zero = bytes 0
  eight_below (suc zero) = bytes 1
  eight_below (suc (suc zero)) = bytes 2
  eight_below (suc (suc (suc zero))) = bytes 3
  eight_below (suc (suc (suc (suc zero)))) = bytes 4
  eight_below (suc (suc (suc (suc (suc zero))))) = bytes 5
  eight_below (suc (suc (suc (suc (suc (suc zero)))))) = bytes 6
  eight_below (suc (suc (suc (suc (suc (suc (suc zero))))))) = bytes 7
  eight_below (suc (suc (suc (suc (suc (suc (suc (suc i)))))))) = lit< tt

  four_below : (i : ℕ) → get_or (last_four b) i 0 < 256
  four_below zero = bytes 8
  four_below (suc zero) = bytes 9
  four_below (suc (suc zero)) = bytes 10
  four_below (suc (suc (suc zero))) = bytes 11
  four_below (suc (suc (suc (suc i)))) = lit< tt

  middle_below : from_be_bytes w32 (last_four b) < 2 ^ 32
  middle_below = omega (arith, bytes 8, bytes 9, bytes 10, bytes 11)

  base_below : base b + 2 ^ 32 ≤ 2 ^ 128
  base_below =
      let high : from_be_bytes w64 (first_eight b) < 2 ^ 64 = omega (arith, bytes 0, bytes 1, bytes 2, bytes 3, bytes 4, bytes 5, bytes 6, bytes 7) in
      omega (arith, high, middle_below)

  counter_block_is : (n : ℕ) → n < 2 ^ 32 → counter_block (base b + n) ≡ iv_block (named b) n
  unfolding counter_block
  counter_block_is n small =
      let same : n ≡ n % 2 ^ 32 = omega arith in
      parts_of (from_be_bytes w64 (first_eight b)) (from_be_bytes w32 (last_four b)) n middle_below small
      ∙ ap (λ (xs : List ℕ). (xs ++ to_be_bytes w32 (from_be_bytes w32 (last_four b))) ++ to_be_bytes w32 n) (be_bytes_8 (first_eight b) _ refl eight_below refl)
      ∙ ap (λ (xs : List ℕ). (first_eight b ++ xs) ++ to_be_bytes w32 n) (be_bytes_4 (last_four b) _ refl four_below refl)
      ∙ ap (λ (k : ℕ). named b ++ to_be_bytes w32 k) same

  counter_of_is : (n : ℕ) → n < 2 ^ 32 → counter_of (iv_block (named b) n) ≡ base b + n
  unfolding counter_of
  counter_of_is n small =
      let same : n % 2 ^ 32 ≡ n = omega arith in
      let low = from_be_bytes-to_be_bytes_4 n small in
      let whole : from_be_bytes w128 (named b ++ to_be_bytes w32 n) ≡ base b + n = omega (arith, low) in
      ap (λ (k : ℕ). from_be_bytes w128 (named b ++ to_be_bytes w32 k) % 2 ^ 128) same ∙ ap (λ (k : ℕ). k % 2 ^ 128) whole ∙ omega (arith, base_below)

  stream_same : (e : List ℕ → List ℕ) (m n : ℕ) → n + m ≤ 2 ^ 32 → C.key_stream e (base b + n) m ≡ key_stream e (named b) n m
  unfolding C.key_stream key_stream
  stream_same e zero n room = refl
  stream_same e (suc zero) n room = ap (λ (xs : List ℕ). e xs ++ []) (counter_block_is n (omega arith))
  stream_same e (suc (suc m)) n room =
      let next : (base b + n + 1) % 2 ^ 128 ≡ base b + (n + 1) = omega (arith, base_below) in
      ap (λ (xs : List ℕ). e xs ++ C.key_stream e ((base b + n + 1) % 2 ^ 128) (suc m)) (counter_block_is n (omega arith))
      ∙ ap (λ (k : ℕ). e (iv_block (named b) n) ++ C.key_stream e k (suc m)) next
      ∙ ap (λ (xs : List ℕ). e (iv_block (named b) n) ++ xs) (stream_same e (suc m) (n + 1) (omega arith))

  named_stream : (e : List ℕ → List ℕ) (m n : ℕ) → n < 2 ^ 32 → n + m ≤ 2 ^ 32 → C.key_stream e (counter_of (iv_block (named b) n)) m ≡ key_stream e (named b) n m
  named_stream e m n small room = ap (λ (t : ℕ). C.key_stream e t m) (counter_of_is n small) ∙ stream_same e m n room

iv_stream : (e : List ℕ → List ℕ) (iv : List ℕ) (m n : ℕ) → length iv ≡ 12 → ((i : ℕ) → slice_index iv i < 256) → n < 2 ^ 32 → n + m ≤ 2 ^ 32
    → C.key_stream e (counter_of (iv_block iv n)) m ≡ key_stream e iv n m
iv_stream e iv m n long bytes small room =
    subst (λ (xs : List ℕ). C.key_stream e (counter_of (iv_block xs n)) m ≡ key_stream e xs n m) (pick_l_whole 0 iv 12 long)
    (named_stream (λ i. slice_index iv i) bytes e m n small room)

-- the text behind whole blocks is CTR from the counter block that comes then, as long as its counter doesn't go round
pub gcm_behind : (key iv gone here : List ℕ) (before : ℕ) → length iv ≡ 12 → ((i : ℕ) → slice_index iv i < 256) → length gone ≡ 16 * before
    → length here ≤ 16 * (2 ^ 32 - (2 + before) % 2 ^ 32)
    → gcm_text (cipher key) iv (gone ++ here) ≡ gcm_text (cipher key) iv gone ++ ctr (cipher key) (iv_block iv (2 + before)) here
gcm_behind key iv gone here before long bytes whole room =
    let e = cipher key in
    let each = length-cipher key in
    let m = (length here + 15) / 16 in
    let n = (2 + before) % 2 ^ 32 in
    let small : n < 2 ^ 32 = mod_below (2 + before) (2 ^ 32) (lit< tt) in
    let fits : n + m ≤ 2 ^ 32 = omega arith in
    let stream = key_stream e iv (2 + before) m in
    let behind : C.key_stream e (counter_of (iv_block iv (2 + before))) m ≡ stream =
    ap (λ (xs : List ℕ). C.key_stream e (counter_of xs) m) (sym (iv_block-round iv (2 + before))) ∙ iv_stream e iv m n long bytes small fits
    ∙ key_stream-same e iv n (2 + before) m (omega arith) in
    let under : ctr e (iv_block iv (2 + before)) here ≡ xor_with here stream = ctr_is e each (iv_block iv (2 + before)) here m (omega arith) ∙ ap (xor_with here) behind in
    let all = key_stream e iv 2 (before + m) in
    let front = key_stream e iv 2 before in
    let as_long : length front ≡ length gone = length-key_stream e each iv 2 before ∙ sym whole in
    let rest : drop (length gone) all ≡ stream = ap (drop (length gone)) (key_stream-add e iv 2 before m) ∙ (rw as_long at (drop-append_seam front stream)) in
    gcm_text_is e each iv (gone ++ here) (before + m) (omega (arith, length-append gone here, whole)) ∙ append-xor_with gone here all
    ∙ ap (λ (xs : List ℕ). xs ++ xor_with here (drop (length gone) all)) (sym (gcm_text_is e each iv gone (before + m) (omega (arith, whole))))
    ∙ ap (λ (xs : List ℕ). gcm_text e iv gone ++ xs) (ap (xor_with here) rest ∙ sym under)
