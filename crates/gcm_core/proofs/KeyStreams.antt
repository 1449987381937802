-- A text under GCM's key stream, as the exclusive or of the two.
use Rattle.std.proofs.Common.{◌≡◌, ℕ, zero, suc, ◌<◌, ◌≤◌, ◌+◌, ◌-◌, ◌*◌, ◌/◌, ◌%◌, ◌^◌, List, [], ◌∷◌, ◌++◌, length, take, drop, refl, ap, sym, ◌∙◌, arith, append_assoc, length-append, length-drop}
use Rattle.std.specs.Int.{w32, to_be_bytes}
use Rattle.std.specs.List.{range_with_len}
use Rattle.std.specs.Simd.Lanes.{pick_l}
use Rattle.std.proofs.lemmas.Simd.{pick_l_whole}
use Rattle.crypto_model.specs.Modes.{xor_with, cut, blocks}
use Rattle.crypto_model.specs.Gcm.{iv_block, gctr_from, gcm_text}
use Rattle.aes_modes.proofs.XorLists.{xor_with-parts, xor_with-longer}

-- ---- counter blocks

pub iv_block-made : (iv bs : List ℕ) (n : ℕ) → length iv ≡ 12 → n < 2 ^ 32 → bs ≡ to_be_bytes w32 n
    → pick_l 0 iv (range_with_len 0 12) ++ pick_l 0 bs (range_with_len 0 4) ≡ iv_block iv n
iv_block-made iv bs n long small is =
    let same : n ≡ n % 2 ^ 32 = omega arith in
    ap (λ (xs : List ℕ). xs ++ pick_l 0 bs (range_with_len 0 4)) (pick_l_whole 0 iv 12 long)
    ∙ ap (λ (xs : List ℕ). iv ++ xs) (pick_l_whole 0 bs 4 (ap length is) ∙ is ∙ ap (to_be_bytes w32) same)

-- counter blocks go round at 2 ^ 32
pub iv_block-same : (iv : List ℕ) (a b : ℕ) → a % 2 ^ 32 ≡ b % 2 ^ 32 → iv_block iv a ≡ iv_block iv b
iv_block-same iv a b h = ap (λ (n : ℕ). iv ++ to_be_bytes w32 n) h

pub iv_block-round : (iv : List ℕ) (n : ℕ) → iv_block iv (n % 2 ^ 32) ≡ iv_block iv n
iv_block-round iv n = iv_block-same iv (n % 2 ^ 32) n (omega arith)

-- ---- the key stream

-- k blocks of key stream from counter block n on
unfoldable pub key_stream : (List ℕ → List ℕ) → List ℕ → ℕ → ℕ → List ℕ
key_stream e iv n zero = []
key_stream e iv n (suc k) = e (iv_block iv n) ++ key_stream e iv (n + 1) k

-- it goes round at 2 ^ 32
pub key_stream-same : (e : List ℕ → List ℕ) (iv : List ℕ) (a b k : ℕ) → a % 2 ^ 32 ≡ b % 2 ^ 32 → key_stream e iv a k ≡ key_stream e iv b k
unfolding key_stream
key_stream-same e iv a b zero h = refl
key_stream-same e iv a b (suc k) h = rw (iv_block-same iv a b h, key_stream-same e iv (a + 1) (b + 1) k (omega arith)) refl

-- k blocks, and m behind them
pub key_stream-add : (e : List ℕ → List ℕ) (iv : List ℕ) (n k m : ℕ) → key_stream e iv n (k + m) ≡ key_stream e iv n k ++ key_stream e iv (n + k) m
unfolding key_stream
key_stream-add e iv n zero m =
    let count : 0 + m ≡ m = omega arith in
    let here : n + 0 ≡ n = omega arith in
    rw (count, here) refl
key_stream-add e iv n (suc k) m =
    let count : suc k + m ≡ suc (k + m) = omega arith in
    let there : n + 1 + k ≡ n + suc k = omega arith in
    rw count (ap (λ (xs : List ℕ). e (iv_block iv n) ++ xs) (rw there at (key_stream-add e iv (n + 1) k m))
    ∙ sym (append_assoc (e (iv_block iv n)) (key_stream e iv (n + 1) k) (key_stream e iv (n + suc k) m)))

module _ (e : List ℕ → List ℕ) (whole : (x : List ℕ) → length (e x) ≡ 16) (iv : List ℕ) where
  pub length-key_stream : (n k : ℕ) → length (key_stream e iv n k) ≡ 16 * k
  unfolding key_stream
  length-key_stream n zero = refl
  length-key_stream n (suc k) =
      omega (arith, length-append (e (iv_block iv n)) (key_stream e iv (n + 1) k), whole (iv_block iv n), length-key_stream (n + 1) k)

  gctr_from_is : (n k : ℕ) (xs : List ℕ) → length xs ≤ 16 * k → gctr_from e iv n (cut k xs) ≡ xor_with xs (key_stream e iv n k)
  unfolding gctr_from cut key_stream xor_with
  gctr_from_is n zero [] h = refl
  gctr_from_is n zero (x ∷ xs) h = absurd (omega arith)
  gctr_from_is n (suc k) xs h =
      let w = whole (iv_block iv n) in
      ap (λ (ys : List ℕ). xor_with (take 16 xs) (e (iv_block iv n)) ++ ys) (gctr_from_is (n + 1) k (drop 16 xs) (omega (arith, length-drop 16 xs)))
      ∙ sym (rw w at (xor_with-parts xs (e (iv_block iv n)) (key_stream e iv (n + 1) k)))

  -- with as many blocks of key stream as it takes, or more
  pub gcm_text_is : (text : List ℕ) (k : ℕ) → length text ≤ 16 * k → gcm_text e iv text ≡ xor_with text (key_stream e iv 2 k)
  unfolding gcm_text blocks
  gcm_text_is text k enough =
      let least = (length text + 15) / 16 in
      let more : k ≡ least + (k - least) = omega arith in
      gctr_from_is 2 least text (omega arith)
      ∙ sym (xor_with-longer text (key_stream e iv 2 least) (key_stream e iv (2 + least) (k - least)) (omega (arith, length-key_stream 2 least)))
      ∙ ap (xor_with text) (sym (key_stream-add e iv 2 least (k - least)))
      ∙ ap (λ (j : ℕ). xor_with text (key_stream e iv 2 j)) (sym more)

pub gcm_text-none : (e : List ℕ → List ℕ) (iv : List ℕ) → gcm_text e iv [] ≡ []
unfolding gcm_text gctr_from blocks cut
gcm_text-none e iv = refl
