-- CTR as the exclusive or of the text with the key stream.
use Rattle.std.proofs.Common.{◌≡◌, ℕ, zero, suc, ◌<◌, ◌≤◌, ◌+◌, ◌-◌, ◌*◌, ◌/◌, ◌%◌, ◌^◌, List, [], ◌∷◌, ◌++◌, length, take, drop, refl, ap, sym, ◌∙◌, arith, append_assoc, length-append, length-drop, lit<}
use Rattle.std.proofs.lemmas.Nat.{mod_below}
use Rattle.std.proofs.lemmas.List.{append-nil}
use Rattle.crypto_model.specs.Aes.{cipher, cipher_with, add_round_key, listed}
use Rattle.crypto_model.specs.Modes.{xor_with, cut, blocks, counter_of, counter_block, ctr_from, ctr}
use Rattle.aes_modes.specs.Counters.{key_stream}
use Rattle.aes_modes.proofs.XorLists.{xor_with-parts, xor_with-longer}

pub length-cipher : (key x : List ℕ) → length (cipher key x) ≡ 16
unfolding cipher cipher_with add_round_key listed
length-cipher key x = refl

pub counter_small : (iv : List ℕ) → counter_of iv < 2 ^ 128
unfolding counter_of
counter_small iv = mod_below _ (2 ^ 128) (lit< tt)

pub key_stream-zero : (e : List ℕ → List ℕ) (t : ℕ) → key_stream e t 0 ≡ []
unfolding key_stream
key_stream-zero e t = refl

pub key_stream-one : (e : List ℕ → List ℕ) (t : ℕ) → key_stream e t 1 ≡ e (counter_block t)
unfolding key_stream
key_stream-one e t = append-nil (e (counter_block t))

pub key_stream-four : (e : List ℕ → List ℕ) (t : ℕ) → key_stream e t 4
    ≡ (e (counter_block t) ++ e (counter_block ((t + 1) % 2 ^ 128))) ++ (e (counter_block ((t + 2) % 2 ^ 128)) ++ e (counter_block ((t + 3) % 2 ^ 128)))
unfolding key_stream
key_stream-four e t =
    let two : ((t + 1) % 2 ^ 128 + 1) % 2 ^ 128 ≡ (t + 2) % 2 ^ 128 = omega arith in
    let three : ((t + 2) % 2 ^ 128 + 1) % 2 ^ 128 ≡ (t + 3) % 2 ^ 128 = omega arith in
    rw (two, three, append-nil, append_assoc) refl

module _ (e : List ℕ → List ℕ) (whole : (x : List ℕ) → length (e x) ≡ 16) where
  pub length-key_stream : (t n : ℕ) → length (key_stream e t n) ≡ 16 * n
  unfolding key_stream
  length-key_stream t zero = refl
  length-key_stream t (suc n) =
      omega (arith, length-append (e (counter_block t)) (key_stream e ((t + 1) % 2 ^ 128) n), whole (counter_block t), length-key_stream ((t + 1) % 2 ^ 128) n)

  -- n blocks, and m behind them
  pub key_stream-add : (t n m : ℕ) → t < 2 ^ 128 → key_stream e t (n + m) ≡ key_stream e t n ++ key_stream e ((t + n) % 2 ^ 128) m
  unfolding key_stream
  key_stream-add t zero m small =
      let count : 0 + m ≡ m = omega arith in
      let here : (t + 0) % 2 ^ 128 ≡ t = omega arith in
      rw (count, here) refl
  key_stream-add t (suc n) m small =
      let count : suc n + m ≡ suc (n + m) = omega arith in
      let next = (t + 1) % 2 ^ 128 in
      let below : next < 2 ^ 128 = omega arith in
      let there : (next + n) % 2 ^ 128 ≡ (t + suc n) % 2 ^ 128 = omega arith in
      rw count (ap (λ (xs : List ℕ). e (counter_block t) ++ xs) (rw there at (key_stream-add next n m below))
      ∙ sym (append_assoc (e (counter_block t)) (key_stream e next n) (key_stream e ((t + suc n) % 2 ^ 128) m)))

  ctr_from_is : (n t : ℕ) (xs : List ℕ) → length xs ≤ 16 * n → ctr_from e t (cut n xs) ≡ xor_with xs (key_stream e t n)
  unfolding ctr_from cut key_stream xor_with
  ctr_from_is zero t [] h = refl
  ctr_from_is zero t (x ∷ xs) h = absurd (omega arith)
  ctr_from_is (suc n) t xs h =
      let w = whole (counter_block t) in
      let next = (t + 1) % 2 ^ 128 in
      ap (λ (ys : List ℕ). xor_with (take 16 xs) (e (counter_block t)) ++ ys) (ctr_from_is n next (drop 16 xs) (omega (arith, length-drop 16 xs)))
      ∙ sym (rw w at (xor_with-parts xs (e (counter_block t)) (key_stream e next n)))

  -- with as many blocks of key stream as it takes, or more
  pub ctr_is : (iv text : List ℕ) (n : ℕ) → length text ≤ 16 * n → ctr e iv text ≡ xor_with text (key_stream e (counter_of iv) n)
  unfolding ctr blocks
  ctr_is iv text n enough =
      let least = (length text + 15) / 16 in
      let more : n ≡ least + (n - least) = omega arith in
      let t = counter_of iv in
      ctr_from_is least t text (omega arith)
      ∙ sym (xor_with-longer text (key_stream e t least) (key_stream e ((t + least) % 2 ^ 128) (n - least)) (omega (arith, length-key_stream t least)))
      ∙ ap (xor_with text) (sym (key_stream-add t least (n - least) (counter_small iv)))
      ∙ ap (λ (k : ℕ). xor_with text (key_stream e t k)) (sym more)
