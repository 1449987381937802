-- CBC of a text in two parts, and of a block or a few.
use Rattle.std.proofs.Common.{◌≡◌, ℕ, zero, suc, ◌+◌, ◌*◌, ◌/◌, ◌%◌, List, [], ◌∷◌, ◌++◌, length, take, drop, bit_xor, refl, ap, sym, ◌∙◌, arith, append_assoc, length-append, length-take, length-drop}
use Rattle.std.proofs.lemmas.List.{append-nil, take_all, take-append-drop, take-append-le, drop-append-le, drop-drop, nil_from_length}
use Rattle.crypto_model.specs.Modes.{xor_with, cut, blocks, cbc_encrypt, cbc_encrypt_from, cbc_decrypt, cbc_decrypt_from}
use Rattle.aes_modes.specs.Chaining.{last_block}

drop-length : (xs ys : List ℕ) → drop (length xs) (xs ++ ys) ≡ ys
drop-length [] ys = refl
drop-length (x ∷ xs) ys = drop-length xs ys

pub last_block-none : (c : List ℕ) → last_block c [] ≡ c
last_block-none c = append-nil c

-- one block
pub last_block-one : (c x : List ℕ) → length x ≡ length c → last_block c x ≡ x
last_block-one c x long = rw long (drop-length c x)

-- blocks behind others
pub last_block-append : (c xs ys : List ℕ) → last_block c (xs ++ ys) ≡ last_block (last_block c xs) ys
last_block-append c xs ys =
    ap (λ (n : ℕ). drop n (c ++ (xs ++ ys))) (length-append xs ys)
    ∙ sym (drop-drop (length ys) (length xs) (c ++ (xs ++ ys)))
    ∙ ap (λ (zs : List ℕ). drop (length ys) (drop (length xs) zs)) (sym (append_assoc c xs ys))
    ∙ ap (drop (length ys)) (drop-append-le (length xs) (c ++ xs) ys (omega (arith, length-append c xs)))

last_block-behind : (c x ys : List ℕ) → length x ≡ length c → last_block c (x ++ ys) ≡ last_block x ys
last_block-behind c x ys long = last_block-append c x ys ∙ ap (λ (z : List ℕ). last_block z ys) (last_block-one c x long)

pub last_block-four : (c x y z w : List ℕ) → length c ≡ 16 → length x ≡ 16 → length y ≡ 16 → length z ≡ 16 → length w ≡ 16
    → last_block c ((x ++ y) ++ (z ++ w)) ≡ w
last_block-four c x y z w wide one two three four =
    last_block-append c (x ++ y) (z ++ w)
    ∙ ap (λ (v : List ℕ). last_block v (z ++ w)) (last_block-behind c x y (one ∙ sym wide) ∙ last_block-one x y (two ∙ sym one))
    ∙ last_block-behind y z w (three ∙ sym two) ∙ last_block-one z w (four ∙ sym three)

pub xor_with-both : (xs ys s r : List ℕ) → length xs ≡ length s → xor_with (xs ++ ys) (s ++ r) ≡ xor_with xs s ++ xor_with ys r
unfolding xor_with
xor_with-both [] ys [] r same = refl
xor_with-both [] ys (y ∷ s) r same = absurd (omega arith)
xor_with-both (x ∷ xs) ys [] r same = absurd (omega arith)
xor_with-both (x ∷ xs) ys (y ∷ s) r same = ap (λ (zs : List ℕ). bit_xor x y ∷ zs) (xor_with-both xs ys s r (omega arith))

count-append : (xs ys : List ℕ) → length xs % 16 ≡ 0 → (length (xs ++ ys) + 15) / 16 ≡ (length xs + 15) / 16 + (length ys + 15) / 16
count-append xs ys whole = omega (arith, length-append xs ys, whole)

module _ (e : List ℕ → List ℕ) (long : (x : List ℕ) → length (e x) ≡ 16) where
  encrypt_from-append : (n m : ℕ) (c xs ys : List ℕ) → length c ≡ 16 → length xs ≡ 16 * n
      → cbc_encrypt_from e c (cut (n + m) (xs ++ ys)) ≡ cbc_encrypt_from e c (cut n xs) ++ cbc_encrypt_from e (last_block c (cbc_encrypt_from e c (cut n xs))) (cut m ys)
  unfolding cbc_encrypt_from cut
  encrypt_from-append zero m c xs ys wide whole =
      let count : 0 + m ≡ m = omega arith in
      rw (nil_from_length xs (omega arith), count, last_block-none c) refl
  encrypt_from-append (suc n) m c xs ys wide whole =
      let count : suc n + m ≡ suc (n + m) = omega arith in
      let made = e (xor_with (take 16 xs) c) in
      let made_long = long (xor_with (take 16 xs) c) in
      let more = cbc_encrypt_from e made (cut n (drop 16 xs)) in
      rw (count, take-append-le 16 xs ys (omega arith), drop-append-le 16 xs ys (omega arith), last_block-behind c made more (made_long ∙ sym wide))
      (ap (λ (zs : List ℕ). made ++ zs) (encrypt_from-append n m made (drop 16 xs) ys made_long (omega (arith, length-drop 16 xs)))
      ∙ sym (append_assoc made more (cbc_encrypt_from e (last_block made more) (cut m ys))))

  pub encrypt-append : (c xs ys : List ℕ) → length c ≡ 16 → length xs % 16 ≡ 0
      → cbc_encrypt e c (xs ++ ys) ≡ cbc_encrypt e c xs ++ cbc_encrypt e (last_block c (cbc_encrypt e c xs)) ys
  unfolding cbc_encrypt blocks
  encrypt-append c xs ys wide whole =
      rw (count-append xs ys whole) (encrypt_from-append ((length xs + 15) / 16) ((length ys + 15) / 16) c xs ys wide (omega (arith, whole)))

pub encrypt-none : (e : List ℕ → List ℕ) (c : List ℕ) → cbc_encrypt e c [] ≡ []
unfolding cbc_encrypt cbc_encrypt_from blocks cut
encrypt-none e c = refl

pub encrypt-one : (e : List ℕ → List ℕ) (c x : List ℕ) → length x ≡ 16 → cbc_encrypt e c x ≡ e (xor_with x c)
unfolding cbc_encrypt cbc_encrypt_from blocks cut
encrypt-one e c x one = rw (one, take_all 16 x (omega arith)) (append-nil (e (xor_with x c)))

decrypt_from-append : (d : List ℕ → List ℕ) (n m : ℕ) (c xs ys : List ℕ) → length c ≡ 16 → length xs ≡ 16 * n
    → cbc_decrypt_from d c (cut (n + m) (xs ++ ys)) ≡ cbc_decrypt_from d c (cut n xs) ++ cbc_decrypt_from d (last_block c xs) (cut m ys)
unfolding cbc_decrypt_from cut
decrypt_from-append d zero m c xs ys wide whole =
    let count : 0 + m ≡ m = omega arith in
    rw (nil_from_length xs (omega arith), count, last_block-none c) refl
decrypt_from-append d (suc n) m c xs ys wide whole =
    let count : suc n + m ≡ suc (n + m) = omega arith in
    let x = take 16 xs in
    let one : length x ≡ 16 = omega (arith, length-take 16 xs) in
    let last : last_block c xs ≡ last_block x (drop 16 xs) = ap (last_block c) (sym (take-append-drop 16 xs)) ∙ last_block-behind c x (drop 16 xs) (one ∙ sym wide) in
    rw (count, take-append-le 16 xs ys (omega arith), drop-append-le 16 xs ys (omega arith), last)
    (ap (λ (zs : List ℕ). xor_with (d x) c ++ zs) (decrypt_from-append d n m x (drop 16 xs) ys one (omega (arith, length-drop 16 xs)))
    ∙ sym (append_assoc (xor_with (d x) c) (cbc_decrypt_from d x (cut n (drop 16 xs))) (cbc_decrypt_from d (last_block x (drop 16 xs)) (cut m ys))))

pub decrypt-append : (d : List ℕ → List ℕ) (c xs ys : List ℕ) → length c ≡ 16 → length xs % 16 ≡ 0
    → cbc_decrypt d c (xs ++ ys) ≡ cbc_decrypt d c xs ++ cbc_decrypt d (last_block c xs) ys
unfolding cbc_decrypt blocks
decrypt-append d c xs ys wide whole =
    rw (count-append xs ys whole) (decrypt_from-append d ((length xs + 15) / 16) ((length ys + 15) / 16) c xs ys wide (omega (arith, whole)))

pub decrypt-none : (d : List ℕ → List ℕ) (c : List ℕ) → cbc_decrypt d c [] ≡ []
unfolding cbc_decrypt cbc_decrypt_from blocks cut
decrypt-none d c = refl

pub decrypt-one : (d : List ℕ → List ℕ) (c x : List ℕ) → length x ≡ 16 → cbc_decrypt d c x ≡ xor_with (d x) c
unfolding cbc_decrypt cbc_decrypt_from blocks cut
decrypt-one d c x one = rw (one, take_all 16 x (omega arith)) (append-nil (xor_with (d x) c))

pub decrypt-two : (d : List ℕ → List ℕ) (c x y : List ℕ) → length c ≡ 16 → length x ≡ 16 → length y ≡ 16
    → cbc_decrypt d c (x ++ y) ≡ xor_with (d x) c ++ xor_with (d y) x
decrypt-two d c x y wide one two =
    decrypt-append d c x y wide (omega arith)
    ∙ rw (last_block-one c x (one ∙ sym wide), decrypt-one d c x one, decrypt-one d x y two) refl

-- a group of four blocks, and its last
pub decrypt-four : (d : List ℕ → List ℕ) (last a b c x : List ℕ) → length last ≡ 16 → length a ≡ 16 → length b ≡ 16 → length c ≡ 16 → length x ≡ 16
    → cbc_decrypt d last ((a ++ b) ++ (c ++ x)) ≡ (xor_with (d a) last ++ xor_with (d b) a) ++ (xor_with (d c) b ++ xor_with (d x) c)
decrypt-four d last a b c x wide one two three four =
    let behind : last_block last (a ++ b) ≡ b = last_block-behind last a b (one ∙ sym wide) ∙ last_block-one a b (two ∙ sym one) in
    decrypt-append d last (a ++ b) (c ++ x) wide (omega (arith, length-append a b))
    ∙ rw (behind, decrypt-two d last a b wide one two, decrypt-two d b c x two three four) refl

-- the four blocks of a group
pub four_parts : (xs : List ℕ) → length xs ≡ 64
    → xs ≡ (take 16 xs ++ take 16 (drop 16 xs)) ++ (take 16 (drop 32 xs) ++ take 16 (drop 48 xs))
four_parts xs long =
    let behind : take 16 (drop 48 xs) ≡ drop 48 xs = take_all 16 (drop 48 xs) (omega (arith, length-drop 48 xs)) in
    sym (take-append-drop 16 xs)
    ∙ ap (λ (ys : List ℕ). take 16 xs ++ ys) (sym (take-append-drop 16 (drop 16 xs))
    ∙ ap (λ (ys : List ℕ). take 16 (drop 16 xs) ++ ys) (drop-drop 16 16 xs ∙ sym (take-append-drop 16 (drop 32 xs)) ∙ ap (λ (ys : List ℕ). take 16 (drop 32 xs) ++ ys) (drop-drop 16 32 xs ∙ sym behind)))
    ∙ sym (append_assoc (take 16 xs) (take 16 (drop 16 xs)) (take 16 (drop 32 xs) ++ take 16 (drop 48 xs)))
