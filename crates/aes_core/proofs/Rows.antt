-- A round by shuffles of whole blocks.
use Rattle.std.proofs.Common.{◌≡◌, ℕ, ◌<◌, ◌+◌, ◌*◌, List, [], ◌∷◌, ◌++◌, get_or, slice_index, length, map, take, drop, refl, sym, ap, ◌∙◌, arith, bit_xor, subst}
use Rattle.std.proofs.lemmas.Simd.{pick_l_whole, get_or-zip2, length-zip2, map-map}
use Rattle.std.proofs.lemmas.List.{get_or-take, get_or-drop, length-map}
use Rattle.std.specs.Int.Bits.{xor_assoc, xor_comm, xor_self, xor_zero_r}
use Rattle.std.specs.Simd.Lanes.{zip2, pick_l}
use Rattle.crypto_model.specs.Field.{product, sub_byte}
use Rattle.crypto_model.specs.Aes.{listed, sub_bytes, shift_rows, mix_columns, add_round_key}
use Rattle.crypto_model.proofs.Listed.{listed_all, at-listed, length-listed}
use Rattle.aes_core.specs.Basis.{back, back_key}
use Rattle.aes_core.proofs.Sums.{swap, map_back-xor, map_back-twice}
use Rattle.aes_core.proofs.TableFacts.{product_one, product_three, sub_byte_below}

abbrev pub named : (ℕ → ℕ) → List ℕ
named y = y 0 ∷ y 1 ∷ y 2 ∷ y 3 ∷ y 4 ∷ y 5 ∷ y 6 ∷ y 7 ∷ y 8 ∷ y 9 ∷ y 10 ∷ y 11 ∷ y 12 ∷ y 13 ∷ y 14 ∷ y 15 ∷ []

pub named_is : (s : List ℕ) → length s ≡ 16 → named (λ i. get_or s i 0) ≡ s
named_is s long = pick_l_whole 0 s 16 long

abbrev pub rows0 : List ℕ
rows0 = 0 ∷ 5 ∷ 10 ∷ 15 ∷ 4 ∷ 9 ∷ 14 ∷ 3 ∷ 8 ∷ 13 ∷ 2 ∷ 7 ∷ 12 ∷ 1 ∷ 6 ∷ 11 ∷ []

abbrev rows1 : List ℕ
rows1 = 5 ∷ 10 ∷ 15 ∷ 0 ∷ 9 ∷ 14 ∷ 3 ∷ 4 ∷ 13 ∷ 2 ∷ 7 ∷ 8 ∷ 1 ∷ 6 ∷ 11 ∷ 12 ∷ []

abbrev rows2 : List ℕ
rows2 = 10 ∷ 15 ∷ 0 ∷ 5 ∷ 14 ∷ 3 ∷ 4 ∷ 9 ∷ 2 ∷ 7 ∷ 8 ∷ 13 ∷ 6 ∷ 11 ∷ 12 ∷ 1 ∷ []

abbrev rows3 : List ℕ
rows3 = 15 ∷ 0 ∷ 5 ∷ 10 ∷ 3 ∷ 4 ∷ 9 ∷ 14 ∷ 7 ∷ 8 ∷ 13 ∷ 2 ∷ 11 ∷ 12 ∷ 1 ∷ 6 ∷ []

-- what the code makes of SubBytes, of its double and of the key, by four shuffles
abbrev pub shuffled : List ℕ → List ℕ → List ℕ → List ℕ → List ℕ → List ℕ → List ℕ → List ℕ
shuffled p q r s one two k =
    zip2 bit_xor
    (zip2 bit_xor (zip2 bit_xor (pick_l 0 (two ++ two) p) (pick_l 0 (zip2 bit_xor two one ++ zip2 bit_xor two one) q))
    (zip2 bit_xor (pick_l 0 (one ++ one) r) (pick_l 0 (one ++ one) s)))
    k

pub map_back-shuffled : (p q r s one two k : List ℕ) → map back (shuffled p q r s one two k) ≡ shuffled p q r s (map back one) (map back two) (map back k)
map_back-shuffled p q r s one two k = simp (map_back-xor, map_back-twice)

abbrev pub made : List ℕ → List ℕ → List ℕ → List ℕ
made = shuffled rows0 rows1 rows2 rows3

-- ---- the constants cancel but for one

constants : (p q u v w x y k : ℕ) → bit_xor (bit_xor (bit_xor (bit_xor u p) (bit_xor (bit_xor v p) (bit_xor w q))) (bit_xor (bit_xor x q) (bit_xor y q))) k
    ≡ bit_xor (bit_xor (bit_xor u (bit_xor v w)) (bit_xor x y)) (bit_xor k q)
constants p q u v w x y k =
    let a = bit_xor u (bit_xor v w) in
    let b = bit_xor x y in
    let gone : bit_xor p (bit_xor p q) ≡ q = sym (xor_assoc p p q) ∙ ap (λ z. bit_xor z q) (xor_self p) in
    let left : bit_xor (bit_xor u p) (bit_xor (bit_xor v p) (bit_xor w q)) ≡ bit_xor a q =
    ap (bit_xor (bit_xor u p)) (swap v p w q) ∙ swap u p (bit_xor v w) (bit_xor p q) ∙ ap (bit_xor a) gone in
    let right : bit_xor (bit_xor x q) (bit_xor y q) ≡ b = swap x q y q ∙ ap (bit_xor b) (xor_self q) ∙ xor_zero_r b in
    let turn : bit_xor (bit_xor a q) b ≡ bit_xor (bit_xor a b) q = xor_assoc a q b ∙ ap (bit_xor a) (xor_comm q b) ∙ sym (xor_assoc a b q) in
    rw (left, right, turn) (xor_assoc (bit_xor a b) q k ∙ ap (bit_xor (bit_xor a b)) (xor_comm q k))

abbrev pub bare : ℕ → ℕ
bare x = bit_xor (sub_byte x) 0x63

abbrev pub bare_double : ℕ → ℕ
bare_double x = bit_xor (product 2 (sub_byte x)) 0xc6

-- a byte of a round from the four of its column before SubBytes, as the code has it and as the standard does
abbrev row_made : ℕ → ℕ → ℕ → ℕ → ℕ → ℕ
row_made a b c d k = bit_xor (bit_xor (bit_xor (bare_double a) (bit_xor (bare_double b) (bare b))) (bit_xor (bare c) (bare d))) k

abbrev pub row : ℕ → ℕ → ℕ → ℕ → ℕ → ℕ
row a b c d k =
    bit_xor (bit_xor (bit_xor (bit_xor (product 2 (sub_byte a)) (product 3 (sub_byte b))) (product 1 (sub_byte c))) (product 1 (sub_byte d))) (bit_xor k 0x63)

row_is : (a b c d k : ℕ) → row_made a b c d k ≡ row a b c d k
row_is a b c d k =
    let u = product 2 (sub_byte a) in
    let v = product 2 (sub_byte b) in
    rw (product_three (sub_byte b) (sub_byte_below b), product_one (sub_byte c) (sub_byte_below c), product_one (sub_byte d) (sub_byte_below d))
    (constants 0xc6 0x63 u v (sub_byte b) (sub_byte c) (sub_byte d) k
    ∙ ap (λ (z : ℕ). bit_xor z (bit_xor k 0x63)) (sym (xor_assoc (bit_xor u (bit_xor v (sub_byte b))) (sub_byte c) (sub_byte d))))

-- ---- a state by its bytes

abbrev pub laid : (ℕ → ℕ → ℕ → ℕ → ℕ → ℕ) → (ℕ → ℕ) → (ℕ → ℕ) → List ℕ
laid f s k =
    f (s 0) (s 5) (s 10) (s 15) (k 0) ∷ f (s 5) (s 10) (s 15) (s 0) (k 1) ∷ f (s 10) (s 15) (s 0) (s 5) (k 2) ∷ f (s 15) (s 0) (s 5) (s 10) (k 3)
    ∷ f (s 4) (s 9) (s 14) (s 3) (k 4) ∷ f (s 9) (s 14) (s 3) (s 4) (k 5) ∷ f (s 14) (s 3) (s 4) (s 9) (k 6) ∷ f (s 3) (s 4) (s 9) (s 14) (k 7)
    ∷ f (s 8) (s 13) (s 2) (s 7) (k 8) ∷ f (s 13) (s 2) (s 7) (s 8) (k 9) ∷ f (s 2) (s 7) (s 8) (s 13) (k 10) ∷ f (s 7) (s 8) (s 13) (s 2) (k 11)
    ∷ f (s 12) (s 1) (s 6) (s 11) (k 12) ∷ f (s 1) (s 6) (s 11) (s 12) (k 13) ∷ f (s 6) (s 11) (s 12) (s 1) (k 14) ∷ f (s 11) (s 12) (s 1) (s 6) (k 15) ∷ []

made_laid : (s k : ℕ → ℕ) → made (map bare (named s)) (map bare_double (named s)) (named k) ≡ laid row_made s k
made_laid s k = refl

pub round_laid : (s k : ℕ → ℕ) → laid row s k ≡ add_round_key (map (λ x. bit_xor x 0x63) (named k)) 0 (mix_columns (shift_rows (sub_bytes (named s))))
unfolding add_round_key mix_columns shift_rows sub_bytes listed
round_laid s k = refl

pub round_named : (s k : ℕ → ℕ) → made (map bare (named s)) (map bare_double (named s)) (named k)
    ≡ add_round_key (map (λ x. bit_xor x 0x63) (named k)) 0 (mix_columns (shift_rows (sub_bytes (named s))))
round_named s k =
    let e : ◌≡◌ {A = ℕ → ℕ → ℕ → ℕ → ℕ → ℕ} row_made row = λ i a b c d m. row_is a b c d m i in
    made_laid s k ∙ ap (λ (f : ℕ → ℕ → ℕ → ℕ → ℕ → ℕ). laid f s k) e ∙ round_laid s k

last_named : (s : ℕ → ℕ) → pick_l 0 (map sub_byte (named s) ++ map sub_byte (named s)) rows0 ≡ shift_rows (sub_bytes (named s))
unfolding shift_rows sub_bytes listed
last_named s = refl

-- ---- what the code ensures

pub key_back : (k : List ℕ) → map (λ x. bit_xor x 0x63) (map back k) ≡ map back_key k
unfolding back_key
key_back k = map-map (λ x. bit_xor x 0x63) back k

round_on : (s k : List ℕ) → length s ≡ 16 → length k ≡ 16 → made (map bare s) (map bare_double s) k
    ≡ add_round_key (map (λ x. bit_xor x 0x63) k) 0 (mix_columns (shift_rows (sub_bytes s)))
round_on s k ls lk =
    subst (λ (z : List ℕ). made (map bare z) (map bare_double z) k ≡ add_round_key (map (λ x. bit_xor x 0x63) k) 0 (mix_columns (shift_rows (sub_bytes z))))
    (named_is s ls)
    (subst (λ (z : List ℕ). made (map bare (named (λ i. get_or s i 0))) (map bare_double (named (λ i. get_or s i 0))) z
    ≡ add_round_key (map (λ x. bit_xor x 0x63) z) 0 (mix_columns (shift_rows (sub_bytes (named (λ i. get_or s i 0))))))
    (named_is k lk) (round_named (λ i. get_or s i 0) (λ i. get_or k i 0)))

pub round_is : (y k one two : List ℕ) → length y ≡ 16 → length k ≡ 16 → map back one ≡ map bare (map back y) → map back two ≡ map bare_double (map back y)
    → map back (made one two k) ≡ add_round_key (map back_key k) 0 (mix_columns (shift_rows (sub_bytes (map back y))))
round_is y k one two ly lk e f =
    map_back-shuffled rows0 rows1 rows2 rows3 one two k
    ∙ ap (λ (q : List ℕ). made q (map back two) (map back k)) e
    ∙ ap (λ (q : List ℕ). made (map bare (map back y)) q (map back k)) f
    ∙ round_on (map back y) (map back k) (length-map y back ∙ ly) (length-map k back ∙ lk)
    ∙ ap (λ (q : List ℕ). add_round_key q 0 (mix_columns (shift_rows (sub_bytes (map back y))))) (key_back k)

last_on : (s : List ℕ) → length s ≡ 16 → pick_l 0 (map sub_byte s ++ map sub_byte s) rows0 ≡ shift_rows (sub_bytes s)
last_on s long =
    subst (λ (z : List ℕ). pick_l 0 (map sub_byte z ++ map sub_byte z) rows0 ≡ shift_rows (sub_bytes z)) (named_is s long) (last_named (λ i. get_or s i 0))

pub xored_is : (s k : List ℕ) → length s ≡ 16 → length k ≡ 16 → zip2 bit_xor s k ≡ add_round_key k 0 s
unfolding add_round_key
xored_is s k ls lk =
    listed_all 16 (λ i. bit_xor (slice_index s i) (slice_index k (16 * 0 + i))) (zip2 bit_xor s k) 16 (length-zip2 bit_xor s k (omega arith) ∙ ls)
    (λ i lt.
    let e : i ≡ 16 * 0 + i = omega arith in
    get_or-zip2 bit_xor s k i 0 0 0 (omega arith) (omega arith) ∙ ap (λ (j : ℕ). bit_xor (get_or s i 0) (get_or k j 0)) e) (omega arith)

pub length-shift_rows : (s : List ℕ) → length (shift_rows s) ≡ 16
unfolding shift_rows
length-shift_rows s = length-listed 16 _

pub last_is : (y k one : List ℕ) → length y ≡ 16 → length k ≡ 16 → one ≡ map sub_byte (map back y)
    → zip2 bit_xor (pick_l 0 (one ++ one) rows0) k ≡ add_round_key k 0 (shift_rows (sub_bytes (map back y)))
last_is y k one ly lk e =
    ap (λ (q : List ℕ). zip2 bit_xor (pick_l 0 (q ++ q) rows0) k) e
    ∙ ap (λ (q : List ℕ). zip2 bit_xor q k) (last_on (map back y) (length-map y back ∙ ly))
    ∙ xored_is (shift_rows (sub_bytes (map back y))) k (length-shift_rows _) lk

pub listed_same : (n : ℕ) (f g : ℕ → ℕ) → ((i : ℕ) → i < n → f i ≡ g i) → listed n f ≡ listed n g
listed_same n f g h = listed_all n g (listed n f) n (length-listed n f) (λ i lt. at-listed n f i lt ∙ h i lt) (omega arith)

pub key_alone : (w s : List ℕ) (r : ℕ) → add_round_key (take 16 (drop (16 * r) w)) 0 s ≡ add_round_key w r s
unfolding add_round_key
key_alone w s r = listed_same 16 _ _ (λ i lt.
    let e : 16 * r + (16 * 0 + i) ≡ 16 * r + i = omega arith in
    ap (bit_xor (slice_index s i))
    (get_or-take 16 (drop (16 * r) w) (16 * 0 + i) 0 (omega arith) ∙ get_or-drop (16 * r) w (16 * 0 + i) 0 ∙ ap (λ (j : ℕ). get_or w j 0) e))
