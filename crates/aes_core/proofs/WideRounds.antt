-- A round on two blocks by shuffles of the whole vector.
use Rattle.std.proofs.Common.{◌≡◌, ℕ, ◌*◌, List, [], ◌∷◌, ◌++◌, length, map, take, drop, refl, ap, ◌∙◌, bit_xor}
use Rattle.std.proofs.lemmas.List.{map-append, length-map}
use Rattle.std.proofs.Math.Seq.{take-append_seam, drop-append_seam}
use Rattle.std.specs.Simd.Lanes.{zip2, pick_l}
use Rattle.crypto_model.specs.Field.{sub_byte}
use Rattle.crypto_model.specs.Aes.{listed, sub_bytes, shift_rows, add_round_key, cipher_with}
use Rattle.crypto_model.proofs.Listed.{length-listed}
use Rattle.aes_core.specs.Basis.{back, back_key}
use Rattle.aes_core.specs.Bitslice.{pairwise}
use Rattle.aes_core.proofs.Rows.{named, shuffled, made, bare, bare_double, map_back-shuffled, round_named, key_back}
use Rattle.aes_core.proofs.Rounds.{inner_key}
use Rattle.aes_core.proofs.Pairs.{on_any, standard_round, standard_last, tinted, first_of_is}

abbrev wide0 : List ℕ
wide0 = 0 ∷ 5 ∷ 10 ∷ 15 ∷ 4 ∷ 9 ∷ 14 ∷ 3 ∷ 8 ∷ 13 ∷ 2 ∷ 7 ∷ 12 ∷ 1 ∷ 6 ∷ 11 ∷ 16 ∷ 21 ∷ 26 ∷ 31 ∷ 20 ∷ 25 ∷ 30 ∷ 19 ∷ 24 ∷ 29 ∷ 18 ∷ 23 ∷ 28 ∷ 17 ∷ 22 ∷ 27 ∷ []

abbrev wide1 : List ℕ
wide1 = 5 ∷ 10 ∷ 15 ∷ 0 ∷ 9 ∷ 14 ∷ 3 ∷ 4 ∷ 13 ∷ 2 ∷ 7 ∷ 8 ∷ 1 ∷ 6 ∷ 11 ∷ 12 ∷ 21 ∷ 26 ∷ 31 ∷ 16 ∷ 25 ∷ 30 ∷ 19 ∷ 20 ∷ 29 ∷ 18 ∷ 23 ∷ 24 ∷ 17 ∷ 22 ∷ 27 ∷ 28 ∷ []

abbrev wide2 : List ℕ
wide2 = 10 ∷ 15 ∷ 0 ∷ 5 ∷ 14 ∷ 3 ∷ 4 ∷ 9 ∷ 2 ∷ 7 ∷ 8 ∷ 13 ∷ 6 ∷ 11 ∷ 12 ∷ 1 ∷ 26 ∷ 31 ∷ 16 ∷ 21 ∷ 30 ∷ 19 ∷ 20 ∷ 25 ∷ 18 ∷ 23 ∷ 24 ∷ 29 ∷ 22 ∷ 27 ∷ 28 ∷ 17 ∷ []

abbrev wide3 : List ℕ
wide3 = 15 ∷ 0 ∷ 5 ∷ 10 ∷ 3 ∷ 4 ∷ 9 ∷ 14 ∷ 7 ∷ 8 ∷ 13 ∷ 2 ∷ 11 ∷ 12 ∷ 1 ∷ 6 ∷ 31 ∷ 16 ∷ 21 ∷ 26 ∷ 19 ∷ 20 ∷ 25 ∷ 30 ∷ 23 ∷ 24 ∷ 29 ∷ 18 ∷ 27 ∷ 28 ∷ 17 ∷ 22 ∷ []

abbrev wide_round : List ℕ → List ℕ → List ℕ
wide_round key w = shuffled wide0 wide1 wide2 wide3 (map bare w) (map bare_double w) key

abbrev halves : (ℕ → ℕ) → (ℕ → ℕ) → List ℕ
halves s k = made (map bare (named s)) (map bare_double (named s)) (named k)

wide_made : (s t k : ℕ → ℕ) → wide_round (named k ++ named k) (named s ++ named t) ≡ halves s k ++ halves t k
wide_made s t k = refl

wide_round_is : (w k : List ℕ) → length w ≡ 32 → length k ≡ 16 → wide_round (k ++ k) w ≡ pairwise (standard_round (tinted k)) w
wide_round_is = on_any wide_round (λ q. standard_round (tinted q)) (λ s t k.
    wide_made s t k ∙ ap (λ (l : List ℕ). l ++ halves t k) (round_named s k)
    ∙ ap (λ (l : List ℕ). standard_round (tinted (named k)) (named s) ++ l) (round_named t k))

pub pair_round_is : (y k key one two : List ℕ) → length y ≡ 32 → length k ≡ 16 → key ≡ k ++ k
    → map back one ≡ map bare (map back y) → map back two ≡ map bare_double (map back y)
    → map back (shuffled wide0 wide1 wide2 wide3 one two key) ≡ pairwise (standard_round (map back_key k)) (map back y)
pair_round_is y k key one two ly lk ek e f =
    map_back-shuffled wide0 wide1 wide2 wide3 one two key
    ∙ ap (λ (q : List ℕ). shuffled wide0 wide1 wide2 wide3 q (map back two) (map back key)) e
    ∙ ap (λ (q : List ℕ). shuffled wide0 wide1 wide2 wide3 (map bare (map back y)) q (map back key)) f
    ∙ ap (λ (q : List ℕ). wide_round q (map back y)) (ap (map back) ek ∙ map-append back k k)
    ∙ wide_round_is (map back y) (map back k) (length-map y back ∙ ly) (length-map k back ∙ lk)
    ∙ ap (λ (q : List ℕ). pairwise (standard_round q) (map back y)) (key_back k)

abbrev wide_last : List ℕ → List ℕ → List ℕ
wide_last key w = zip2 bit_xor (pick_l 0 (map sub_byte w ++ map sub_byte w) wide0) key

last_made : (s t k : ℕ → ℕ) → wide_last (named k ++ named k) (named s ++ named t) ≡ standard_last (named k) (named s) ++ standard_last (named k) (named t)
unfolding add_round_key shift_rows sub_bytes listed
last_made s t k = refl

pub pair_last_is : (y k key one : List ℕ) → length y ≡ 32 → length k ≡ 16 → key ≡ k ++ k → one ≡ map sub_byte (map back y)
    → zip2 bit_xor (pick_l 0 (one ++ one) wide0) key ≡ pairwise (standard_last k) (map back y)
pair_last_is y k key one ly lk ek e =
    ap (λ (q : List ℕ). zip2 bit_xor (pick_l 0 (q ++ q) wide0) key) e ∙ ap (λ (q : List ℕ). wide_last q (map back y)) ek
    ∙ on_any wide_last standard_last last_made (map back y) k (length-map y back ∙ ly) lk

pub pair_first_is : (pair k key : List ℕ) → length pair ≡ 32 → length k ≡ 16 → key ≡ k ++ k → zip2 bit_xor pair key ≡ pairwise (add_round_key k 0) pair
pair_first_is pair k key lp lk ek = ap (λ (q : List ℕ). zip2 bit_xor pair q) ek ∙ first_of_is k pair lk lp

-- with the key of a round as the rounds before the last read it
pub inner_round : (w inner k y z : List ℕ) (r : ℕ) → map back_key inner ≡ w → k ≡ take 16 (drop (16 * r) inner)
    → z ≡ pairwise (standard_round (map back_key k)) y → z ≡ pairwise (standard_round (take 16 (drop (16 * r) w))) y
inner_round w inner k y z r h i e = e ∙ ap (λ (q : List ℕ). pairwise (standard_round q) y) (inner_key w inner k r h i)

-- ---- the halves of a pair

pub first_half : (f : List ℕ → List ℕ) (a b pair out : List ℕ) → ((x : List ℕ) → length (f x) ≡ 16) → length a ≡ 16 → pair ≡ a ++ b → out ≡ pairwise f pair → take 16 out ≡ f a
first_half f a b pair out long la e h =
    let first : take 16 (a ++ b) ≡ a = rw la at (take-append_seam a b) in
    let there : take 16 pair ≡ a = ap (take 16) e ∙ first in
    ap (take 16) h ∙ (rw (long (take 16 pair)) at (take-append_seam (f (take 16 pair)) (f (drop 16 pair)))) ∙ ap f there

pub second_half : (f : List ℕ → List ℕ) (a b pair out : List ℕ) → ((x : List ℕ) → length (f x) ≡ 16) → length a ≡ 16 → pair ≡ a ++ b → out ≡ pairwise f pair → drop 16 out ≡ f b
second_half f a b pair out long la e h =
    let second : drop 16 (a ++ b) ≡ b = rw la at (drop-append_seam a b) in
    let there : drop 16 pair ≡ b = ap (drop 16) e ∙ second in
    ap (drop 16) h ∙ (rw (long (take 16 pair)) at (drop-append_seam (f (take 16 pair)) (f (drop 16 pair)))) ∙ ap f there

pub length-cipher_with : (w : List ℕ) (n : ℕ) (x : List ℕ) → length (cipher_with w n x) ≡ 16
unfolding cipher_with add_round_key
length-cipher_with w n x = length-listed 16 _
