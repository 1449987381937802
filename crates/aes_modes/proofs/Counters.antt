-- Counters by two words, and their blocks in pairs.
use Rattle.std.proofs.Common.{◌≡◌, ℕ, zero, suc, ◌+◌, ◌*◌, ◌%◌, ◌^◌, ◌<◌, List, [], ◌∷◌, ◌++◌, length, map, take, drop, get_or, refl, ap, ◌∙◌, arith, append_assoc, length-append}
use Rattle.std.proofs.lemmas.List.{append-nil}
use Rattle.std.proofs.lemmas.Simd.{pick_l_whole}
use Rattle.std.proofs.Math.Seq.{take-append_seam, drop-append_seam}
use Rattle.std.specs.Simd.Lanes.{zip2}
use Rattle.crypto_model.specs.Modes.{counter_block}
use Rattle.aes_core.specs.Bitslice.{pairwise}
use Rattle.aes_modes.specs.Counters.{words_of, counter_pairs, joined, key_stream}

pub length-counter_block : (t : ℕ) → length (counter_block t) ≡ 16
unfolding counter_block
length-counter_block t = refl

abbrev wrapped : ℕ → ℕ → ℕ
wrapped a b = (a + b) % 2 ^ 64

two_same : {a b x y : ℕ} → a ≡ x → b ≡ y → a ∷ b ∷ [] ≡ x ∷ y ∷ []
two_same d e = λ i. d i ∷ e i ∷ []

-- the words of a later counter, where the lower one has room
pub later : (t i : ℕ) (words : List ℕ) → t < 2 ^ 128 → words ≡ words_of t → t % 2 ^ 64 + i < 2 ^ 64 → zip2 wrapped words (i ∷ 0 ∷ []) ≡ words_of ((t + i) % 2 ^ 128)
later t i words small e room =
    ap (λ (w : List ℕ). zip2 wrapped w (i ∷ 0 ∷ [])) e ∙ two_same (omega arith) (omega arith)

-- two blocks beside each other
pub beside : (s t : ℕ) (x y : List ℕ) → x ≡ counter_block s → y ≡ counter_block t → length (x ++ y) ≡ 32
beside s t x y d e = length-append x y ∙ omega (arith, ap length d ∙ length-counter_block s, ap length e ∙ length-counter_block t)

pub same_pair : {x y : List ℕ} {xs ys : List (List ℕ)} → x ≡ y → xs ≡ ys → x ∷ xs ≡ y ∷ ys
same_pair d e = λ i. d i ∷ e i

-- a pair by steps of 128 bits
pub stepped : (t i m : ℕ) (x : List ℕ) → m ≡ (t + i) % 2 ^ 128 → x ≡ counter_block m ++ counter_block ((m + 1) % 2 ^ 128)
    → x ≡ counter_block ((t + i) % 2 ^ 128) ++ counter_block ((t + (i + 1)) % 2 ^ 128)
stepped t i m x e f =
    let next : (m + 1) % 2 ^ 128 ≡ (t + (i + 1)) % 2 ^ 128 = omega arith in
    f ∙ ap (λ (k : ℕ). counter_block m ++ counter_block k) next ∙ ap (λ (k : ℕ). counter_block k ++ counter_block ((t + (i + 1)) % 2 ^ 128)) e

pairwise_blocks : (e : List ℕ → List ℕ) (s t : ℕ) → pairwise e (counter_block s ++ counter_block t) ≡ e (counter_block s) ++ e (counter_block t)
pairwise_blocks e s t =
    let a = counter_block s in
    let b = counter_block t in
    let first : take 16 (a ++ b) ≡ a = rw (length-counter_block s) at (take-append_seam a b) in
    let second : drop 16 (a ++ b) ≡ b = rw (length-counter_block s) at (drop-append_seam a b) in
    rw (first, second) refl

pub pairs_stream : (e : List ℕ → List ℕ) (t i n : ℕ) → joined (map (pairwise e) (counter_pairs t i n)) ≡ key_stream e ((t + i) % 2 ^ 128) (2 * n)
unfolding key_stream
pairs_stream e t i zero = refl
pairs_stream e t i (suc n) =
    let s = (t + i) % 2 ^ 128 in
    let count : 2 * suc n ≡ suc (suc (2 * n)) = omega arith in
    let one : (t + (i + 1)) % 2 ^ 128 ≡ (s + 1) % 2 ^ 128 = omega arith in
    let two : (t + (i + 2)) % 2 ^ 128 ≡ ((s + 1) % 2 ^ 128 + 1) % 2 ^ 128 = omega arith in
    rw count
    (ap (λ (l : List ℕ). l ++ joined (map (pairwise e) (counter_pairs t (i + 2) n))) (pairwise_blocks e s ((t + (i + 1)) % 2 ^ 128))
    ∙ append_assoc (e (counter_block s)) (e (counter_block ((t + (i + 1)) % 2 ^ 128))) (joined (map (pairwise e) (counter_pairs t (i + 2) n)))
    ∙ ap (λ (k : ℕ). e (counter_block s) ++ (e (counter_block k) ++ joined (map (pairwise e) (counter_pairs t (i + 2) n)))) one
    ∙ ap (λ (l : List ℕ). e (counter_block s) ++ (e (counter_block ((s + 1) % 2 ^ 128)) ++ l)) (pairs_stream e t (i + 2) n)
    ∙ ap (λ (k : ℕ). e (counter_block s) ++ (e (counter_block ((s + 1) % 2 ^ 128)) ++ key_stream e k (2 * n))) two)

pub sixteen_stream : (e : List ℕ → List ℕ) (t : ℕ) (pairs stream : List (List ℕ)) → t < 2 ^ 128 → pairs ≡ counter_pairs t 0 8 → stream ≡ map (pairwise e) pairs
    → joined stream ≡ key_stream e t 16
sixteen_stream e t pairs stream small d f =
    let here : (t + 0) % 2 ^ 128 ≡ t = omega arith in
    ap joined (f ∙ ap (map (pairwise e)) d) ∙ pairs_stream e t 0 8 ∙ ap (λ (k : ℕ). key_stream e k 16) here

-- eight lists joined, by halves
halves_written : (a0 a1 a2 a3 a4 a5 a6 a7 : List ℕ) → ((a0 ++ a1) ++ (a2 ++ a3)) ++ ((a4 ++ a5) ++ (a6 ++ a7)) ≡ joined (a0 ∷ a1 ∷ a2 ∷ a3 ∷ a4 ∷ a5 ∷ a6 ∷ a7 ∷ [])
halves_written a0 a1 a2 a3 a4 a5 a6 a7 = simp (append_assoc, append-nil)

pub halves : (ps : List (List ℕ)) → length ps ≡ 8 → ((get_or ps 0 [] ++ get_or ps 1 []) ++ (get_or ps 2 [] ++ get_or ps 3 []))
    ++ ((get_or ps 4 [] ++ get_or ps 5 []) ++ (get_or ps 6 [] ++ get_or ps 7 [])) ≡ joined ps
halves ps long =
    halves_written (get_or ps 0 []) (get_or ps 1 []) (get_or ps 2 []) (get_or ps 3 []) (get_or ps 4 []) (get_or ps 5 []) (get_or ps 6 []) (get_or ps 7 []) ∙ ap joined (pick_l_whole {X = List ℕ} [] ps 8 long)
