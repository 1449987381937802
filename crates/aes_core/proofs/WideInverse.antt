-- The transformations of the inverse cipher on two blocks, and its rounds counted down.
use Rattle.std.proofs.Common.{◌≡◌, ℕ, zero, suc, ◌-◌, ◌*◌, ◌<◌, ◌≤◌, List, [], ◌∷◌, ◌++◌, length, map, take, drop, refl, ap, ◌∙◌, arith, bit_xor}
use Rattle.std.proofs.Math.Path.{fun_ext}
use Rattle.std.proofs.lemmas.List.{length-take-le}
use Rattle.std.specs.Simd.Lanes.{zip2}
use Rattle.crypto_model.specs.Field.{product}
use Rattle.crypto_model.specs.Aes.{listed, add_round_key, inverse_cipher_with, inverse_mix_columns, inverse_rounds, inverse_shift_rows, inverse_sub_bytes}
use Rattle.crypto_model.proofs.Listed.{length-listed}
use Rattle.aes_core.specs.Bitslice.{pairwise}
use Rattle.aes_core.proofs.Rows.{named, key_alone}
use Rattle.aes_core.proofs.InverseBytes.{unsub}
use Rattle.aes_core.proofs.InverseStates.{picked}
use Rattle.aes_core.proofs.DecryptRounds as R
use Rattle.aes_core.proofs.Pairs.{on_any}
use Rattle.aes_core.proofs.Sliced.{pair_then}
use Rattle.aes_core.proofs.WideRounds.{pair_first_is}

-- a fact on written lists, of any two blocks
on_pair : (F G : List ℕ → List ℕ) → ((s t : ℕ → ℕ) → F (named s ++ named t) ≡ G (named s) ++ G (named t)) → (w : List ℕ) → length w ≡ 32 → F w ≡ pairwise G w
on_pair F G h w long = on_any (λ q v. F v) (λ q s. G s) (λ s t k. h s t) w (take 16 w) long (length-take-le 16 w (omega (arith, long)))

abbrev wide_turned : List ℕ
wide_turned = 0 ∷ 13 ∷ 10 ∷ 7 ∷ 4 ∷ 1 ∷ 14 ∷ 11 ∷ 8 ∷ 5 ∷ 2 ∷ 15 ∷ 12 ∷ 9 ∷ 6 ∷ 3 ∷ 16 ∷ 29 ∷ 26 ∷ 23 ∷ 20 ∷ 17 ∷ 30 ∷ 27 ∷ 24 ∷ 21 ∷ 18 ∷ 31 ∷ 28 ∷ 25 ∷ 22 ∷ 19 ∷ []

abbrev wide_up_1 : List ℕ
wide_up_1 = 1 ∷ 2 ∷ 3 ∷ 0 ∷ 5 ∷ 6 ∷ 7 ∷ 4 ∷ 9 ∷ 10 ∷ 11 ∷ 8 ∷ 13 ∷ 14 ∷ 15 ∷ 12 ∷ 17 ∷ 18 ∷ 19 ∷ 16 ∷ 21 ∷ 22 ∷ 23 ∷ 20 ∷ 25 ∷ 26 ∷ 27 ∷ 24 ∷ 29 ∷ 30 ∷ 31 ∷ 28 ∷ []

abbrev wide_up_2 : List ℕ
wide_up_2 = 2 ∷ 3 ∷ 0 ∷ 1 ∷ 6 ∷ 7 ∷ 4 ∷ 5 ∷ 10 ∷ 11 ∷ 8 ∷ 9 ∷ 14 ∷ 15 ∷ 12 ∷ 13 ∷ 18 ∷ 19 ∷ 16 ∷ 17 ∷ 22 ∷ 23 ∷ 20 ∷ 21 ∷ 26 ∷ 27 ∷ 24 ∷ 25 ∷ 30 ∷ 31 ∷ 28 ∷ 29 ∷ []

abbrev wide_up_3 : List ℕ
wide_up_3 = 3 ∷ 0 ∷ 1 ∷ 2 ∷ 7 ∷ 4 ∷ 5 ∷ 6 ∷ 11 ∷ 8 ∷ 9 ∷ 10 ∷ 15 ∷ 12 ∷ 13 ∷ 14 ∷ 19 ∷ 16 ∷ 17 ∷ 18 ∷ 23 ∷ 20 ∷ 21 ∷ 22 ∷ 27 ∷ 24 ∷ 25 ∷ 26 ∷ 31 ∷ 28 ∷ 29 ∷ 30 ∷ []

shifted_written : (s t : ℕ → ℕ) → picked (named s ++ named t) wide_turned ≡ inverse_shift_rows (named s) ++ inverse_shift_rows (named t)
unfolding inverse_shift_rows listed
shifted_written s t = refl

pub shifted_pair : (w : List ℕ) → length w ≡ 32 → picked w wide_turned ≡ pairwise inverse_shift_rows w
shifted_pair = on_pair (λ w. picked w wide_turned) inverse_shift_rows shifted_written

substituted_written : (s t : ℕ → ℕ) → map unsub (named s ++ named t) ≡ inverse_sub_bytes (named s) ++ inverse_sub_bytes (named t)
unfolding inverse_sub_bytes listed
substituted_written s t = refl

pub substituted_pair : (w : List ℕ) → length w ≡ 32 → map unsub w ≡ pairwise inverse_sub_bytes w
substituted_pair = on_pair (map unsub) inverse_sub_bytes substituted_written

abbrev mixes : List ℕ → List ℕ
mixes w = zip2 bit_xor (zip2 bit_xor (zip2 bit_xor (map (product 14) w) (picked (map (product 11) w) wide_up_1)) (picked (map (product 13) w) wide_up_2)) (picked (map (product 9) w) wide_up_3)

mixed_written : (s t : ℕ → ℕ) → mixes (named s ++ named t) ≡ inverse_mix_columns (named s) ++ inverse_mix_columns (named t)
unfolding inverse_mix_columns listed
mixed_written s t = refl

pub mixed_pair : (w a b c d : List ℕ) → length w ≡ 32
    → a ≡ map (product 14) w → b ≡ map (product 11) w → c ≡ map (product 13) w → d ≡ map (product 9) w
    → zip2 bit_xor (zip2 bit_xor (zip2 bit_xor a (picked b wide_up_1)) (picked c wide_up_2)) (picked d wide_up_3) ≡ pairwise inverse_mix_columns w
mixed_pair w a b c d long e f g h = rw (e, f, g, h) (on_pair mixes inverse_mix_columns mixed_written w long)

pair_same : (f g : List ℕ → List ℕ) → ((x : List ℕ) → f x ≡ g x) → (w : List ℕ) → pairwise f w ≡ pairwise g w
pair_same f g same w = ap (λ (h : List ℕ → List ℕ). pairwise h w) (fun_ext same)

pub keyed_pair : (w pair k key : List ℕ) (r : ℕ) → length pair ≡ 32 → length k ≡ 16 → k ≡ take 16 (drop (16 * r) w) → key ≡ k ++ k
    → zip2 bit_xor pair key ≡ pairwise (add_round_key w r) pair
keyed_pair w pair k key r lp lk ek e =
    pair_first_is pair k key lp lk e ∙ ap (λ (q : List ℕ). pairwise (add_round_key q 0) pair) ek
    ∙ pair_same _ _ (λ s. key_alone w s r) pair

length-shifted : (s : List ℕ) → length (inverse_shift_rows s) ≡ 16
unfolding inverse_shift_rows
length-shifted s = length-listed 16 _

length-substituted : (s : List ℕ) → length (inverse_sub_bytes s) ≡ 16
unfolding inverse_sub_bytes
length-substituted s = length-listed 16 _

length-keyed : (w : List ℕ) (r : ℕ) (s : List ℕ) → length (add_round_key w r s) ≡ 16
unfolding add_round_key
length-keyed w r s = length-listed 16 _

pub last_pair : (w pair a b c : List ℕ) (r : ℕ) → a ≡ pairwise inverse_shift_rows pair → b ≡ pairwise inverse_sub_bytes a → c ≡ pairwise (add_round_key w r) b
    → c ≡ pairwise (λ s. add_round_key w r (inverse_sub_bytes (inverse_shift_rows s))) pair
last_pair w pair a b c r ea eb ec =
    ec ∙ ap (pairwise (add_round_key w r)) (eb ∙ ap (pairwise inverse_sub_bytes) ea ∙ pair_then inverse_sub_bytes inverse_shift_rows length-shifted pair)
    ∙ pair_then (add_round_key w r) (λ s. inverse_sub_bytes (inverse_shift_rows s)) (λ s. length-substituted (inverse_shift_rows s)) pair

abbrev step : List ℕ → ℕ → List ℕ → List ℕ
step w r s = inverse_mix_columns (add_round_key w r (inverse_sub_bytes (inverse_shift_rows s)))

pub round_pair : (w pair a b c d : List ℕ) (r : ℕ) → a ≡ pairwise inverse_shift_rows pair → b ≡ pairwise inverse_sub_bytes a → c ≡ pairwise (add_round_key w r) b
    → d ≡ pairwise inverse_mix_columns c → d ≡ pairwise (step w r) pair
round_pair w pair a b c d r ea eb ec ed =
    ed ∙ ap (pairwise inverse_mix_columns) (last_pair w pair a b c r ea eb ec)
    ∙ pair_then inverse_mix_columns (λ s. add_round_key w r (inverse_sub_bytes (inverse_shift_rows s))) (λ s. length-keyed w r (inverse_sub_bytes (inverse_shift_rows s))) pair

-- t is the state of the pair before the round with key i - 1 of n
abbrev pub IsPairBefore : List ℕ → ℕ → List ℕ → ℕ → List ℕ → Type 0
IsPairBefore w n pair i t = t ≡ pairwise (λ s. inverse_rounds w n s (n - i)) pair

length-rounds : (w s : List ℕ) (n r : ℕ) → length (inverse_rounds w n s r) ≡ 16
unfolding inverse_rounds add_round_key inverse_mix_columns
length-rounds w s n zero = length-listed 16 _
length-rounds w s n (suc r) = length-listed 16 _

pub begins : (w pair t : List ℕ) (n : ℕ) → t ≡ pairwise (add_round_key w n) pair → IsPairBefore w n pair n t
begins w pair t n e = e ∙ pair_same (add_round_key w n) (λ s. inverse_rounds w n s (n - n)) (λ s. R.begins w s (add_round_key w n s) n refl) pair

pub goes_on : (w pair t u : List ℕ) (n i : ℕ) → 1 < i → i ≤ n → IsPairBefore w n pair i t → u ≡ pairwise (step w (i - 1)) t → IsPairBefore w n pair (i - 1) u
goes_on w pair t u n i above within e f =
    f ∙ ap (pairwise (step w (i - 1))) e
    ∙ pair_then (step w (i - 1)) (λ s. inverse_rounds w n s (n - i)) (λ s. length-rounds w s n (n - i)) pair
    ∙ pair_same _ _ (λ s. R.goes_on w s (inverse_rounds w n s (n - i)) (step w (i - 1) (inverse_rounds w n s (n - i))) n i above within refl refl) pair

abbrev end : List ℕ → List ℕ → List ℕ
end w s = add_round_key w 0 (inverse_sub_bytes (inverse_shift_rows s))

pub ends : (w pair t u : List ℕ) (n i : ℕ) → i ≡ 1 → IsPairBefore w n pair i t → u ≡ pairwise (end w) t → u ≡ pairwise (inverse_cipher_with w n) pair
ends w pair t u n i last e f =
    f ∙ ap (pairwise (end w)) e
    ∙ pair_then (end w) (λ s. inverse_rounds w n s (n - i)) (λ s. length-rounds w s n (n - i)) pair
    ∙ pair_same _ _ (λ s. R.ends w s (inverse_rounds w n s (n - i)) (end w (inverse_rounds w n s (n - i))) n i last refl refl) pair

pub length-inverse_cipher_with : (w : List ℕ) (n : ℕ) (x : List ℕ) → length (inverse_cipher_with w n x) ≡ 16
unfolding inverse_cipher_with
length-inverse_cipher_with w n x = length-keyed w 0 _
