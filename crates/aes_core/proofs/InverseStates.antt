-- The transformations of the inverse cipher on a state of sixteen bytes.
use Rattle.std.proofs.Common.{◌≡◌, ℕ, List, [], ◌∷◌, ◌++◌, get_or, length, map, refl, sym, bit_xor}
use Rattle.std.specs.Simd.Lanes.{zip2, pick_l}
use Rattle.crypto_model.specs.Field.{product}
use Rattle.crypto_model.specs.Aes.{listed, inverse_mix_columns, inverse_shift_rows, inverse_sub_bytes}
use Rattle.aes_core.proofs.Rows.{named, named_is}
use Rattle.aes_core.proofs.InverseBytes.{unsub}

abbrev written : List ℕ → List ℕ
written s = named (λ i. get_or s i 0)

-- the bytes of s at these places
abbrev pub picked : List ℕ → List ℕ → List ℕ
picked s places = pick_l 0 (s ++ s) places

abbrev pub turned : List ℕ
turned = 0 ∷ 13 ∷ 10 ∷ 7 ∷ 4 ∷ 1 ∷ 14 ∷ 11 ∷ 8 ∷ 5 ∷ 2 ∷ 15 ∷ 12 ∷ 9 ∷ 6 ∷ 3 ∷ []

abbrev pub up_1 : List ℕ
up_1 = 1 ∷ 2 ∷ 3 ∷ 0 ∷ 5 ∷ 6 ∷ 7 ∷ 4 ∷ 9 ∷ 10 ∷ 11 ∷ 8 ∷ 13 ∷ 14 ∷ 15 ∷ 12 ∷ []

abbrev pub up_2 : List ℕ
up_2 = 2 ∷ 3 ∷ 0 ∷ 1 ∷ 6 ∷ 7 ∷ 4 ∷ 5 ∷ 10 ∷ 11 ∷ 8 ∷ 9 ∷ 14 ∷ 15 ∷ 12 ∷ 13 ∷ []

abbrev pub up_3 : List ℕ
up_3 = 3 ∷ 0 ∷ 1 ∷ 2 ∷ 7 ∷ 4 ∷ 5 ∷ 6 ∷ 11 ∷ 8 ∷ 9 ∷ 10 ∷ 15 ∷ 12 ∷ 13 ∷ 14 ∷ []

shifted_written : (s : List ℕ) → picked (written s) turned ≡ inverse_shift_rows (written s)
unfolding inverse_shift_rows listed
shifted_written s = refl

pub shifted : (s : List ℕ) → length s ≡ 16 → picked s turned ≡ inverse_shift_rows s
shifted s long = rw (sym (named_is s long)) (shifted_written s)

substituted_written : (s : List ℕ) → map unsub (written s) ≡ inverse_sub_bytes (written s)
unfolding inverse_sub_bytes listed
substituted_written s = refl

pub substituted : (s : List ℕ) → length s ≡ 16 → map unsub s ≡ inverse_sub_bytes s
substituted s long = rw (sym (named_is s long)) (substituted_written s)

-- byte i of a column is a sum over the bytes from it on, so each multiple is moved up its columns
mixed_written : (s : List ℕ)
    → zip2 bit_xor (zip2 bit_xor (zip2 bit_xor (map (product 14) (written s)) (picked (map (product 11) (written s)) up_1)) (picked (map (product 13) (written s)) up_2)) (picked (map (product 9) (written s)) up_3)
    ≡ inverse_mix_columns (written s)
unfolding inverse_mix_columns listed
mixed_written s = refl

pub mixed : (s a b c d : List ℕ) → length s ≡ 16
    → a ≡ map (product 14) s → b ≡ map (product 11) s → c ≡ map (product 13) s → d ≡ map (product 9) s
    → zip2 bit_xor (zip2 bit_xor (zip2 bit_xor a (picked b up_1)) (picked c up_2)) (picked d up_3) ≡ inverse_mix_columns s
mixed s a b c d long e f g h = rw (e, f, g, h, sym (named_is s long)) (mixed_written s)
