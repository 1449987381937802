-- Numbers and hex text.
use Rattle.std.proofs.Common.{◌≡◌, ◌∙◌, ◌<◌, ◌≤◌, ◌+◌, ◌-◌, ◌*◌, ◌^◌, ◌%◌, ◌/◌, ◌++◌, ◌&&◌, ◌==◌, ℕ, zero, suc, List, [], ◌∷◌, length, take, true, false, true≢false, sym, ap, refl, arith, rules, Bool, Ok}
use Rattle.std.specs.Prelude.{slice_index, nat_le, nat_lt}
use Rattle.std.specs.Char.{digit_value, is_ascii_digit}
use Rattle.std.specs.List.{list_all}
use Rattle.std.specs.Str.Parse.{digits_value, digits_value_after}
use Rattle.std.proofs.lemmas.List.{take_more, take_all}
use Rattle.std.proofs.lemmas.List.Sums.{AllPass-from_list_all}
use Rattle.std.proofs.lemmas.Str.Parse.{IsNumeralModel, digits_value-take-le, digits_value_short, numerals_by_value}
use Rattle.std.proofs.lemmas.Bool.Decides.{nat_tests}
use Rattle.hex.specs.Hex.{IsBytes, decode_of, is_hex_digit}
use Rattle.hex.proofs.HexLemmas.{decode_of-digits, decode_of-ok}
use Rattle.session_file.specs.Value.{Word, hex_bytes, is_hex, is_number, number}
use Rattle.crypto_model.proofs.Both.{both}

pub each_passes : (p : ℕ → Bool) (w : Word) (i : ℕ) → list_all p w ≡ true → i < length w → p (slice_index w i) ≡ true
each_passes p [] i all lt = absurd (omega arith)
each_passes p (x ∷ xs) zero all lt = (both _ _ all).0
each_passes p (x ∷ xs) (suc i) all lt = each_passes p xs i (both _ _ all).1 (omega arith)

-- ---- NUMBER

pub own : IsNumeralModel (λ ds. list_all is_ascii_digit ds ≡ true) (digits_value 10)
own = numerals_by_value _ (search rules)

-- the three tests of a NUMBER
pub record IsNumber (w : Word) : Type 0 where
  pub some : nat_le 1 (length w) ≡ true
  pub short : nat_le (length w) 7 ≡ true
  pub digits : list_all is_ascii_digit w ≡ true

pub IsNumber-from_test : (w : Word) → is_number w ≡ true → IsNumber w
unfolding is_number
IsNumber-from_test w e =
    let first = both (nat_le 1 (length w)) (nat_le (length w) 7 && list_all is_ascii_digit w) e in
    let second = both (nat_le (length w) 7) (list_all is_ascii_digit w) first.1 in
    record { some = first.0; short = second.0; digits = second.1 }

short : (w : Word) → IsNumber w → length w ≤ 7
short w is = let seven : nat_le (length w) 7 ≡ true = is.short in grind (arith, nat_tests)

pub number_small : (w : Word) → is_number w ≡ true → digits_value 10 w < 10 ^ 7
number_small w e =
    let is = IsNumber-from_test w e in
    digits_value_short own w 7 is.digits (short w is)

pub so_far_small : (w : Word) (i : ℕ) → is_number w ≡ true → digits_value 10 (take i w) < 10000000
so_far_small w i e =
    let le : digits_value 10 (take i w) ≤ digits_value 10 w = digits_value-take-le 10 w i (omega arith) in
    let small : digits_value 10 w < 10000000 = number_small w e in
    omega arith

digit_range : (c : ℕ) → is_ascii_digit c ≡ true → (48 ≤ c) × (c ≤ 57) × (digit_value c ≡ c - 48)
digit_range c e = grind (arith, nat_tests)

pub digit_at : (w : Word) (i : ℕ) → is_number w ≡ true → i < length w
    → (48 ≤ slice_index w i) × (slice_index w i ≤ 57) × (digit_value (slice_index w i) ≡ slice_index w i - 48)
digit_at w i e lt = digit_range (slice_index w i) (each_passes is_ascii_digit w i (IsNumber-from_test w e).digits lt)

after_push : (n : ℕ) (xs : List ℕ) (y : ℕ) → digits_value_after 10 n (xs ++ y ∷ []) ≡ digits_value_after 10 n xs * 10 + digit_value y
after_push n [] y = refl
after_push n (x ∷ xs) y = after_push (n * 10 + digit_value x) xs y

pub one_more : (w : Word) (i : ℕ) → is_number w ≡ true → i < length w
    → digits_value 10 (take i w) * 10 + (slice_index w i - 48) ≡ digits_value 10 (take (i + 1) w)
one_more w i e lt =
    sym (ap (λ (ds : List ℕ). digits_value 10 ds) (take_more w i 0 lt) ∙ (after_push 0 (take i w) (slice_index w i)
    ∙ ap (λ d. digits_value 10 (take i w) * 10 + d) (digit_at w i e lt).2))

pub whole_number : (w : Word) (i : ℕ) → length w ≤ i → digits_value 10 (take i w) ≡ number w
unfolding number
whole_number w i ge = ap (λ (ds : List ℕ). digits_value 10 ds) (take_all i w ge)

-- ---- HEX

-- the three tests of a HEX
pub record IsHex (w : Word) : Type 0 where
  pub some : nat_lt 0 (length w) ≡ true
  pub even : (length w % 2 == 0) ≡ true
  pub digits : list_all is_hex_digit w ≡ true

pub IsHex-from_test : (w : Word) → is_hex w ≡ true → IsHex w
unfolding is_hex
IsHex-from_test w e =
    let first = both (nat_lt 0 (length w)) (length w % 2 == 0 && list_all is_hex_digit w) e in
    let second = both (length w % 2 == 0) (list_all is_hex_digit w) first.1 in
    record { some = first.0; even = second.0; digits = second.1 }

-- what a HEX says
pub record SaysBytes (w : Word) : Type 0 where
  pub size : length w ≡ 2 * length (hex_bytes w)
  pub bytes : IsBytes (hex_bytes w)
  pub some : 0 < length (hex_bytes w)

pub hex_read : (w bytes : List ℕ) → decode_of w ≡ Ok bytes → bytes ≡ hex_bytes w
unfolding hex_bytes
hex_read w bytes e = rw e refl

in_pairs : (n : ℕ) → (n % 2 == 0) ≡ true → n % 2 ≡ 0
in_pairs n e = grind (arith, nat_tests)

half_some : (n m : ℕ) → nat_lt 0 n ≡ true → n ≡ 2 * m → 0 < m
half_some n m e same = grind (arith, nat_tests)

pub SaysBytes-hex : (w : Word) → is_hex w ≡ true → SaysBytes w
SaysBytes-hex w e =
    let is = IsHex-from_test w e in
    let found = decode_of-digits w (in_pairs (length w) is.even) (AllPass-from_list_all is_hex_digit w is.digits) in
    let read : decode_of w ≡ Ok (hex_bytes w) = found.1 ∙ ap (λ (x : List ℕ). Ok x) (hex_read w found.0 found.1) in
    let ok = decode_of-ok w (hex_bytes w) read in
    record { size = ok.2; bytes = ok.3; some = half_some (length w) (length (hex_bytes w)) is.some ok.2 }

-- as many bytes as pairs of digits
pub hex_len : (w : Word) → is_hex w ≡ true → length w / 2 ≡ length (hex_bytes w)
hex_len w e = let size : length w ≡ 2 * length (hex_bytes w) = (SaysBytes-hex w e).size in omega arith
