-- What a NUMBER and a HEX say, written anew, says the same.
use Rattle.std.proofs.Common.{◌≡◌, ◌<◌, ◌≤◌, ◌*◌, ◌^◌, ◌%◌, ◌==◌, ℕ, List, length, true, sym, refl, arith}
use Rattle.std.specs.Prelude.{nat_le, nat_lt, decimal}
use Rattle.std.specs.Char.{is_ascii_digit}
use Rattle.std.specs.List.{list_all}
use Rattle.std.proofs.lemmas.Bool.Decides.{nat_tests}
use Rattle.std.proofs.lemmas.Fmt.{decimal_nonempty, digits_decimal, digits_value-decimal, length-decimal-le}
use Rattle.std.proofs.lemmas.List.Sums.{list_all-from_AllPass}
use Rattle.hex.specs.Hex.{IsBytes, encode_lower, is_hex_digit}
use Rattle.hex.proofs.HexLemmas.{decode_of-encode_lower, decode_of-ok}
use Rattle.session_file.specs.Value.{Word, hex_bytes, is_hex, is_number, number}
use Rattle.session_file.proofs.Values.{SaysBytes-hex, hex_read, number_small, own}

-- ---- NUMBER

pub small_number : (w : Word) → is_number w ≡ true → number w < 10 ^ 7
unfolding number
small_number w e = number_small w e

pub number_again : (n : ℕ) → n < 10 ^ 7 → number (decimal n) ≡ n
unfolding number
number_again n small = digits_value-decimal own n (omega arith)

pub is_number-decimal : (n : ℕ) → n < 10 ^ 7 → is_number (decimal n) ≡ true
unfolding is_number
is_number-decimal n small =
    let digits : list_all is_ascii_digit (decimal n) ≡ true = digits_decimal own n (omega arith) in
    let some : 0 < length (decimal n) = decimal_nonempty n (omega arith) in
    let few : length (decimal n) ≤ 7 = length-decimal-le 7 n (omega arith) small (omega arith) in
    let least : nat_le 1 (length (decimal n)) ≡ true = grind (arith, nat_tests) in
    let most : nat_le (length (decimal n)) 7 ≡ true = grind (arith, nat_tests) in
    rw (digits, least, most) refl

-- ---- HEX

-- bytes that a HEX can say
pub record AreBytes (bytes : List ℕ) : Type 0 where
  pub each : IsBytes bytes
  pub some : 0 < length bytes

pub AreBytes-hex : (w : Word) → is_hex w ≡ true → AreBytes (hex_bytes w)
AreBytes-hex w e = let is = SaysBytes-hex w e in record { each = is.bytes; some = is.some }

pub hex_again : (bytes : List ℕ) → AreBytes bytes → hex_bytes (encode_lower bytes) ≡ bytes
hex_again bytes are = sym (hex_read (encode_lower bytes) bytes (decode_of-encode_lower bytes are.each))

pub is_hex-encode : (bytes : List ℕ) → AreBytes bytes → is_hex (encode_lower bytes) ≡ true
unfolding is_hex
is_hex-encode bytes are =
    let ok = decode_of-ok (encode_lower bytes) bytes (decode_of-encode_lower bytes are.each) in
    let digits : list_all is_hex_digit (encode_lower bytes) ≡ true = list_all-from_AllPass is_hex_digit (encode_lower bytes) ok.1 in
    let even : length (encode_lower bytes) % 2 ≡ 0 = ok.0 in
    let size : length (encode_lower bytes) ≡ 2 * length bytes = ok.2 in
    let long : 0 < length bytes = are.some in
    let some : nat_lt 0 (length (encode_lower bytes)) ≡ true = grind (arith, nat_tests) in
    let pairs : (length (encode_lower bytes) % 2 == 0) ≡ true = grind (arith, nat_tests) in
    rw (digits, some, pairs) refl
