-- What a NUMBER, a HEX and a NAME are, and what they say.
use Rattle.std.specs.Prelude.{◌==◌, ◌||◌, ◌&&◌, ◌%◌, ℕ, Bool, not, List, [], length, codes, nat_le, nat_lt, bytes_eq}
use Rattle.std.specs.Char.{is_ascii_digit}
use Rattle.std.specs.List.{list_all}
use Rattle.std.specs.Result.{result_unwrap_or}
use Rattle.std.specs.Str.Parse.{digits_value}
use Rattle.hex.specs.Hex.{decode_of, is_hex_digit}

abbrev pub Word : Type 0
Word = List ℕ

-- 1 to 7 decimal digits
unfoldable pub is_number : Word → Bool
is_number w = nat_le 1 (length w) && (nat_le (length w) 7 && list_all is_ascii_digit w)

unfoldable pub number : Word → ℕ
number w = digits_value 10 w

-- hexadecimal digits of either case, a nonzero even number of them
unfoldable pub is_hex : Word → Bool
is_hex w = nat_lt 0 (length w) && (length w % 2 == 0 && list_all is_hex_digit w)

unfoldable pub hex_bytes : Word → List ℕ
hex_bytes w = result_unwrap_or (decode_of w) []

-- a to z, 0 to 9, `_` and `-`
abbrev pub is_name_byte : ℕ → Bool
is_name_byte b = (nat_le 97 b && nat_le b 122) || (nat_le 48 b && nat_le b 57) || b == 95 || b == 45

-- 1 to 32 of these bytes, but not `pass`
unfoldable pub is_name : Word → Bool
is_name w = nat_le 1 (length w) && (nat_le (length w) 32 && (list_all is_name_byte w && not (bytes_eq w (codes "pass"))))
