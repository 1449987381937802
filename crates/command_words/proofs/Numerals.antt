-- The number of a numeral.
use Rattle.std.proofs.Common.{◌≡◌, ◌∙◌, ◌<◌, ◌≤◌, ◌^◌, ◌&&◌, ℕ, List, length, true, sym, ap, cond, arith, rules, Bool, Some, None, Result, Ok}
use Rattle.std.specs.Prelude.{nat_le}
use Rattle.std.specs.Char.{is_ascii_digit}
use Rattle.std.specs.List.{list_all}
use Rattle.std.specs.Result.{result_ok}
use Rattle.std.specs.Str.Parse.{ParsesUnsigned, digits_value}
use Rattle.std.proofs.lemmas.Str.Parse.{IsNumeralModel, digits_value_short, numerals_by_value, parse_gives}
use Rattle.std.proofs.Math.Bool.{and-eq-true_iff}
use Rattle.std.proofs.lemmas.Bool.Decides.{nat_tests}
use Rattle.command_words.specs.Asked.{is_numeral, number_in}

own : IsNumeralModel (λ ds. list_all is_ascii_digit ds ≡ true) (digits_value 10)
own = numerals_by_value _ (search rules)

-- the three tests of a numeral
record IsNumeral (most : ℕ) (text : List ℕ) : Type 0 where
  some : nat_le 1 (length text) ≡ true
  short : nat_le (length text) most ≡ true
  digits : list_all is_ascii_digit text ≡ true

IsNumeral-from_test : (most : ℕ) (text : List ℕ) → is_numeral most text ≡ true → IsNumeral most text
unfolding is_numeral
IsNumeral-from_test most text e =
    let first = (and-eq-true_iff (nat_le 1 (length text)) (nat_le (length text) most && list_all is_ascii_digit text)).0 e in
    let second = (and-eq-true_iff (nat_le (length text) most) (list_all is_ascii_digit text)).0 first.1 in
    record { some = first.0; short = second.0; digits = second.1 }

sizes : (n most : ℕ) → nat_le 1 n ≡ true → nat_le n most ≡ true → (1 ≤ n) × (n ≤ most)
sizes n most some short = grind (arith, nat_tests)

-- a numeral of at most 20 digits is read as its number
number_read : {E : Type 0} (most : ℕ) (text : List ℕ) (read : Result ℕ E) → most ≤ 20 → is_numeral most text ≡ true → ParsesUnsigned 128 10 text read
    → read ≡ Ok (digits_value 10 text)
number_read most text read few e parsed =
    let is = IsNumeral-from_test most text e in
    let size = sizes (length text) most is.some is.short in
    let small : digits_value 10 text < 10 ^ 20 = digits_value_short own text 20 is.digits (omega (arith, size.1, few)) in
    parse_gives own 128 text read parsed is.digits (omega (arith, size.0)) (omega (arith, small))

pub numeral_read : {E : Type 0} (most : ℕ) (text : List ℕ) (read : Result ℕ E) → most ≤ 20 → is_numeral most text ≡ true → ParsesUnsigned 128 10 text read
    → result_ok read ≡ number_in most text
numeral_read most text read few e parsed =
    ap result_ok (number_read most text read few e parsed)
    ∙ sym (ap (λ (counts : Bool). cond counts (Some (digits_value 10 text)) None) e)
