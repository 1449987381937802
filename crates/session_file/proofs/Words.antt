-- Lines of words with single spaces between them are cut into these words again.
use Rattle.std.proofs.Common.{◌≡◌, ◌∙◌, ◌-◌, ◌++◌, ◌==◌, ℕ, List, [], ◌∷◌, length, true, false, ap, refl, arith, Bool, map, filter, not, append-nil}
use Rattle.std.specs.Prelude.{slice_index, nat_le, nat_lt}
use Rattle.std.specs.Char.{is_ascii_digit}
use Rattle.std.specs.List.{flat_map, list_all, slice_split}
use Rattle.std.specs.Str.Lines.{strip_carriage_return}
use Rattle.std.proofs.lemmas.Bool.Decides.{nat_tests}
use Rattle.std.proofs.lemmas.List.Folds.{list_all-append}
use Rattle.hex.specs.Hex.{is_hex_digit}
use Rattle.session_file.specs.Text.{is_blank, lines_of, raw_lines, words_of}
use Rattle.session_file.specs.Value.{Word, is_hex, is_name, is_name_byte, is_number}
use Rattle.session_file.specs.Spelling.{spaced}
use Rattle.crypto_model.proofs.Both.{both}
use Rattle.session_file.proofs.Values.{IsHex-from_test, IsNumber-from_test, each_passes}

-- a byte of a printed word, and of a printed line
abbrev pub is_plain : ℕ → Bool
is_plain b = nat_lt 32 b

abbrev pub is_printed : ℕ → Bool
is_printed b = nat_le 32 b

pub record IsWord (w : Word) : Type 0 where
  pub some : (length w == 0) ≡ false
  pub plain : list_all is_plain w ≡ true

abbrev pub AreWords : List Word → Type 0
AreWords [] = Unit {0}
AreWords (w ∷ ws) = IsWord w × AreWords ws

pub AreWords-append : (vs ws : List Word) → AreWords vs → AreWords ws → AreWords (vs ++ ws)
AreWords-append [] ws first second = second
AreWords-append (v ∷ vs) ws first second = (first.0, AreWords-append vs ws first.1 second)

-- ---- what is a word

all_pass : (p q : ℕ → Bool) (w : Word) → ((b : ℕ) → p b ≡ true → q b ≡ true) → list_all p w ≡ true → list_all q w ≡ true
all_pass p q [] each all = refl
all_pass p q (b ∷ w) each all =
    let rest : list_all p w ≡ true = (both _ _ all).1 in
    rw (each b (both _ _ all).0, all_pass p q w each rest) refl

plain_digit : (b : ℕ) → is_ascii_digit b ≡ true → is_plain b ≡ true
plain_digit b e = grind (arith, nat_tests)

plain_hex_digit : (b : ℕ) → is_hex_digit b ≡ true → is_plain b ≡ true
plain_hex_digit b e = grind (arith, nat_tests)

plain_name_byte : (b : ℕ) → is_name_byte b ≡ true → is_plain b ≡ true
plain_name_byte b e = grind (arith, nat_tests)

not_empty : (n : ℕ) → nat_lt 0 n ≡ true → (n == 0) ≡ false
not_empty n e = grind (arith, nat_tests)

pub IsWord-number : (w : Word) → is_number w ≡ true → IsWord w
IsWord-number w e =
    let is = IsNumber-from_test w e in
    record { some = not_empty (length w) is.some; plain = all_pass is_ascii_digit is_plain w plain_digit is.digits }

pub IsWord-hex : (w : Word) → is_hex w ≡ true → IsWord w
IsWord-hex w e =
    let is = IsHex-from_test w e in
    record { some = not_empty (length w) is.some; plain = all_pass is_hex_digit is_plain w plain_hex_digit is.digits }

pub IsWord-name : (w : Word) → is_name w ≡ true → IsWord w
unfolding is_name
IsWord-name w e =
    let some = both _ _ e in
    let short = both _ _ some.1 in
    let bytes = both _ _ short.1 in
    record { some = not_empty (length w) some.0; plain = all_pass is_name_byte is_plain w plain_name_byte bytes.0 }

-- ---- words of a line

split_word : (w more : List ℕ) → list_all is_plain w ≡ true → slice_split is_blank (w ++ 32 ∷ more) ≡ w ∷ slice_split is_blank more
split_word [] more all = refl
split_word (b ∷ w) more all =
    let plain : is_plain b ≡ true = (both _ _ all).0 in
    let other : is_blank b ≡ false = grind (arith, nat_tests) in
    let rest : list_all is_plain w ≡ true = (both _ _ all).1 in
    rw (other, split_word w more rest) refl

split_last : (w : List ℕ) → list_all is_plain w ≡ true → slice_split is_blank w ≡ w ∷ []
split_last [] all = refl
split_last (b ∷ w) all =
    let plain : is_plain b ≡ true = (both _ _ all).0 in
    let other : is_blank b ≡ false = grind (arith, nat_tests) in
    let rest : list_all is_plain w ≡ true = (both _ _ all).1 in
    rw (other, split_last w rest) refl

split_words : (w : Word) (ws : List Word) → IsWord w → AreWords ws → slice_split is_blank (w ++ flat_map spaced ws) ≡ w ∷ ws
split_words w [] is all = rw append-nil (split_last w is.plain)
split_words w (v ∷ vs) is all = split_word w (v ++ flat_map spaced vs) is.plain ∙ ap (λ (us : List Word). w ∷ us) (split_words v vs all.0 all.1)

all_stay : (ws : List Word) → AreWords ws → filter (λ w. not (length w == 0)) ws ≡ ws
all_stay [] all = refl
all_stay (w ∷ ws) all = rw (all.0.some, all_stay ws all.1) refl

-- a line of words with single spaces
abbrev pub line_of : Word → List Word → List ℕ
line_of w ws = w ++ flat_map spaced ws

pub words_again : (w : Word) (ws : List Word) → IsWord w → AreWords ws → words_of (line_of w ws) ≡ w ∷ ws
unfolding words_of
words_again w ws is all = ap (filter (λ w. not (length w == 0))) (split_words w ws is all) ∙ all_stay (w ∷ ws) (is, all)

-- ---- lines of a text

raw_first : (line rest : List ℕ) → list_all is_printed line ≡ true → raw_lines (line ++ 10 ∷ rest) ≡ line ∷ raw_lines rest
raw_first [] rest all = refl
raw_first (b ∷ line) rest all =
    let printed : is_printed b ≡ true = (both _ _ all).0 in
    let other : (b == 10) ≡ false = grind (arith, nat_tests) in
    let behind : list_all is_printed line ≡ true = (both _ _ all).1 in
    rw (other, raw_first line rest behind) refl

no_return : (line : List ℕ) → list_all is_printed line ≡ true → strip_carriage_return line ≡ line
no_return [] all = refl
no_return (b ∷ line) all =
    let printed : is_printed (slice_index (b ∷ line) (length (b ∷ line) - 1)) ≡ true = each_passes is_printed (b ∷ line) (length (b ∷ line) - 1) all (omega arith) in
    let other : (slice_index (b ∷ line) (length (b ∷ line) - 1) == 13) ≡ false = grind (arith, nat_tests) in
    rw other refl

line_first : (line rest : List ℕ) → list_all is_printed line ≡ true → lines_of (line ++ 10 ∷ rest) ≡ line ∷ lines_of rest
unfolding lines_of
line_first line rest all =
    ap (map strip_carriage_return) (raw_first line rest all) ∙ ap (λ (x : List ℕ). x ∷ map strip_carriage_return (raw_lines rest)) (no_return line all)

printed : (b : ℕ) → is_plain b ≡ true → is_printed b ≡ true
printed b e = grind (arith, nat_tests)

all_printed : (w : Word) (ws : List Word) → IsWord w → AreWords ws → list_all is_printed (line_of w ws) ≡ true
all_printed w [] is all = rw append-nil (all_pass is_plain is_printed w printed is.plain)
all_printed w (v ∷ vs) is all =
    list_all-append is_printed w (flat_map spaced (v ∷ vs)) ∙ rw (all_pass is_plain is_printed w printed is.plain, all_printed v vs all.0 all.1) refl

pub line_again : (w : Word) (ws : List Word) (rest : List ℕ) → IsWord w → AreWords ws → lines_of (line_of w ws ++ 10 ∷ rest) ≡ line_of w ws ∷ lines_of rest
line_again w ws rest is all = line_first (line_of w ws) rest (all_printed w ws is all)
