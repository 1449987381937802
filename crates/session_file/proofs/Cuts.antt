-- Cutting a text at its first LF.
use Rattle.std.proofs.Common.{◌≡◌, ◌<◌, ◌≤◌, ◌==◌, ℕ, zero, suc, List, [], ◌∷◌, length, take, drop, true, false, sym, ap, refl, arith, map, Bool, Some, None}
use Rattle.std.specs.Prelude.{slice_index}
use Rattle.std.specs.List.{position, position_or_len}
use Rattle.std.specs.Str.Lines.{strip_carriage_return}
use Rattle.std.proofs.lemmas.List.Quantifiers.{position-Some}
use Rattle.std.proofs.lemmas.List.Sums.{fails_before_first}
use Rattle.std.proofs.lemmas.Bool.Decides.{nat_tests}
use Rattle.session_file.specs.Text.{lines_of, raw_lines}

abbrev is_line_feed : ℕ → Bool
is_line_feed b = b == 10

-- the first LF ends the first line
raw_cut : (xs : List ℕ) (k : ℕ) → k < length xs → ((j : ℕ) → j < k → is_line_feed (slice_index xs j) ≡ false) → is_line_feed (slice_index xs k) ≡ true
    → raw_lines xs ≡ take k xs ∷ raw_lines (drop (suc k) xs)
raw_cut [] k lt before found = absurd (omega arith)
raw_cut (x ∷ xs) zero lt before found = rw found refl
raw_cut (x ∷ xs) (suc k) lt before found =
    let other : is_line_feed x ≡ false = before 0 (omega arith) in
    let rest : raw_lines xs ≡ take k xs ∷ raw_lines (drop (suc k) xs) = raw_cut xs k (omega arith) (λ j lt. before (suc j) (omega arith)) found in
    rw (other, rest) refl

-- without one the text is a line
raw_last : (xs : List ℕ) → 0 < length xs → ((j : ℕ) → j < length xs → is_line_feed (slice_index xs j) ≡ false) → raw_lines xs ≡ xs ∷ []
raw_last [] lt before = absurd (omega arith)
raw_last (x ∷ []) lt before = let other : is_line_feed x ≡ false = before 0 (omega arith) in rw other refl
raw_last (x ∷ y ∷ ys) lt before =
    let other : is_line_feed x ≡ false = before 0 (omega arith) in
    let rest : raw_lines (y ∷ ys) ≡ (y ∷ ys) ∷ [] = raw_last (y ∷ ys) (omega arith) (λ j lt. before (suc j) (omega arith)) in
    rw (other, rest) refl

pub lines_cut : (xs : List ℕ) (k : ℕ) → Some k ≡ position is_line_feed xs
    → lines_of xs ≡ strip_carriage_return (take k xs) ∷ lines_of (drop (suc k) xs)
unfolding lines_of
lines_cut xs k e =
    let first = position-Some is_line_feed xs k 0 (sym e) in
    ap (map strip_carriage_return) (raw_cut xs k first.0 first.2 first.1)

pub lines_last : (xs : List ℕ) → 0 < length xs → None ≡ position is_line_feed xs → lines_of xs ≡ strip_carriage_return xs ∷ lines_of []
unfolding lines_of
lines_last xs lt e =
    let none : length xs ≤ position_or_len is_line_feed xs = grind (arith, nat_tests) in
    ap (map strip_carriage_return) (raw_last xs lt (λ j lt. fails_before_first is_line_feed xs j 0 (omega arith)))
