-- The lines of a text, and the words of a line.
use Rattle.std.specs.Prelude.{◌==◌, ◌||◌, ℕ, Bool, not, List, [], ◌∷◌, length, map, filter, if◌then◌else◌}
use Rattle.std.specs.List.{slice_split, onto_first}
use Rattle.std.specs.Str.Lines.{strip_carriage_return}

-- what stands before each LF, and behind the last LF where anything does
abbrev pub raw_lines : List ℕ → List (List ℕ)
raw_lines [] = []
raw_lines (b ∷ rest) = if b == 10 then [] ∷ raw_lines rest else onto_first b (raw_lines rest)

-- the same, each without a CR at its end
unfoldable pub lines_of : List ℕ → List (List ℕ)
lines_of text = map strip_carriage_return (raw_lines text)

-- a space or a tab
abbrev pub is_blank : ℕ → Bool
is_blank b = b == 32 || b == 9

-- what stands between blanks
unfoldable pub words_of : List ℕ → List (List ℕ)
words_of line = filter (λ w. not (length w == 0)) (slice_split is_blank line)
