-- Bytes written into a packet.
use Rattle.std.specs.Prelude.{ℕ, List, ◌++◌, length, take, drop}

-- xs with ys laid over it from i on, as long as xs
abbrev pub laid_at : ℕ → List ℕ → List ℕ → List ℕ
laid_at i ys xs = take (length xs) (take i xs ++ (ys ++ drop (length ys) (drop i xs)))
