-- What a write that failed left behind.
use Rattle.std.specs.Prelude.{◌≡◌, ◌<◌, ◌++◌, ℕ, List, length, take}

-- a front of these bytes was appended, and not all of them
abbrev pub AppendsPart : List ℕ → List ℕ → List ℕ → Type 0
AppendsPart old new bytes = (n : ℕ) × (n < length bytes) × (new ≡ old ++ take n bytes)
