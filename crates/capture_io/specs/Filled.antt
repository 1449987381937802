-- How a packet that was read lies in segments.
use Rattle.std.specs.Prelude.{ℕ, ◌-◌, ◌*◌, ◌/◌, List, [], ◌∷◌, ◌++◌, replicate}

-- the offsets and lengths of n bytes: all segments begin at 0, and all but the last are full
abbrev pub filled_shape : ℕ → List (ℕ × ℕ)
filled_shape n = let full = (n - 1) / 2048 in replicate full (0, 2048) ++ (0, n - 2048 * full) ∷ []
