-- What an expanded key holds.
use Rattle.std.specs.Prelude.{◌≡◌, ◌⊎◌, ℕ, ◌+◌, ◌-◌, ◌*◌, List, map, take}
use Rattle.crypto_model.specs.Aes.{expanded}
use Rattle.aes_core.specs.Basis.{back_key}

-- the words are the schedule of the key that they begin with, and the inner ones stand for them
abbrev pub IsExpanded : List ℕ → List ℕ → ℕ → Type 0
IsExpanded words inner rounds = ((rounds ≡ 10) ⊎ (rounds ≡ 12) ⊎ (rounds ≡ 14))
    × (take (16 * (rounds + 1)) words ≡ expanded (take (4 * (rounds - 6)) words))
    × (map back_key inner ≡ words)
