-- Counters of CTR by two words, their blocks in pairs, and the key stream.
use Rattle.std.specs.Prelude.{ℕ, zero, suc, ◌+◌, ◌/◌, ◌%◌, ◌^◌, List, [], ◌∷◌, ◌++◌}
use Rattle.crypto_model.specs.Modes.{counter_block}

-- the lower and the higher word of 64 bits
abbrev pub words_of : ℕ → List ℕ
words_of t = t % 2 ^ 64 ∷ t / 2 ^ 64 ∷ []

-- n pairs of counter blocks, from the one i behind the counter t on
abbrev pub counter_pairs : ℕ → ℕ → ℕ → List (List ℕ)
counter_pairs t i zero = []
counter_pairs t i (suc n) = (counter_block ((t + i) % 2 ^ 128) ++ counter_block ((t + (i + 1)) % 2 ^ 128)) ∷ counter_pairs t (i + 2) n

-- one behind another
abbrev pub joined : List (List ℕ) → List ℕ
joined [] = []
joined (v ∷ vs) = v ++ joined vs

-- n blocks of key stream from the counter t on
unfoldable pub key_stream : (List ℕ → List ℕ) → ℕ → ℕ → List ℕ
key_stream e t zero = []
key_stream e t (suc n) = e (counter_block t) ++ key_stream e ((t + 1) % 2 ^ 128) n
