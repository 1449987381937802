-- Sixteen blocks in planes: eight vectors of two.
use Rattle.std.specs.Prelude.{◌≡◌, ℕ, zero, suc, ◌+◌, ◌*◌, ◌<◌, List, [], ◌∷◌, ◌++◌, map, take, drop, replicate, bit_xor}
use Rattle.std.specs.Int.{bit_at}
use Rattle.aes_core.specs.Planes.{turned}

-- f on each of two blocks
abbrev pub pairwise : (List ℕ → List ℕ) → List ℕ → List ℕ
pairwise f v = f (take 16 v) ++ f (drop 16 v)

abbrev pub bit_of : ℕ → ℕ → ℕ
bit_of k x = bit_at x k

-- a round key for two blocks: those behind the first bring the constant of SubBytes, which the planes leave out
unfoldable pub plane_key : ℕ → List ℕ → List ℕ
plane_key zero k = k ++ k
plane_key (suc r) k = map (λ x. bit_xor x 0x63) (k ++ k)

-- the planes of round r
abbrev pub planes_at : ℕ → List ℕ → List (List ℕ)
planes_at r keys = take 32 (drop (256 * r) keys) ∷ take 32 (drop (256 * r + 32) keys) ∷ take 32 (drop (256 * r + 64) keys)
    ∷ take 32 (drop (256 * r + 96) keys) ∷ take 32 (drop (256 * r + 128) keys) ∷ take 32 (drop (256 * r + 160) keys)
    ∷ take 32 (drop (256 * r + 192) keys) ∷ take 32 (drop (256 * r + 224) keys) ∷ []

-- the planes of each round are those of its key
abbrev pub IsSliced : List ℕ → List ℕ → Type 0
IsSliced words keys = (r : ℕ) → r < 15 → turned (planes_at r keys) ≡ replicate 8 (plane_key r (take 16 (drop (16 * r) words)))
