-- SubBytes as a circuit on planes: which bits its parts make of a byte.
use Rattle.std.specs.Prelude.{ℕ, zero, suc, ◌<◌, List, [], ◌∷◌, bit_and}
use Rattle.std.specs.Int.RustNames.{count_ones}
use Rattle.std.specs.Simd.Lanes.{Each1}
use Rattle.crypto_model.specs.Field.{product}

abbrev pub IsBytes : List (List ℕ) → Type 0
IsBytes vs = Each1 (Each1 (λ x. x < 256)) vs

-- how many of the bits in the mask are set: the lowest bit of that is their sum
unfoldable pub chosen : ℕ → ℕ → ℕ
chosen mask x = count_ones (bit_and mask x)

-- x ^ n in the field
unfoldable pub raised : ℕ → ℕ → ℕ
raised x zero = 1
raised x (suc n) = product x (raised x n)

-- one of sixteen elements, which are a field within
unfoldable pub norm : ℕ → ℕ
norm x = raised x 17

-- the inverse of the norm, and 0 for 0
unfoldable pub inverse_norm : ℕ → ℕ
inverse_norm x = raised (norm x) 14

abbrev pub forms : List (ℕ → ℕ)
forms =
    chosen 0x01 ∷ chosen 0x61 ∷ chosen 0xe1 ∷ chosen 0xe7 ∷ chosen 0x71 ∷ chosen 0x63 ∷ chosen 0x9b ∷ chosen 0x4f ∷
    chosen 0x84 ∷ chosen 0x90 ∷ chosen 0xfa ∷ chosen 0x4e ∷ chosen 0x96 ∷ chosen 0x82 ∷ chosen 0x14 ∷ chosen 0x9a ∷
    chosen 0x2e ∷ chosen 0xb4 ∷ chosen 0xae ∷ chosen 0x7e ∷ chosen 0xde ∷ chosen 0xac ∷ []

abbrev pub norms : List (ℕ → ℕ)
norms = (λ x. chosen 0x35 (norm x)) ∷ (λ x. chosen 0x01 (norm x)) ∷ (λ x. chosen 0x11 (norm x)) ∷ (λ x. chosen 0x31 (norm x)) ∷ []

abbrev pub inverses : List (ℕ → ℕ)
inverses =
    (λ x. chosen 0x31 (inverse_norm x)) ∷ (λ x. chosen 0x01 (inverse_norm x)) ∷ (λ x. chosen 0x35 (inverse_norm x)) ∷
    (λ x. chosen 0x11 (inverse_norm x)) ∷ []
