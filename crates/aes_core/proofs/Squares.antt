-- Bytes as rows of bits, eight rows to a square, and the square turned.
use Rattle.std.proofs.Common.{◌≡◌, ℕ, ◌+◌, ◌*◌, ◌/◌, ◌%◌, ◌^◌, ◌<◌, ◌-◌, List, [], ◌∷◌, true, refl, ap, sym, ◌∙◌, arith, bit_and, bit_xor, min, rules}
use Rattle.std.specs.Int.{bit_at}
use Rattle.std.specs.Int.Bits.{xor_comm, xor_zero_r}
use Rattle.std.proofs.lemmas.Nat.{xor_block, xor_shr, xor_mod}
use Rattle.std.proofs.lemmas.Nat.Bits.{bit_at_and, bit_at_xor, bit_at-lt, same_from_bits}
use Rattle.crypto_model.proofs.Computed.{all_below}
use Rattle.aes_core.specs.Planes.{low_kept, high_kept}
use Rattle.aes_core.proofs.TableFacts.{agrees, at_byte}

-- the number of the bits that f makes of bytes
abbrev pub number : (ℕ → ℕ) → List ℕ → ℕ
number f [] = 0
number f (x ∷ xs) = number f xs * 2 + f x % 2

abbrev pub bit : ℕ → ℕ → ℕ
bit k x = bit_at x k

abbrev row : ℕ → ℕ → ℕ → ℕ → ℕ → ℕ → ℕ → ℕ → ℕ
row c0 c1 c2 c3 c4 c5 c6 c7 =
    (((((((0 * 2 + c7 % 2) * 2 + c6 % 2) * 2 + c5 % 2) * 2 + c4 % 2) * 2 + c3 % 2) * 2 + c2 % 2) * 2 + c1 % 2) * 2 + c0 % 2

abbrev plain_row : ℕ → ℕ → ℕ → ℕ → ℕ → ℕ → ℕ → ℕ → ℕ
plain_row c0 c1 c2 c3 c4 c5 c6 c7 =
    (((((((0 * 2 + c7) * 2 + c6) * 2 + c5) * 2 + c4) * 2 + c3) * 2 + c2) * 2 + c1) * 2 + c0

row_same : {c0 c1 c2 c3 c4 c5 c6 c7 d0 d1 d2 d3 d4 d5 d6 d7 : ℕ} → c0 ≡ d0 → c1 ≡ d1 → c2 ≡ d2 → c3 ≡ d3
    → c4 ≡ d4 → c5 ≡ d5 → c6 ≡ d6 → c7 ≡ d7 → plain_row c0 c1 c2 c3 c4 c5 c6 c7 ≡ plain_row d0 d1 d2 d3 d4 d5 d6 d7
row_same e0 e1 e2 e3 e4 e5 e6 e7 = λ i. plain_row (e0 i) (e1 i) (e2 i) (e3 i) (e4 i) (e5 i) (e6 i) (e7 i)

-- a byte is the number of its bits
abbrev again : ℕ → ℕ
again x = row (bit 0 x) (bit 1 x) (bit 2 x) (bit 3 x) (bit 4 x) (bit 5 x) (bit 6 x) (bit 7 x)

again_all : all_below (agrees again (λ x. x)) 256 ≡ true
unfolding all_below
again_all = refl

again_is : (x : ℕ) → x < 256 → again x ≡ x
again_is = at_byte again (λ x. x) again_all

taken0 : (c0 c1 c2 c3 c4 c5 c6 c7 : ℕ) → bit 0 (row c0 c1 c2 c3 c4 c5 c6 c7) % 2 ≡ c0 % 2
taken0 c0 c1 c2 c3 c4 c5 c6 c7 = omega arith

taken1 : (c0 c1 c2 c3 c4 c5 c6 c7 : ℕ) → bit 1 (row c0 c1 c2 c3 c4 c5 c6 c7) % 2 ≡ c1 % 2
taken1 c0 c1 c2 c3 c4 c5 c6 c7 = omega arith

taken2 : (c0 c1 c2 c3 c4 c5 c6 c7 : ℕ) → bit 2 (row c0 c1 c2 c3 c4 c5 c6 c7) % 2 ≡ c2 % 2
taken2 c0 c1 c2 c3 c4 c5 c6 c7 = omega arith

taken3 : (c0 c1 c2 c3 c4 c5 c6 c7 : ℕ) → bit 3 (row c0 c1 c2 c3 c4 c5 c6 c7) % 2 ≡ c3 % 2
taken3 c0 c1 c2 c3 c4 c5 c6 c7 = omega arith

taken4 : (c0 c1 c2 c3 c4 c5 c6 c7 : ℕ) → bit 4 (row c0 c1 c2 c3 c4 c5 c6 c7) % 2 ≡ c4 % 2
taken4 c0 c1 c2 c3 c4 c5 c6 c7 = omega arith

taken5 : (c0 c1 c2 c3 c4 c5 c6 c7 : ℕ) → bit 5 (row c0 c1 c2 c3 c4 c5 c6 c7) % 2 ≡ c5 % 2
taken5 c0 c1 c2 c3 c4 c5 c6 c7 = omega arith

taken6 : (c0 c1 c2 c3 c4 c5 c6 c7 : ℕ) → bit 6 (row c0 c1 c2 c3 c4 c5 c6 c7) % 2 ≡ c6 % 2
taken6 c0 c1 c2 c3 c4 c5 c6 c7 = omega arith

taken7 : (c0 c1 c2 c3 c4 c5 c6 c7 : ℕ) → bit 7 (row c0 c1 c2 c3 c4 c5 c6 c7) % 2 ≡ c7 % 2
taken7 c0 c1 c2 c3 c4 c5 c6 c7 = omega arith

-- turned twice
pub twice0 : (x0 x1 x2 x3 x4 x5 x6 x7 : ℕ) → x0 < 256 → (let xs = x0 ∷ x1 ∷ x2 ∷ x3 ∷ x4 ∷ x5 ∷ x6 ∷ x7 ∷ [] in
    number (bit 0) (number (bit 0) xs ∷ number (bit 1) xs ∷ number (bit 2) xs ∷ number (bit 3) xs ∷ number (bit 4) xs ∷ number (bit 5) xs ∷ number (bit 6) xs ∷ number (bit 7) xs ∷ [])) ≡ x0
twice0 x0 x1 x2 x3 x4 x5 x6 x7 lt =
    row_same
    (taken0 (bit 0 x0) (bit 0 x1) (bit 0 x2) (bit 0 x3) (bit 0 x4) (bit 0 x5) (bit 0 x6) (bit 0 x7))
    (taken0 (bit 1 x0) (bit 1 x1) (bit 1 x2) (bit 1 x3) (bit 1 x4) (bit 1 x5) (bit 1 x6) (bit 1 x7))
    (taken0 (bit 2 x0) (bit 2 x1) (bit 2 x2) (bit 2 x3) (bit 2 x4) (bit 2 x5) (bit 2 x6) (bit 2 x7))
    (taken0 (bit 3 x0) (bit 3 x1) (bit 3 x2) (bit 3 x3) (bit 3 x4) (bit 3 x5) (bit 3 x6) (bit 3 x7))
    (taken0 (bit 4 x0) (bit 4 x1) (bit 4 x2) (bit 4 x3) (bit 4 x4) (bit 4 x5) (bit 4 x6) (bit 4 x7))
    (taken0 (bit 5 x0) (bit 5 x1) (bit 5 x2) (bit 5 x3) (bit 5 x4) (bit 5 x5) (bit 5 x6) (bit 5 x7))
    (taken0 (bit 6 x0) (bit 6 x1) (bit 6 x2) (bit 6 x3) (bit 6 x4) (bit 6 x5) (bit 6 x6) (bit 6 x7))
    (taken0 (bit 7 x0) (bit 7 x1) (bit 7 x2) (bit 7 x3) (bit 7 x4) (bit 7 x5) (bit 7 x6) (bit 7 x7))
    ∙ again_is x0 lt

pub twice1 : (x0 x1 x2 x3 x4 x5 x6 x7 : ℕ) → x1 < 256 → (let xs = x0 ∷ x1 ∷ x2 ∷ x3 ∷ x4 ∷ x5 ∷ x6 ∷ x7 ∷ [] in
    number (bit 1) (number (bit 0) xs ∷ number (bit 1) xs ∷ number (bit 2) xs ∷ number (bit 3) xs ∷ number (bit 4) xs ∷ number (bit 5) xs ∷ number (bit 6) xs ∷ number (bit 7) xs ∷ [])) ≡ x1
twice1 x0 x1 x2 x3 x4 x5 x6 x7 lt =
    row_same
    (taken1 (bit 0 x0) (bit 0 x1) (bit 0 x2) (bit 0 x3) (bit 0 x4) (bit 0 x5) (bit 0 x6) (bit 0 x7))
    (taken1 (bit 1 x0) (bit 1 x1) (bit 1 x2) (bit 1 x3) (bit 1 x4) (bit 1 x5) (bit 1 x6) (bit 1 x7))
    (taken1 (bit 2 x0) (bit 2 x1) (bit 2 x2) (bit 2 x3) (bit 2 x4) (bit 2 x5) (bit 2 x6) (bit 2 x7))
    (taken1 (bit 3 x0) (bit 3 x1) (bit 3 x2) (bit 3 x3) (bit 3 x4) (bit 3 x5) (bit 3 x6) (bit 3 x7))
    (taken1 (bit 4 x0) (bit 4 x1) (bit 4 x2) (bit 4 x3) (bit 4 x4) (bit 4 x5) (bit 4 x6) (bit 4 x7))
    (taken1 (bit 5 x0) (bit 5 x1) (bit 5 x2) (bit 5 x3) (bit 5 x4) (bit 5 x5) (bit 5 x6) (bit 5 x7))
    (taken1 (bit 6 x0) (bit 6 x1) (bit 6 x2) (bit 6 x3) (bit 6 x4) (bit 6 x5) (bit 6 x6) (bit 6 x7))
    (taken1 (bit 7 x0) (bit 7 x1) (bit 7 x2) (bit 7 x3) (bit 7 x4) (bit 7 x5) (bit 7 x6) (bit 7 x7))
    ∙ again_is x1 lt

pub twice2 : (x0 x1 x2 x3 x4 x5 x6 x7 : ℕ) → x2 < 256 → (let xs = x0 ∷ x1 ∷ x2 ∷ x3 ∷ x4 ∷ x5 ∷ x6 ∷ x7 ∷ [] in
    number (bit 2) (number (bit 0) xs ∷ number (bit 1) xs ∷ number (bit 2) xs ∷ number (bit 3) xs ∷ number (bit 4) xs ∷ number (bit 5) xs ∷ number (bit 6) xs ∷ number (bit 7) xs ∷ [])) ≡ x2
twice2 x0 x1 x2 x3 x4 x5 x6 x7 lt =
    row_same
    (taken2 (bit 0 x0) (bit 0 x1) (bit 0 x2) (bit 0 x3) (bit 0 x4) (bit 0 x5) (bit 0 x6) (bit 0 x7))
    (taken2 (bit 1 x0) (bit 1 x1) (bit 1 x2) (bit 1 x3) (bit 1 x4) (bit 1 x5) (bit 1 x6) (bit 1 x7))
    (taken2 (bit 2 x0) (bit 2 x1) (bit 2 x2) (bit 2 x3) (bit 2 x4) (bit 2 x5) (bit 2 x6) (bit 2 x7))
    (taken2 (bit 3 x0) (bit 3 x1) (bit 3 x2) (bit 3 x3) (bit 3 x4) (bit 3 x5) (bit 3 x6) (bit 3 x7))
    (taken2 (bit 4 x0) (bit 4 x1) (bit 4 x2) (bit 4 x3) (bit 4 x4) (bit 4 x5) (bit 4 x6) (bit 4 x7))
    (taken2 (bit 5 x0) (bit 5 x1) (bit 5 x2) (bit 5 x3) (bit 5 x4) (bit 5 x5) (bit 5 x6) (bit 5 x7))
    (taken2 (bit 6 x0) (bit 6 x1) (bit 6 x2) (bit 6 x3) (bit 6 x4) (bit 6 x5) (bit 6 x6) (bit 6 x7))
    (taken2 (bit 7 x0) (bit 7 x1) (bit 7 x2) (bit 7 x3) (bit 7 x4) (bit 7 x5) (bit 7 x6) (bit 7 x7))
    ∙ again_is x2 lt

pub twice3 : (x0 x1 x2 x3 x4 x5 x6 x7 : ℕ) → x3 < 256 → (let xs = x0 ∷ x1 ∷ x2 ∷ x3 ∷ x4 ∷ x5 ∷ x6 ∷ x7 ∷ [] in
    number (bit 3) (number (bit 0) xs ∷ number (bit 1) xs ∷ number (bit 2) xs ∷ number (bit 3) xs ∷ number (bit 4) xs ∷ number (bit 5) xs ∷ number (bit 6) xs ∷ number (bit 7) xs ∷ [])) ≡ x3
twice3 x0 x1 x2 x3 x4 x5 x6 x7 lt =
    row_same
    (taken3 (bit 0 x0) (bit 0 x1) (bit 0 x2) (bit 0 x3) (bit 0 x4) (bit 0 x5) (bit 0 x6) (bit 0 x7))
    (taken3 (bit 1 x0) (bit 1 x1) (bit 1 x2) (bit 1 x3) (bit 1 x4) (bit 1 x5) (bit 1 x6) (bit 1 x7))
    (taken3 (bit 2 x0) (bit 2 x1) (bit 2 x2) (bit 2 x3) (bit 2 x4) (bit 2 x5) (bit 2 x6) (bit 2 x7))
    (taken3 (bit 3 x0) (bit 3 x1) (bit 3 x2) (bit 3 x3) (bit 3 x4) (bit 3 x5) (bit 3 x6) (bit 3 x7))
    (taken3 (bit 4 x0) (bit 4 x1) (bit 4 x2) (bit 4 x3) (bit 4 x4) (bit 4 x5) (bit 4 x6) (bit 4 x7))
    (taken3 (bit 5 x0) (bit 5 x1) (bit 5 x2) (bit 5 x3) (bit 5 x4) (bit 5 x5) (bit 5 x6) (bit 5 x7))
    (taken3 (bit 6 x0) (bit 6 x1) (bit 6 x2) (bit 6 x3) (bit 6 x4) (bit 6 x5) (bit 6 x6) (bit 6 x7))
    (taken3 (bit 7 x0) (bit 7 x1) (bit 7 x2) (bit 7 x3) (bit 7 x4) (bit 7 x5) (bit 7 x6) (bit 7 x7))
    ∙ again_is x3 lt

pub twice4 : (x0 x1 x2 x3 x4 x5 x6 x7 : ℕ) → x4 < 256 → (let xs = x0 ∷ x1 ∷ x2 ∷ x3 ∷ x4 ∷ x5 ∷ x6 ∷ x7 ∷ [] in
    number (bit 4) (number (bit 0) xs ∷ number (bit 1) xs ∷ number (bit 2) xs ∷ number (bit 3) xs ∷ number (bit 4) xs ∷ number (bit 5) xs ∷ number (bit 6) xs ∷ number (bit 7) xs ∷ [])) ≡ x4
twice4 x0 x1 x2 x3 x4 x5 x6 x7 lt =
    row_same
    (taken4 (bit 0 x0) (bit 0 x1) (bit 0 x2) (bit 0 x3) (bit 0 x4) (bit 0 x5) (bit 0 x6) (bit 0 x7))
    (taken4 (bit 1 x0) (bit 1 x1) (bit 1 x2) (bit 1 x3) (bit 1 x4) (bit 1 x5) (bit 1 x6) (bit 1 x7))
    (taken4 (bit 2 x0) (bit 2 x1) (bit 2 x2) (bit 2 x3) (bit 2 x4) (bit 2 x5) (bit 2 x6) (bit 2 x7))
    (taken4 (bit 3 x0) (bit 3 x1) (bit 3 x2) (bit 3 x3) (bit 3 x4) (bit 3 x5) (bit 3 x6) (bit 3 x7))
    (taken4 (bit 4 x0) (bit 4 x1) (bit 4 x2) (bit 4 x3) (bit 4 x4) (bit 4 x5) (bit 4 x6) (bit 4 x7))
    (taken4 (bit 5 x0) (bit 5 x1) (bit 5 x2) (bit 5 x3) (bit 5 x4) (bit 5 x5) (bit 5 x6) (bit 5 x7))
    (taken4 (bit 6 x0) (bit 6 x1) (bit 6 x2) (bit 6 x3) (bit 6 x4) (bit 6 x5) (bit 6 x6) (bit 6 x7))
    (taken4 (bit 7 x0) (bit 7 x1) (bit 7 x2) (bit 7 x3) (bit 7 x4) (bit 7 x5) (bit 7 x6) (bit 7 x7))
    ∙ again_is x4 lt

pub twice5 : (x0 x1 x2 x3 x4 x5 x6 x7 : ℕ) → x5 < 256 → (let xs = x0 ∷ x1 ∷ x2 ∷ x3 ∷ x4 ∷ x5 ∷ x6 ∷ x7 ∷ [] in
    number (bit 5) (number (bit 0) xs ∷ number (bit 1) xs ∷ number (bit 2) xs ∷ number (bit 3) xs ∷ number (bit 4) xs ∷ number (bit 5) xs ∷ number (bit 6) xs ∷ number (bit 7) xs ∷ [])) ≡ x5
twice5 x0 x1 x2 x3 x4 x5 x6 x7 lt =
    row_same
    (taken5 (bit 0 x0) (bit 0 x1) (bit 0 x2) (bit 0 x3) (bit 0 x4) (bit 0 x5) (bit 0 x6) (bit 0 x7))
    (taken5 (bit 1 x0) (bit 1 x1) (bit 1 x2) (bit 1 x3) (bit 1 x4) (bit 1 x5) (bit 1 x6) (bit 1 x7))
    (taken5 (bit 2 x0) (bit 2 x1) (bit 2 x2) (bit 2 x3) (bit 2 x4) (bit 2 x5) (bit 2 x6) (bit 2 x7))
    (taken5 (bit 3 x0) (bit 3 x1) (bit 3 x2) (bit 3 x3) (bit 3 x4) (bit 3 x5) (bit 3 x6) (bit 3 x7))
    (taken5 (bit 4 x0) (bit 4 x1) (bit 4 x2) (bit 4 x3) (bit 4 x4) (bit 4 x5) (bit 4 x6) (bit 4 x7))
    (taken5 (bit 5 x0) (bit 5 x1) (bit 5 x2) (bit 5 x3) (bit 5 x4) (bit 5 x5) (bit 5 x6) (bit 5 x7))
    (taken5 (bit 6 x0) (bit 6 x1) (bit 6 x2) (bit 6 x3) (bit 6 x4) (bit 6 x5) (bit 6 x6) (bit 6 x7))
    (taken5 (bit 7 x0) (bit 7 x1) (bit 7 x2) (bit 7 x3) (bit 7 x4) (bit 7 x5) (bit 7 x6) (bit 7 x7))
    ∙ again_is x5 lt

pub twice6 : (x0 x1 x2 x3 x4 x5 x6 x7 : ℕ) → x6 < 256 → (let xs = x0 ∷ x1 ∷ x2 ∷ x3 ∷ x4 ∷ x5 ∷ x6 ∷ x7 ∷ [] in
    number (bit 6) (number (bit 0) xs ∷ number (bit 1) xs ∷ number (bit 2) xs ∷ number (bit 3) xs ∷ number (bit 4) xs ∷ number (bit 5) xs ∷ number (bit 6) xs ∷ number (bit 7) xs ∷ [])) ≡ x6
twice6 x0 x1 x2 x3 x4 x5 x6 x7 lt =
    row_same
    (taken6 (bit 0 x0) (bit 0 x1) (bit 0 x2) (bit 0 x3) (bit 0 x4) (bit 0 x5) (bit 0 x6) (bit 0 x7))
    (taken6 (bit 1 x0) (bit 1 x1) (bit 1 x2) (bit 1 x3) (bit 1 x4) (bit 1 x5) (bit 1 x6) (bit 1 x7))
    (taken6 (bit 2 x0) (bit 2 x1) (bit 2 x2) (bit 2 x3) (bit 2 x4) (bit 2 x5) (bit 2 x6) (bit 2 x7))
    (taken6 (bit 3 x0) (bit 3 x1) (bit 3 x2) (bit 3 x3) (bit 3 x4) (bit 3 x5) (bit 3 x6) (bit 3 x7))
    (taken6 (bit 4 x0) (bit 4 x1) (bit 4 x2) (bit 4 x3) (bit 4 x4) (bit 4 x5) (bit 4 x6) (bit 4 x7))
    (taken6 (bit 5 x0) (bit 5 x1) (bit 5 x2) (bit 5 x3) (bit 5 x4) (bit 5 x5) (bit 5 x6) (bit 5 x7))
    (taken6 (bit 6 x0) (bit 6 x1) (bit 6 x2) (bit 6 x3) (bit 6 x4) (bit 6 x5) (bit 6 x6) (bit 6 x7))
    (taken6 (bit 7 x0) (bit 7 x1) (bit 7 x2) (bit 7 x3) (bit 7 x4) (bit 7 x5) (bit 7 x6) (bit 7 x7))
    ∙ again_is x6 lt

pub twice7 : (x0 x1 x2 x3 x4 x5 x6 x7 : ℕ) → x7 < 256 → (let xs = x0 ∷ x1 ∷ x2 ∷ x3 ∷ x4 ∷ x5 ∷ x6 ∷ x7 ∷ [] in
    number (bit 7) (number (bit 0) xs ∷ number (bit 1) xs ∷ number (bit 2) xs ∷ number (bit 3) xs ∷ number (bit 4) xs ∷ number (bit 5) xs ∷ number (bit 6) xs ∷ number (bit 7) xs ∷ [])) ≡ x7
twice7 x0 x1 x2 x3 x4 x5 x6 x7 lt =
    row_same
    (taken7 (bit 0 x0) (bit 0 x1) (bit 0 x2) (bit 0 x3) (bit 0 x4) (bit 0 x5) (bit 0 x6) (bit 0 x7))
    (taken7 (bit 1 x0) (bit 1 x1) (bit 1 x2) (bit 1 x3) (bit 1 x4) (bit 1 x5) (bit 1 x6) (bit 1 x7))
    (taken7 (bit 2 x0) (bit 2 x1) (bit 2 x2) (bit 2 x3) (bit 2 x4) (bit 2 x5) (bit 2 x6) (bit 2 x7))
    (taken7 (bit 3 x0) (bit 3 x1) (bit 3 x2) (bit 3 x3) (bit 3 x4) (bit 3 x5) (bit 3 x6) (bit 3 x7))
    (taken7 (bit 4 x0) (bit 4 x1) (bit 4 x2) (bit 4 x3) (bit 4 x4) (bit 4 x5) (bit 4 x6) (bit 4 x7))
    (taken7 (bit 5 x0) (bit 5 x1) (bit 5 x2) (bit 5 x3) (bit 5 x4) (bit 5 x5) (bit 5 x6) (bit 5 x7))
    (taken7 (bit 6 x0) (bit 6 x1) (bit 6 x2) (bit 6 x3) (bit 6 x4) (bit 6 x5) (bit 6 x6) (bit 6 x7))
    (taken7 (bit 7 x0) (bit 7 x1) (bit 7 x2) (bit 7 x3) (bit 7 x4) (bit 7 x5) (bit 7 x6) (bit 7 x7))
    ∙ again_is x7 lt

-- ---- sums of bits

min_sum : (p q r : ℕ) → p < 2 → q < 2 → r < 2 → min ((p + q) % 2) r ≡ (min p r + min q r) % 2
min_sum p q r a b c = omega arith

and-xor : (a b m : ℕ) → bit_and (bit_xor a b) m ≡ bit_xor (bit_and a m) (bit_and b m)
and-xor a b m = same_from_bits _ _ (λ i.
    bit_at_and (bit_xor a b) m i ∙ ap (λ (q : ℕ). min q (bit_at m i)) (bit_at_xor a b i)
    ∙ min_sum (bit_at a i) (bit_at b i) (bit_at m i) (bit_at-lt a i) (bit_at-lt b i) (bit_at-lt m i)
    ∙ sym (bit_at_xor (bit_and a m) (bit_and b m) i ∙ ap (λ (q : ℕ). (q + bit_at (bit_and b m) i) % 2) (bit_at_and a m i)
    ∙ ap (λ (q : ℕ). (min (bit_at a i) (bit_at m i) + q) % 2) (bit_at_and b m i)))

pub shl-xor : (k a b : ℕ) → bit_xor a b * 2 ^ k % 256 ≡ bit_xor (a * 2 ^ k % 256) (b * 2 ^ k % 256)
shl-xor k a b =
    let l : a * 2 ^ k + 0 ≡ a * 2 ^ k = omega arith in
    let r : b * 2 ^ k + 0 ≡ b * 2 ^ k = omega arith in
    let n : 0 < 2 ^ k = search rules in
    let s : bit_xor (a * 2 ^ k + 0) (b * 2 ^ k + 0) ≡ bit_xor a b * 2 ^ k + 0 = xor_block k a b 0 0 n n in
    let t : bit_xor a b * 2 ^ k ≡ bit_xor (a * 2 ^ k) (b * 2 ^ k) = omega (arith, rw (l, r) at s) in
    ap (λ (q : ℕ). q % 256) t ∙ xor_mod (a * 2 ^ k) (b * 2 ^ k) 8

abbrev IsSum : (ℕ → ℕ) → Type 0
IsSum p = (a b : ℕ) → p (bit_xor a b) ≡ bit_xor (p a) (p b)

-- the parts of a lower and of an upper byte
abbrev lower_of : ℕ → ℕ → ℕ → ℕ
lower_of by mask a = bit_and a mask

abbrev lower_with : ℕ → ℕ → ℕ → ℕ
lower_with by mask b = bit_and (b * 2 ^ by % 256) (255 - mask)

abbrev upper_of : ℕ → ℕ → ℕ → ℕ
upper_of by mask a = bit_and (a / 2 ^ by) mask

abbrev upper_with : ℕ → ℕ → ℕ → ℕ
upper_with by mask b = bit_and b (255 - mask)

lower_of-sum : (by mask : ℕ) → IsSum (lower_of by mask)
lower_of-sum by mask a b = and-xor a b mask

lower_with-sum : (by mask : ℕ) → IsSum (lower_with by mask)
lower_with-sum by mask a b = ap (λ (q : ℕ). bit_and q (255 - mask)) (shl-xor by a b) ∙ and-xor (a * 2 ^ by % 256) (b * 2 ^ by % 256) (255 - mask)

upper_of-sum : (by mask : ℕ) → IsSum (upper_of by mask)
upper_of-sum by mask a b = ap (λ (q : ℕ). bit_and q mask) (xor_shr a b by) ∙ and-xor (a / 2 ^ by) (b / 2 ^ by) mask

upper_with-sum : (by mask : ℕ) → IsSum (upper_with by mask)
upper_with-sum by mask a b = and-xor a b (255 - mask)

-- what comes of each byte alone
spread : (p q s t : ℕ → ℕ) → IsSum p → IsSum q → IsSum s → IsSum t → (a0 a1 a2 a3 a4 a5 a6 a7 : ℕ)
    → bit_xor (s (bit_xor (p (bit_xor a0 a1)) (q (bit_xor a2 a3)))) (t (bit_xor (p (bit_xor a4 a5)) (q (bit_xor a6 a7))))
    ≡ bit_xor (bit_xor (bit_xor (s (p a0)) (s (p a1))) (bit_xor (s (q a2)) (s (q a3)))) (bit_xor (bit_xor (t (p a4)) (t (p a5))) (bit_xor (t (q a6)) (t (q a7))))
spread p q s t hp hq hs ht a0 a1 a2 a3 a4 a5 a6 a7 =
    rw (
      hp a0 a1,
      hq a2 a3,
      hp a4 a5,
      hq a6 a7,
      hs (bit_xor (p a0) (p a1)) (bit_xor (q a2) (q a3)),
      ht (bit_xor (p a4) (p a5)) (bit_xor (q a6) (q a7)),
      hs (p a0) (p a1),
      hs (q a2) (q a3),
      ht (p a4) (p a5),
      ht (q a6) (q a7),
    ) refl

beside : (k r a : ℕ) → r < 2 ^ k → bit_xor r (a * 2 ^ k) ≡ a * 2 ^ k + r
beside k r a h =
    let l : 0 * 2 ^ k + r ≡ r = omega arith in
    let m : a * 2 ^ k + 0 ≡ a * 2 ^ k = omega arith in
    let n : 0 < 2 ^ k = omega arith in
    let e : bit_xor (0 * 2 ^ k + r) (a * 2 ^ k + 0) ≡ bit_xor 0 a * 2 ^ k + bit_xor r 0 = xor_block k 0 a r 0 h n in
    let z : bit_xor 0 a ≡ a = xor_comm 0 a ∙ xor_zero_r a in
    rw (l, m, z, xor_zero_r r) at e

beside_all : (c0 c1 c2 c3 c4 c5 c6 c7 : ℕ) → c0 < 2 → c1 < 2 → c2 < 2 → c3 < 2 → c4 < 2 → c5 < 2 → c6 < 2 → c7 < 2
    → bit_xor (bit_xor (bit_xor (c0 * 1) (c1 * 2)) (bit_xor (c2 * 4) (c3 * 8))) (bit_xor (bit_xor (c4 * 16) (c5 * 32)) (bit_xor (c6 * 64) (c7 * 128)))
    ≡ row c0 c1 c2 c3 c4 c5 c6 c7
beside_all c0 c1 c2 c3 c4 c5 c6 c7 l0 l1 l2 l3 l4 l5 l6 l7 =
    let a : bit_xor (c0 * 1) (c1 * 2) ≡ c1 * 2 + c0 * 1 = beside 1 (c0 * 1) c1 (omega arith) in
    let b : bit_xor (c2 * 4) (c3 * 8) ≡ c3 * 8 + c2 * 4 = beside 3 (c2 * 4) c3 (omega arith) in
    let c : bit_xor (c4 * 16) (c5 * 32) ≡ c5 * 32 + c4 * 16 = beside 5 (c4 * 16) c5 (omega arith) in
    let d : bit_xor (c6 * 64) (c7 * 128) ≡ c7 * 128 + c6 * 64 = beside 7 (c6 * 64) c7 (omega arith) in
    let b4 : c3 * 8 + c2 * 4 ≡ (c3 * 2 + c2) * 4 = omega arith in
    let d4 : c7 * 128 + c6 * 64 ≡ (c7 * 2 + c6) * 64 = omega arith in
    let e : bit_xor (c1 * 2 + c0 * 1) ((c3 * 2 + c2) * 4) ≡ (c3 * 2 + c2) * 4 + (c1 * 2 + c0 * 1) = beside 2 (c1 * 2 + c0 * 1) (c3 * 2 + c2) (omega arith) in
    let f : bit_xor (c5 * 32 + c4 * 16) ((c7 * 2 + c6) * 64) ≡ (c7 * 2 + c6) * 64 + (c5 * 32 + c4 * 16) = beside 6 (c5 * 32 + c4 * 16) (c7 * 2 + c6) (omega arith) in
    let f16 : (c7 * 2 + c6) * 64 + (c5 * 32 + c4 * 16) ≡ (c7 * 8 + c6 * 4 + c5 * 2 + c4) * 16 = omega arith in
    let g : bit_xor ((c3 * 2 + c2) * 4 + (c1 * 2 + c0 * 1)) ((c7 * 8 + c6 * 4 + c5 * 2 + c4) * 16) ≡ (c7 * 8 + c6 * 4 + c5 * 2 + c4) * 16 + ((c3 * 2 + c2) * 4 + (c1 * 2 + c0 * 1)) =
    beside 4 ((c3 * 2 + c2) * 4 + (c1 * 2 + c0 * 1)) (c7 * 8 + c6 * 4 + c5 * 2 + c4) (omega arith) in
    rw (a, b, c, d, b4, d4, e, f, f16, g) (omega arith)

alone00 : all_below (agrees (λ x. lower_of 4 0x0f (lower_of 2 0x33 (lower_of 1 0x55 x))) (λ x. bit 0 x * 1)) 256 ≡ true
unfolding all_below
alone00 = refl

alone01 : all_below (agrees (λ x. lower_of 4 0x0f (lower_of 2 0x33 (lower_with 1 0x55 x))) (λ x. bit 0 x * 2)) 256 ≡ true
unfolding all_below
alone01 = refl

alone02 : all_below (agrees (λ x. lower_of 4 0x0f (lower_with 2 0x33 (lower_of 1 0x55 x))) (λ x. bit 0 x * 4)) 256 ≡ true
unfolding all_below
alone02 = refl

alone03 : all_below (agrees (λ x. lower_of 4 0x0f (lower_with 2 0x33 (lower_with 1 0x55 x))) (λ x. bit 0 x * 8)) 256 ≡ true
unfolding all_below
alone03 = refl

alone04 : all_below (agrees (λ x. lower_with 4 0x0f (lower_of 2 0x33 (lower_of 1 0x55 x))) (λ x. bit 0 x * 16)) 256 ≡ true
unfolding all_below
alone04 = refl

alone05 : all_below (agrees (λ x. lower_with 4 0x0f (lower_of 2 0x33 (lower_with 1 0x55 x))) (λ x. bit 0 x * 32)) 256 ≡ true
unfolding all_below
alone05 = refl

alone06 : all_below (agrees (λ x. lower_with 4 0x0f (lower_with 2 0x33 (lower_of 1 0x55 x))) (λ x. bit 0 x * 64)) 256 ≡ true
unfolding all_below
alone06 = refl

alone07 : all_below (agrees (λ x. lower_with 4 0x0f (lower_with 2 0x33 (lower_with 1 0x55 x))) (λ x. bit 0 x * 128)) 256 ≡ true
unfolding all_below
alone07 = refl

pub placed0 : (x0 x1 x2 x3 x4 x5 x6 x7 : ℕ) → x0 < 256 → x1 < 256 → x2 < 256 → x3 < 256 → x4 < 256 → x5 < 256 → x6 < 256 → x7 < 256
    → low_kept 4 0x0f (low_kept 2 0x33 (low_kept 1 0x55 x0 x1) (low_kept 1 0x55 x2 x3)) (low_kept 2 0x33 (low_kept 1 0x55 x4 x5) (low_kept 1 0x55 x6 x7))
    ≡ number (bit 0) (x0 ∷ x1 ∷ x2 ∷ x3 ∷ x4 ∷ x5 ∷ x6 ∷ x7 ∷ [])
placed0 x0 x1 x2 x3 x4 x5 x6 x7 l0 l1 l2 l3 l4 l5 l6 l7 =
    spread (lower_of 2 0x33) (lower_with 2 0x33) (lower_of 4 0x0f) (lower_with 4 0x0f) (lower_of-sum 2 0x33) (lower_with-sum 2 0x33) (lower_of-sum 4 0x0f) (lower_with-sum 4 0x0f)
    (lower_of 1 0x55 x0) (lower_with 1 0x55 x1) (lower_of 1 0x55 x2) (lower_with 1 0x55 x3) (lower_of 1 0x55 x4) (lower_with 1 0x55 x5) (lower_of 1 0x55 x6) (lower_with 1 0x55 x7)
    ∙ rw (
      at_byte _ (λ x. bit 0 x * 1) alone00 x0 l0,
      at_byte _ (λ x. bit 0 x * 2) alone01 x1 l1,
      at_byte _ (λ x. bit 0 x * 4) alone02 x2 l2,
      at_byte _ (λ x. bit 0 x * 8) alone03 x3 l3,
      at_byte _ (λ x. bit 0 x * 16) alone04 x4 l4,
      at_byte _ (λ x. bit 0 x * 32) alone05 x5 l5,
      at_byte _ (λ x. bit 0 x * 64) alone06 x6 l6,
      at_byte _ (λ x. bit 0 x * 128) alone07 x7 l7,
    ) (beside_all (bit 0 x0) (bit 0 x1) (bit 0 x2) (bit 0 x3) (bit 0 x4) (bit 0 x5) (bit 0 x6) (bit 0 x7) (bit_at-lt x0 0) (bit_at-lt x1 0) (bit_at-lt x2 0) (bit_at-lt x3 0) (bit_at-lt x4 0) (bit_at-lt x5 0) (bit_at-lt x6 0) (bit_at-lt x7 0))

alone10 : all_below (agrees (λ x. lower_of 4 0x0f (lower_of 2 0x33 (upper_of 1 0x55 x))) (λ x. bit 1 x * 1)) 256 ≡ true
unfolding all_below
alone10 = refl

alone11 : all_below (agrees (λ x. lower_of 4 0x0f (lower_of 2 0x33 (upper_with 1 0x55 x))) (λ x. bit 1 x * 2)) 256 ≡ true
unfolding all_below
alone11 = refl

alone12 : all_below (agrees (λ x. lower_of 4 0x0f (lower_with 2 0x33 (upper_of 1 0x55 x))) (λ x. bit 1 x * 4)) 256 ≡ true
unfolding all_below
alone12 = refl

alone13 : all_below (agrees (λ x. lower_of 4 0x0f (lower_with 2 0x33 (upper_with 1 0x55 x))) (λ x. bit 1 x * 8)) 256 ≡ true
unfolding all_below
alone13 = refl

alone14 : all_below (agrees (λ x. lower_with 4 0x0f (lower_of 2 0x33 (upper_of 1 0x55 x))) (λ x. bit 1 x * 16)) 256 ≡ true
unfolding all_below
alone14 = refl

alone15 : all_below (agrees (λ x. lower_with 4 0x0f (lower_of 2 0x33 (upper_with 1 0x55 x))) (λ x. bit 1 x * 32)) 256 ≡ true
unfolding all_below
alone15 = refl

alone16 : all_below (agrees (λ x. lower_with 4 0x0f (lower_with 2 0x33 (upper_of 1 0x55 x))) (λ x. bit 1 x * 64)) 256 ≡ true
unfolding all_below
alone16 = refl

alone17 : all_below (agrees (λ x. lower_with 4 0x0f (lower_with 2 0x33 (upper_with 1 0x55 x))) (λ x. bit 1 x * 128)) 256 ≡ true
unfolding all_below
alone17 = refl

pub placed1 : (x0 x1 x2 x3 x4 x5 x6 x7 : ℕ) → x0 < 256 → x1 < 256 → x2 < 256 → x3 < 256 → x4 < 256 → x5 < 256 → x6 < 256 → x7 < 256
    → low_kept 4 0x0f (low_kept 2 0x33 (high_kept 1 0x55 x0 x1) (high_kept 1 0x55 x2 x3)) (low_kept 2 0x33 (high_kept 1 0x55 x4 x5) (high_kept 1 0x55 x6 x7))
    ≡ number (bit 1) (x0 ∷ x1 ∷ x2 ∷ x3 ∷ x4 ∷ x5 ∷ x6 ∷ x7 ∷ [])
placed1 x0 x1 x2 x3 x4 x5 x6 x7 l0 l1 l2 l3 l4 l5 l6 l7 =
    spread (lower_of 2 0x33) (lower_with 2 0x33) (lower_of 4 0x0f) (lower_with 4 0x0f) (lower_of-sum 2 0x33) (lower_with-sum 2 0x33) (lower_of-sum 4 0x0f) (lower_with-sum 4 0x0f)
    (upper_of 1 0x55 x0) (upper_with 1 0x55 x1) (upper_of 1 0x55 x2) (upper_with 1 0x55 x3) (upper_of 1 0x55 x4) (upper_with 1 0x55 x5) (upper_of 1 0x55 x6) (upper_with 1 0x55 x7)
    ∙ rw (
      at_byte _ (λ x. bit 1 x * 1) alone10 x0 l0,
      at_byte _ (λ x. bit 1 x * 2) alone11 x1 l1,
      at_byte _ (λ x. bit 1 x * 4) alone12 x2 l2,
      at_byte _ (λ x. bit 1 x * 8) alone13 x3 l3,
      at_byte _ (λ x. bit 1 x * 16) alone14 x4 l4,
      at_byte _ (λ x. bit 1 x * 32) alone15 x5 l5,
      at_byte _ (λ x. bit 1 x * 64) alone16 x6 l6,
      at_byte _ (λ x. bit 1 x * 128) alone17 x7 l7,
    ) (beside_all (bit 1 x0) (bit 1 x1) (bit 1 x2) (bit 1 x3) (bit 1 x4) (bit 1 x5) (bit 1 x6) (bit 1 x7) (bit_at-lt x0 1) (bit_at-lt x1 1) (bit_at-lt x2 1) (bit_at-lt x3 1) (bit_at-lt x4 1) (bit_at-lt x5 1) (bit_at-lt x6 1) (bit_at-lt x7 1))

alone20 : all_below (agrees (λ x. lower_of 4 0x0f (upper_of 2 0x33 (lower_of 1 0x55 x))) (λ x. bit 2 x * 1)) 256 ≡ true
unfolding all_below
alone20 = refl

alone21 : all_below (agrees (λ x. lower_of 4 0x0f (upper_of 2 0x33 (lower_with 1 0x55 x))) (λ x. bit 2 x * 2)) 256 ≡ true
unfolding all_below
alone21 = refl

alone22 : all_below (agrees (λ x. lower_of 4 0x0f (upper_with 2 0x33 (lower_of 1 0x55 x))) (λ x. bit 2 x * 4)) 256 ≡ true
unfolding all_below
alone22 = refl

alone23 : all_below (agrees (λ x. lower_of 4 0x0f (upper_with 2 0x33 (lower_with 1 0x55 x))) (λ x. bit 2 x * 8)) 256 ≡ true
unfolding all_below
alone23 = refl

alone24 : all_below (agrees (λ x. lower_with 4 0x0f (upper_of 2 0x33 (lower_of 1 0x55 x))) (λ x. bit 2 x * 16)) 256 ≡ true
unfolding all_below
alone24 = refl

alone25 : all_below (agrees (λ x. lower_with 4 0x0f (upper_of 2 0x33 (lower_with 1 0x55 x))) (λ x. bit 2 x * 32)) 256 ≡ true
unfolding all_below
alone25 = refl

alone26 : all_below (agrees (λ x. lower_with 4 0x0f (upper_with 2 0x33 (lower_of 1 0x55 x))) (λ x. bit 2 x * 64)) 256 ≡ true
unfolding all_below
alone26 = refl

alone27 : all_below (agrees (λ x. lower_with 4 0x0f (upper_with 2 0x33 (lower_with 1 0x55 x))) (λ x. bit 2 x * 128)) 256 ≡ true
unfolding all_below
alone27 = refl

pub placed2 : (x0 x1 x2 x3 x4 x5 x6 x7 : ℕ) → x0 < 256 → x1 < 256 → x2 < 256 → x3 < 256 → x4 < 256 → x5 < 256 → x6 < 256 → x7 < 256
    → low_kept 4 0x0f (high_kept 2 0x33 (low_kept 1 0x55 x0 x1) (low_kept 1 0x55 x2 x3)) (high_kept 2 0x33 (low_kept 1 0x55 x4 x5) (low_kept 1 0x55 x6 x7))
    ≡ number (bit 2) (x0 ∷ x1 ∷ x2 ∷ x3 ∷ x4 ∷ x5 ∷ x6 ∷ x7 ∷ [])
placed2 x0 x1 x2 x3 x4 x5 x6 x7 l0 l1 l2 l3 l4 l5 l6 l7 =
    spread (upper_of 2 0x33) (upper_with 2 0x33) (lower_of 4 0x0f) (lower_with 4 0x0f) (upper_of-sum 2 0x33) (upper_with-sum 2 0x33) (lower_of-sum 4 0x0f) (lower_with-sum 4 0x0f)
    (lower_of 1 0x55 x0) (lower_with 1 0x55 x1) (lower_of 1 0x55 x2) (lower_with 1 0x55 x3) (lower_of 1 0x55 x4) (lower_with 1 0x55 x5) (lower_of 1 0x55 x6) (lower_with 1 0x55 x7)
    ∙ rw (
      at_byte _ (λ x. bit 2 x * 1) alone20 x0 l0,
      at_byte _ (λ x. bit 2 x * 2) alone21 x1 l1,
      at_byte _ (λ x. bit 2 x * 4) alone22 x2 l2,
      at_byte _ (λ x. bit 2 x * 8) alone23 x3 l3,
      at_byte _ (λ x. bit 2 x * 16) alone24 x4 l4,
      at_byte _ (λ x. bit 2 x * 32) alone25 x5 l5,
      at_byte _ (λ x. bit 2 x * 64) alone26 x6 l6,
      at_byte _ (λ x. bit 2 x * 128) alone27 x7 l7,
    ) (beside_all (bit 2 x0) (bit 2 x1) (bit 2 x2) (bit 2 x3) (bit 2 x4) (bit 2 x5) (bit 2 x6) (bit 2 x7) (bit_at-lt x0 2) (bit_at-lt x1 2) (bit_at-lt x2 2) (bit_at-lt x3 2) (bit_at-lt x4 2) (bit_at-lt x5 2) (bit_at-lt x6 2) (bit_at-lt x7 2))

alone30 : all_below (agrees (λ x. lower_of 4 0x0f (upper_of 2 0x33 (upper_of 1 0x55 x))) (λ x. bit 3 x * 1)) 256 ≡ true
unfolding all_below
alone30 = refl

alone31 : all_below (agrees (λ x. lower_of 4 0x0f (upper_of 2 0x33 (upper_with 1 0x55 x))) (λ x. bit 3 x * 2)) 256 ≡ true
unfolding all_below
alone31 = refl

alone32 : all_below (agrees (λ x. lower_of 4 0x0f (upper_with 2 0x33 (upper_of 1 0x55 x))) (λ x. bit 3 x * 4)) 256 ≡ true
unfolding all_below
alone32 = refl

alone33 : all_below (agrees (λ x. lower_of 4 0x0f (upper_with 2 0x33 (upper_with 1 0x55 x))) (λ x. bit 3 x * 8)) 256 ≡ true
unfolding all_below
alone33 = refl

alone34 : all_below (agrees (λ x. lower_with 4 0x0f (upper_of 2 0x33 (upper_of 1 0x55 x))) (λ x. bit 3 x * 16)) 256 ≡ true
unfolding all_below
alone34 = refl

alone35 : all_below (agrees (λ x. lower_with 4 0x0f (upper_of 2 0x33 (upper_with 1 0x55 x))) (λ x. bit 3 x * 32)) 256 ≡ true
unfolding all_below
alone35 = refl

alone36 : all_below (agrees (λ x. lower_with 4 0x0f (upper_with 2 0x33 (upper_of 1 0x55 x))) (λ x. bit 3 x * 64)) 256 ≡ true
unfolding all_below
alone36 = refl

alone37 : all_below (agrees (λ x. lower_with 4 0x0f (upper_with 2 0x33 (upper_with 1 0x55 x))) (λ x. bit 3 x * 128)) 256 ≡ true
unfolding all_below
alone37 = refl

pub placed3 : (x0 x1 x2 x3 x4 x5 x6 x7 : ℕ) → x0 < 256 → x1 < 256 → x2 < 256 → x3 < 256 → x4 < 256 → x5 < 256 → x6 < 256 → x7 < 256
    → low_kept 4 0x0f (high_kept 2 0x33 (high_kept 1 0x55 x0 x1) (high_kept 1 0x55 x2 x3)) (high_kept 2 0x33 (high_kept 1 0x55 x4 x5) (high_kept 1 0x55 x6 x7))
    ≡ number (bit 3) (x0 ∷ x1 ∷ x2 ∷ x3 ∷ x4 ∷ x5 ∷ x6 ∷ x7 ∷ [])
placed3 x0 x1 x2 x3 x4 x5 x6 x7 l0 l1 l2 l3 l4 l5 l6 l7 =
    spread (upper_of 2 0x33) (upper_with 2 0x33) (lower_of 4 0x0f) (lower_with 4 0x0f) (upper_of-sum 2 0x33) (upper_with-sum 2 0x33) (lower_of-sum 4 0x0f) (lower_with-sum 4 0x0f)
    (upper_of 1 0x55 x0) (upper_with 1 0x55 x1) (upper_of 1 0x55 x2) (upper_with 1 0x55 x3) (upper_of 1 0x55 x4) (upper_with 1 0x55 x5) (upper_of 1 0x55 x6) (upper_with 1 0x55 x7)
    ∙ rw (
      at_byte _ (λ x. bit 3 x * 1) alone30 x0 l0,
      at_byte _ (λ x. bit 3 x * 2) alone31 x1 l1,
      at_byte _ (λ x. bit 3 x * 4) alone32 x2 l2,
      at_byte _ (λ x. bit 3 x * 8) alone33 x3 l3,
      at_byte _ (λ x. bit 3 x * 16) alone34 x4 l4,
      at_byte _ (λ x. bit 3 x * 32) alone35 x5 l5,
      at_byte _ (λ x. bit 3 x * 64) alone36 x6 l6,
      at_byte _ (λ x. bit 3 x * 128) alone37 x7 l7,
    ) (beside_all (bit 3 x0) (bit 3 x1) (bit 3 x2) (bit 3 x3) (bit 3 x4) (bit 3 x5) (bit 3 x6) (bit 3 x7) (bit_at-lt x0 3) (bit_at-lt x1 3) (bit_at-lt x2 3) (bit_at-lt x3 3) (bit_at-lt x4 3) (bit_at-lt x5 3) (bit_at-lt x6 3) (bit_at-lt x7 3))

alone40 : all_below (agrees (λ x. upper_of 4 0x0f (lower_of 2 0x33 (lower_of 1 0x55 x))) (λ x. bit 4 x * 1)) 256 ≡ true
unfolding all_below
alone40 = refl

alone41 : all_below (agrees (λ x. upper_of 4 0x0f (lower_of 2 0x33 (lower_with 1 0x55 x))) (λ x. bit 4 x * 2)) 256 ≡ true
unfolding all_below
alone41 = refl

alone42 : all_below (agrees (λ x. upper_of 4 0x0f (lower_with 2 0x33 (lower_of 1 0x55 x))) (λ x. bit 4 x * 4)) 256 ≡ true
unfolding all_below
alone42 = refl

alone43 : all_below (agrees (λ x. upper_of 4 0x0f (lower_with 2 0x33 (lower_with 1 0x55 x))) (λ x. bit 4 x * 8)) 256 ≡ true
unfolding all_below
alone43 = refl

alone44 : all_below (agrees (λ x. upper_with 4 0x0f (lower_of 2 0x33 (lower_of 1 0x55 x))) (λ x. bit 4 x * 16)) 256 ≡ true
unfolding all_below
alone44 = refl

alone45 : all_below (agrees (λ x. upper_with 4 0x0f (lower_of 2 0x33 (lower_with 1 0x55 x))) (λ x. bit 4 x * 32)) 256 ≡ true
unfolding all_below
alone45 = refl

alone46 : all_below (agrees (λ x. upper_with 4 0x0f (lower_with 2 0x33 (lower_of 1 0x55 x))) (λ x. bit 4 x * 64)) 256 ≡ true
unfolding all_below
alone46 = refl

alone47 : all_below (agrees (λ x. upper_with 4 0x0f (lower_with 2 0x33 (lower_with 1 0x55 x))) (λ x. bit 4 x * 128)) 256 ≡ true
unfolding all_below
alone47 = refl

pub placed4 : (x0 x1 x2 x3 x4 x5 x6 x7 : ℕ) → x0 < 256 → x1 < 256 → x2 < 256 → x3 < 256 → x4 < 256 → x5 < 256 → x6 < 256 → x7 < 256
    → high_kept 4 0x0f (low_kept 2 0x33 (low_kept 1 0x55 x0 x1) (low_kept 1 0x55 x2 x3)) (low_kept 2 0x33 (low_kept 1 0x55 x4 x5) (low_kept 1 0x55 x6 x7))
    ≡ number (bit 4) (x0 ∷ x1 ∷ x2 ∷ x3 ∷ x4 ∷ x5 ∷ x6 ∷ x7 ∷ [])
placed4 x0 x1 x2 x3 x4 x5 x6 x7 l0 l1 l2 l3 l4 l5 l6 l7 =
    spread (lower_of 2 0x33) (lower_with 2 0x33) (upper_of 4 0x0f) (upper_with 4 0x0f) (lower_of-sum 2 0x33) (lower_with-sum 2 0x33) (upper_of-sum 4 0x0f) (upper_with-sum 4 0x0f)
    (lower_of 1 0x55 x0) (lower_with 1 0x55 x1) (lower_of 1 0x55 x2) (lower_with 1 0x55 x3) (lower_of 1 0x55 x4) (lower_with 1 0x55 x5) (lower_of 1 0x55 x6) (lower_with 1 0x55 x7)
    ∙ rw (
      at_byte _ (λ x. bit 4 x * 1) alone40 x0 l0,
      at_byte _ (λ x. bit 4 x * 2) alone41 x1 l1,
      at_byte _ (λ x. bit 4 x * 4) alone42 x2 l2,
      at_byte _ (λ x. bit 4 x * 8) alone43 x3 l3,
      at_byte _ (λ x. bit 4 x * 16) alone44 x4 l4,
      at_byte _ (λ x. bit 4 x * 32) alone45 x5 l5,
      at_byte _ (λ x. bit 4 x * 64) alone46 x6 l6,
      at_byte _ (λ x. bit 4 x * 128) alone47 x7 l7,
    ) (beside_all (bit 4 x0) (bit 4 x1) (bit 4 x2) (bit 4 x3) (bit 4 x4) (bit 4 x5) (bit 4 x6) (bit 4 x7) (bit_at-lt x0 4) (bit_at-lt x1 4) (bit_at-lt x2 4) (bit_at-lt x3 4) (bit_at-lt x4 4) (bit_at-lt x5 4) (bit_at-lt x6 4) (bit_at-lt x7 4))

alone50 : all_below (agrees (λ x. upper_of 4 0x0f (lower_of 2 0x33 (upper_of 1 0x55 x))) (λ x. bit 5 x * 1)) 256 ≡ true
unfolding all_below
alone50 = refl

alone51 : all_below (agrees (λ x. upper_of 4 0x0f (lower_of 2 0x33 (upper_with 1 0x55 x))) (λ x. bit 5 x * 2)) 256 ≡ true
unfolding all_below
alone51 = refl

alone52 : all_below (agrees (λ x. upper_of 4 0x0f (lower_with 2 0x33 (upper_of 1 0x55 x))) (λ x. bit 5 x * 4)) 256 ≡ true
unfolding all_below
alone52 = refl

alone53 : all_below (agrees (λ x. upper_of 4 0x0f (lower_with 2 0x33 (upper_with 1 0x55 x))) (λ x. bit 5 x * 8)) 256 ≡ true
unfolding all_below
alone53 = refl

alone54 : all_below (agrees (λ x. upper_with 4 0x0f (lower_of 2 0x33 (upper_of 1 0x55 x))) (λ x. bit 5 x * 16)) 256 ≡ true
unfolding all_below
alone54 = refl

alone55 : all_below (agrees (λ x. upper_with 4 0x0f (lower_of 2 0x33 (upper_with 1 0x55 x))) (λ x. bit 5 x * 32)) 256 ≡ true
unfolding all_below
alone55 = refl

alone56 : all_below (agrees (λ x. upper_with 4 0x0f (lower_with 2 0x33 (upper_of 1 0x55 x))) (λ x. bit 5 x * 64)) 256 ≡ true
unfolding all_below
alone56 = refl

alone57 : all_below (agrees (λ x. upper_with 4 0x0f (lower_with 2 0x33 (upper_with 1 0x55 x))) (λ x. bit 5 x * 128)) 256 ≡ true
unfolding all_below
alone57 = refl

pub placed5 : (x0 x1 x2 x3 x4 x5 x6 x7 : ℕ) → x0 < 256 → x1 < 256 → x2 < 256 → x3 < 256 → x4 < 256 → x5 < 256 → x6 < 256 → x7 < 256
    → high_kept 4 0x0f (low_kept 2 0x33 (high_kept 1 0x55 x0 x1) (high_kept 1 0x55 x2 x3)) (low_kept 2 0x33 (high_kept 1 0x55 x4 x5) (high_kept 1 0x55 x6 x7))
    ≡ number (bit 5) (x0 ∷ x1 ∷ x2 ∷ x3 ∷ x4 ∷ x5 ∷ x6 ∷ x7 ∷ [])
placed5 x0 x1 x2 x3 x4 x5 x6 x7 l0 l1 l2 l3 l4 l5 l6 l7 =
    spread (lower_of 2 0x33) (lower_with 2 0x33) (upper_of 4 0x0f) (upper_with 4 0x0f) (lower_of-sum 2 0x33) (lower_with-sum 2 0x33) (upper_of-sum 4 0x0f) (upper_with-sum 4 0x0f)
    (upper_of 1 0x55 x0) (upper_with 1 0x55 x1) (upper_of 1 0x55 x2) (upper_with 1 0x55 x3) (upper_of 1 0x55 x4) (upper_with 1 0x55 x5) (upper_of 1 0x55 x6) (upper_with 1 0x55 x7)
    ∙ rw (
      at_byte _ (λ x. bit 5 x * 1) alone50 x0 l0,
      at_byte _ (λ x. bit 5 x * 2) alone51 x1 l1,
      at_byte _ (λ x. bit 5 x * 4) alone52 x2 l2,
      at_byte _ (λ x. bit 5 x * 8) alone53 x3 l3,
      at_byte _ (λ x. bit 5 x * 16) alone54 x4 l4,
      at_byte _ (λ x. bit 5 x * 32) alone55 x5 l5,
      at_byte _ (λ x. bit 5 x * 64) alone56 x6 l6,
      at_byte _ (λ x. bit 5 x * 128) alone57 x7 l7,
    ) (beside_all (bit 5 x0) (bit 5 x1) (bit 5 x2) (bit 5 x3) (bit 5 x4) (bit 5 x5) (bit 5 x6) (bit 5 x7) (bit_at-lt x0 5) (bit_at-lt x1 5) (bit_at-lt x2 5) (bit_at-lt x3 5) (bit_at-lt x4 5) (bit_at-lt x5 5) (bit_at-lt x6 5) (bit_at-lt x7 5))

alone60 : all_below (agrees (λ x. upper_of 4 0x0f (upper_of 2 0x33 (lower_of 1 0x55 x))) (λ x. bit 6 x * 1)) 256 ≡ true
unfolding all_below
alone60 = refl

alone61 : all_below (agrees (λ x. upper_of 4 0x0f (upper_of 2 0x33 (lower_with 1 0x55 x))) (λ x. bit 6 x * 2)) 256 ≡ true
unfolding all_below
alone61 = refl

alone62 : all_below (agrees (λ x. upper_of 4 0x0f (upper_with 2 0x33 (lower_of 1 0x55 x))) (λ x. bit 6 x * 4)) 256 ≡ true
unfolding all_below
alone62 = refl

alone63 : all_below (agrees (λ x. upper_of 4 0x0f (upper_with 2 0x33 (lower_with 1 0x55 x))) (λ x. bit 6 x * 8)) 256 ≡ true
unfolding all_below
alone63 = refl

alone64 : all_below (agrees (λ x. upper_with 4 0x0f (upper_of 2 0x33 (lower_of 1 0x55 x))) (λ x. bit 6 x * 16)) 256 ≡ true
unfolding all_below
alone64 = refl

alone65 : all_below (agrees (λ x. upper_with 4 0x0f (upper_of 2 0x33 (lower_with 1 0x55 x))) (λ x. bit 6 x * 32)) 256 ≡ true
unfolding all_below
alone65 = refl

alone66 : all_below (agrees (λ x. upper_with 4 0x0f (upper_with 2 0x33 (lower_of 1 0x55 x))) (λ x. bit 6 x * 64)) 256 ≡ true
unfolding all_below
alone66 = refl

alone67 : all_below (agrees (λ x. upper_with 4 0x0f (upper_with 2 0x33 (lower_with 1 0x55 x))) (λ x. bit 6 x * 128)) 256 ≡ true
unfolding all_below
alone67 = refl

pub placed6 : (x0 x1 x2 x3 x4 x5 x6 x7 : ℕ) → x0 < 256 → x1 < 256 → x2 < 256 → x3 < 256 → x4 < 256 → x5 < 256 → x6 < 256 → x7 < 256
    → high_kept 4 0x0f (high_kept 2 0x33 (low_kept 1 0x55 x0 x1) (low_kept 1 0x55 x2 x3)) (high_kept 2 0x33 (low_kept 1 0x55 x4 x5) (low_kept 1 0x55 x6 x7))
    ≡ number (bit 6) (x0 ∷ x1 ∷ x2 ∷ x3 ∷ x4 ∷ x5 ∷ x6 ∷ x7 ∷ [])
placed6 x0 x1 x2 x3 x4 x5 x6 x7 l0 l1 l2 l3 l4 l5 l6 l7 =
    spread (upper_of 2 0x33) (upper_with 2 0x33) (upper_of 4 0x0f) (upper_with 4 0x0f) (upper_of-sum 2 0x33) (upper_with-sum 2 0x33) (upper_of-sum 4 0x0f) (upper_with-sum 4 0x0f)
    (lower_of 1 0x55 x0) (lower_with 1 0x55 x1) (lower_of 1 0x55 x2) (lower_with 1 0x55 x3) (lower_of 1 0x55 x4) (lower_with 1 0x55 x5) (lower_of 1 0x55 x6) (lower_with 1 0x55 x7)
    ∙ rw (
      at_byte _ (λ x. bit 6 x * 1) alone60 x0 l0,
      at_byte _ (λ x. bit 6 x * 2) alone61 x1 l1,
      at_byte _ (λ x. bit 6 x * 4) alone62 x2 l2,
      at_byte _ (λ x. bit 6 x * 8) alone63 x3 l3,
      at_byte _ (λ x. bit 6 x * 16) alone64 x4 l4,
      at_byte _ (λ x. bit 6 x * 32) alone65 x5 l5,
      at_byte _ (λ x. bit 6 x * 64) alone66 x6 l6,
      at_byte _ (λ x. bit 6 x * 128) alone67 x7 l7,
    ) (beside_all (bit 6 x0) (bit 6 x1) (bit 6 x2) (bit 6 x3) (bit 6 x4) (bit 6 x5) (bit 6 x6) (bit 6 x7) (bit_at-lt x0 6) (bit_at-lt x1 6) (bit_at-lt x2 6) (bit_at-lt x3 6) (bit_at-lt x4 6) (bit_at-lt x5 6) (bit_at-lt x6 6) (bit_at-lt x7 6))

alone70 : all_below (agrees (λ x. upper_of 4 0x0f (upper_of 2 0x33 (upper_of 1 0x55 x))) (λ x. bit 7 x * 1)) 256 ≡ true
unfolding all_below
alone70 = refl

alone71 : all_below (agrees (λ x. upper_of 4 0x0f (upper_of 2 0x33 (upper_with 1 0x55 x))) (λ x. bit 7 x * 2)) 256 ≡ true
unfolding all_below
alone71 = refl

alone72 : all_below (agrees (λ x. upper_of 4 0x0f (upper_with 2 0x33 (upper_of 1 0x55 x))) (λ x. bit 7 x * 4)) 256 ≡ true
unfolding all_below
alone72 = refl

alone73 : all_below (agrees (λ x. upper_of 4 0x0f (upper_with 2 0x33 (upper_with 1 0x55 x))) (λ x. bit 7 x * 8)) 256 ≡ true
unfolding all_below
alone73 = refl

alone74 : all_below (agrees (λ x. upper_with 4 0x0f (upper_of 2 0x33 (upper_of 1 0x55 x))) (λ x. bit 7 x * 16)) 256 ≡ true
unfolding all_below
alone74 = refl

alone75 : all_below (agrees (λ x. upper_with 4 0x0f (upper_of 2 0x33 (upper_with 1 0x55 x))) (λ x. bit 7 x * 32)) 256 ≡ true
unfolding all_below
alone75 = refl

alone76 : all_below (agrees (λ x. upper_with 4 0x0f (upper_with 2 0x33 (upper_of 1 0x55 x))) (λ x. bit 7 x * 64)) 256 ≡ true
unfolding all_below
alone76 = refl

alone77 : all_below (agrees (λ x. upper_with 4 0x0f (upper_with 2 0x33 (upper_with 1 0x55 x))) (λ x. bit 7 x * 128)) 256 ≡ true
unfolding all_below
alone77 = refl

pub placed7 : (x0 x1 x2 x3 x4 x5 x6 x7 : ℕ) → x0 < 256 → x1 < 256 → x2 < 256 → x3 < 256 → x4 < 256 → x5 < 256 → x6 < 256 → x7 < 256
    → high_kept 4 0x0f (high_kept 2 0x33 (high_kept 1 0x55 x0 x1) (high_kept 1 0x55 x2 x3)) (high_kept 2 0x33 (high_kept 1 0x55 x4 x5) (high_kept 1 0x55 x6 x7))
    ≡ number (bit 7) (x0 ∷ x1 ∷ x2 ∷ x3 ∷ x4 ∷ x5 ∷ x6 ∷ x7 ∷ [])
placed7 x0 x1 x2 x3 x4 x5 x6 x7 l0 l1 l2 l3 l4 l5 l6 l7 =
    spread (upper_of 2 0x33) (upper_with 2 0x33) (upper_of 4 0x0f) (upper_with 4 0x0f) (upper_of-sum 2 0x33) (upper_with-sum 2 0x33) (upper_of-sum 4 0x0f) (upper_with-sum 4 0x0f)
    (upper_of 1 0x55 x0) (upper_with 1 0x55 x1) (upper_of 1 0x55 x2) (upper_with 1 0x55 x3) (upper_of 1 0x55 x4) (upper_with 1 0x55 x5) (upper_of 1 0x55 x6) (upper_with 1 0x55 x7)
    ∙ rw (
      at_byte _ (λ x. bit 7 x * 1) alone70 x0 l0,
      at_byte _ (λ x. bit 7 x * 2) alone71 x1 l1,
      at_byte _ (λ x. bit 7 x * 4) alone72 x2 l2,
      at_byte _ (λ x. bit 7 x * 8) alone73 x3 l3,
      at_byte _ (λ x. bit 7 x * 16) alone74 x4 l4,
      at_byte _ (λ x. bit 7 x * 32) alone75 x5 l5,
      at_byte _ (λ x. bit 7 x * 64) alone76 x6 l6,
      at_byte _ (λ x. bit 7 x * 128) alone77 x7 l7,
    ) (beside_all (bit 7 x0) (bit 7 x1) (bit 7 x2) (bit 7 x3) (bit 7 x4) (bit 7 x5) (bit 7 x6) (bit 7 x7) (bit_at-lt x0 7) (bit_at-lt x1 7) (bit_at-lt x2 7) (bit_at-lt x3 7) (bit_at-lt x4 7) (bit_at-lt x5 7) (bit_at-lt x6 7) (bit_at-lt x7 7))
