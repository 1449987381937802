-- The double of a sum of bytes, and a byte of a round from sums.
use Rattle.std.proofs.Common.{◌≡◌, ℕ, ◌*◌, ◌/◌, ◌%◌, ◌^◌, ◌<◌, true, refl, ap, sym, ◌∙◌, arith, bit_xor}
use Rattle.std.proofs.lemmas.Nat.{xor_shr, xor_of_8}
use Rattle.std.specs.Int.Bits.{xor_assoc, xor_comm, xor_self, xor_zero_r}
use Rattle.crypto_model.proofs.Computed.{all_below}
use Rattle.crypto_model.specs.Field.{product, times, remainder, sub_byte}
use Rattle.aes_core.proofs.TableFacts.{agrees, at_byte, sub_byte_below, product_one, product_three}
use Rattle.aes_core.proofs.Sums.{swap, bit_times}
use Rattle.aes_core.proofs.Squares.{shl-xor}
use Rattle.aes_core.proofs.Rows.{bare, row}

-- the double by a shift and a remainder
abbrev shifted : ℕ → ℕ
shifted x = bit_xor (x * 2 ^ 1 % 256) (x / 2 ^ 7 * 0x1b)

shifted_all : all_below (agrees (product 2) shifted) 256 ≡ true
unfolding all_below product times remainder
shifted_all = refl

shifted_is : (x : ℕ) → x < 256 → product 2 x ≡ shifted x
shifted_is = at_byte (product 2) shifted shifted_all

shifted-xor : (x y : ℕ) → x < 256 → y < 256 → shifted (bit_xor x y) ≡ bit_xor (shifted x) (shifted y)
shifted-xor x y lx ly =
    rw (shl-xor 1 x y, xor_shr x y 7, bit_times (x / 2 ^ 7) (y / 2 ^ 7) 0x1b (omega arith) (omega arith))
    (swap (x * 2 ^ 1 % 256) (y * 2 ^ 1 % 256) (x / 2 ^ 7 * 0x1b) (y / 2 ^ 7 * 0x1b))

pub double-xor : (x y : ℕ) → x < 256 → y < 256 → product 2 (bit_xor x y) ≡ bit_xor (product 2 x) (product 2 y)
double-xor x y lx ly =
    shifted_is (bit_xor x y) (xor_of_8 x y lx ly) ∙ shifted-xor x y lx ly
    ∙ ap (λ (q : ℕ). bit_xor q (shifted y)) (sym (shifted_is x lx)) ∙ ap (bit_xor (product 2 x)) (sym (shifted_is y ly))

-- constants that cancel
pub apart : (a b p : ℕ) → bit_xor (bit_xor a p) (bit_xor b p) ≡ bit_xor a b
apart a b p = swap a p b p ∙ ap (bit_xor (bit_xor a b)) (xor_self p) ∙ xor_zero_r (bit_xor a b)

gathered : (u v b c d p q : ℕ) → bit_xor (bit_xor u v) (bit_xor (bit_xor (bit_xor b p) (bit_xor c d)) q)
    ≡ bit_xor (bit_xor (bit_xor (bit_xor u (bit_xor v b)) c) d) (bit_xor q p)
gathered u v b c d p q =
    let e = bit_xor c d in
    let one : bit_xor (bit_xor b p) e ≡ bit_xor (bit_xor b e) p = xor_assoc b p e ∙ ap (bit_xor b) (xor_comm p e) ∙ sym (xor_assoc b e p) in
    let two : bit_xor (bit_xor (bit_xor b e) p) q ≡ bit_xor (bit_xor b e) (bit_xor q p) = xor_assoc (bit_xor b e) p q ∙ ap (bit_xor (bit_xor b e)) (xor_comm p q) in
    let three : bit_xor (bit_xor u v) (bit_xor b e) ≡ bit_xor (bit_xor (bit_xor u (bit_xor v b)) c) d =
    sym (xor_assoc (bit_xor u v) b e) ∙ ap (λ (z : ℕ). bit_xor z e) (xor_assoc u v b) ∙ sym (xor_assoc (bit_xor u (bit_xor v b)) c d) in
    rw (one, two) (sym (xor_assoc (bit_xor u v) (bit_xor b e) (bit_xor q p)) ∙ ap (λ (z : ℕ). bit_xor z (bit_xor q p)) three)

-- a byte of a round as planes give it
abbrev pub row_of_sums : ℕ → ℕ → ℕ → ℕ → ℕ → ℕ
row_of_sums a b c d q =
    bit_xor (product 2 (bit_xor (bare a) (bare b))) (bit_xor (bit_xor (bare b) (bit_xor (bare c) (bare d))) q)

pub row_of_sums_is : (a b c d q : ℕ) → row_of_sums a b c d q ≡ row a b c d q
row_of_sums_is a b c d q =
    let x = sub_byte a in
    let y = sub_byte b in
    rw (
      apart x y 0x63,
      apart (sub_byte c) (sub_byte d) 0x63,
      double-xor x y (sub_byte_below a) (sub_byte_below b),
      product_three y (sub_byte_below b),
      product_one (sub_byte c) (sub_byte_below c),
      product_one (sub_byte d) (sub_byte_below d),
    )
    (gathered (product 2 x) (product 2 y) y (sub_byte c) (sub_byte d) 0x63 q)
