-- Bits of bytes in tables, and of SubBytes.
use Rattle.std.proofs.Common.{◌≡◌, ℕ, ◌/◌, ◌%◌, ◌^◌, List, map, ap, sym, ◌∙◌, bit_xor}
use Rattle.std.specs.Int.{bit_at}
use Rattle.crypto_model.specs.Field.{sub_byte}
use Rattle.aes_core.specs.Planes.{lifted}
use Rattle.aes_core.specs.Circuit.{IsBytes}
use Rattle.aes_core.proofs.Wires.{lifted_same, lifted-map}
use Rattle.aes_core.proofs.TableFacts.{sbox, sbox_is}

-- bit x of a table
abbrev pub told : ℕ → ℕ → ℕ
told table x = table / 2 ^ x

abbrev pub bare_bit : ℕ → ℕ → ℕ
bare_bit k x = bit_at (bit_xor (sbox x) 0x63) k

pub bare_bits : (k : ℕ) (vs : List (List ℕ)) → IsBytes vs → lifted (bare_bit k) vs ≡ lifted (λ x. bit_at x k) (map (map (λ x. bit_xor (sub_byte x) 0x63)) vs)
bare_bits k vs fits =
    lifted_same (bare_bit k) (λ x. bit_at (bit_xor (sub_byte x) 0x63) k) vs fits (λ x lt. ap (λ (q : ℕ). bit_at (bit_xor q 0x63) k % 2) (sbox_is x lt))
    ∙ sym (lifted-map (λ x. bit_at x k) (λ x. bit_xor (sub_byte x) 0x63) vs)
