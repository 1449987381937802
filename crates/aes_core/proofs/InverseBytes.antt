-- What the tables of decryption make of a byte, and of each byte of a vector.
use Rattle.std.proofs.Common.{◌≡◌, ℕ, Bool, true, List, [], get_or, map, refl, ap, sym, ◌∙◌, bit_xor, eqb, eqb-true, w8, Fits}
use Rattle.std.proofs.lemmas.List.{map-id}
use Rattle.std.proofs.lemmas.Simd.{zip2_of_maps, map-map}
use Rattle.std.specs.Simd.Lanes.{Each1, zip2}
use Rattle.crypto_model.proofs.Computed.{all_below, all_below_at}
use Rattle.crypto_model.specs.Field.{product, remainder, times, inverse_below, inverse, of_bits, sub_byte}
use Rattle.crypto_model.specs.Aes.{unsub_below}
use Rattle.aes_core.specs.Nibbles.{read, place_u, place_t}
use Rattle.aes_core.specs.InverseTables.{sum_of_entries}
use Rattle.aes_core.specs.declared.decryption.tables.TheConstants.{INPUT, OUTPUT}
use Rattle.aes_core.proofs.Maps.{same_map}

abbrev pub holds_at_each : (ℕ → Bool) → Type 0
holds_at_each p = all_below p 256 ≡ true

-- two functions that agree at the 256 bytes
pub same_bytes : (f g : ℕ → ℕ) (v : List ℕ) → Each1 (Fits w8) v → holds_at_each (λ x. eqb (f x) (g x)) → map f v ≡ map g v
same_bytes f g v fits all = same_map f g v fits (λ x lt. eqb-true _ _ (all_below_at (λ x. eqb (f x) (g x)) 256 all x lt))

-- what g makes of a vector that f computes from v
pub carried : (f g : ℕ → ℕ) (v mid at : List ℕ) → mid ≡ map f v → at ≡ map g mid → at ≡ map (λ x. g (f x)) v
carried f g v mid at e h = h ∙ ap (map g) e ∙ map-map g f v

-- where the output tables are read for a byte
abbrev pub left : ℕ → ℕ
left x = place_u (sum_of_entries INPUT x)

abbrev pub right : ℕ → ℕ
right x = place_t (sum_of_entries INPUT x)

abbrev output_left : ℕ → ℕ
output_left x = read (get_or OUTPUT 0 []) (left x)

abbrev output_right : ℕ → ℕ
output_right x = read (get_or OUTPUT 1 []) (right x)

abbrev output : ℕ → ℕ
output x = bit_xor (output_left x) (output_right x)

abbrev pub unsub : ℕ → ℕ
unsub x = unsub_below x 256

outputs_are_inverse : holds_at_each (λ x. eqb (output x) (unsub x))
unfolding all_below product remainder times inverse_below inverse of_bits sub_byte unsub_below
outputs_are_inverse = refl

pub outputs : (s j k x y : List ℕ) → Each1 (Fits w8) s → j ≡ map left s → k ≡ map right s
    → x ≡ map (read (get_or OUTPUT 0 [])) j → y ≡ map (read (get_or OUTPUT 1 [])) k → zip2 bit_xor x y ≡ map unsub s
outputs s j k x y fits is_j is_k is_x is_y =
    zip2_of_maps bit_xor output_left output_right s (carried left (read (get_or OUTPUT 0 [])) s _ _ is_j is_x) (carried right (read (get_or OUTPUT 1 [])) s _ _ is_k is_y)
    ∙ same_bytes output unsub s fits outputs_are_inverse

elevens_are_sums : holds_at_each (λ x. eqb (bit_xor (product 9 x) (product 2 x)) (product 11 x))
unfolding all_below product remainder times
elevens_are_sums = refl

thirteens_are_sums : holds_at_each (λ x. eqb (bit_xor (product 9 x) (product 4 x)) (product 13 x))
unfolding all_below product remainder times
thirteens_are_sums = refl

fourteens_are_sums : holds_at_each (λ x. eqb (bit_xor (bit_xor (product 13 x) (product 2 x)) x) (product 14 x))
unfolding all_below product remainder times
fourteens_are_sums = refl

pub elevens : (s n t : List ℕ) → Each1 (Fits w8) s → n ≡ map (product 9) s → t ≡ map (product 2) s → zip2 bit_xor n t ≡ map (product 11) s
elevens s n t fits is_n is_t = zip2_of_maps bit_xor (product 9) (product 2) s is_n is_t ∙ same_bytes (λ x. bit_xor (product 9 x) (product 2 x)) (product 11) s fits elevens_are_sums

pub thirteens : (s n f : List ℕ) → Each1 (Fits w8) s → n ≡ map (product 9) s → f ≡ map (product 4) s → zip2 bit_xor n f ≡ map (product 13) s
thirteens s n f fits is_n is_f = zip2_of_maps bit_xor (product 9) (product 4) s is_n is_f ∙ same_bytes (λ x. bit_xor (product 9 x) (product 4 x)) (product 13) s fits thirteens_are_sums

pub fourteens : (s a t : List ℕ) → Each1 (Fits w8) s → a ≡ map (product 13) s → t ≡ map (product 2) s → zip2 bit_xor (zip2 bit_xor a t) s ≡ map (product 14) s
fourteens s a t fits is_a is_t =
    zip2_of_maps bit_xor (λ x. bit_xor (product 13 x) (product 2 x)) (λ x. x) s (zip2_of_maps bit_xor (product 13) (product 2) s is_a is_t) (sym (map-id s))
    ∙ same_bytes (λ x. bit_xor (bit_xor (product 13 x) (product 2 x)) x) (product 14) s fits fourteens_are_sums
