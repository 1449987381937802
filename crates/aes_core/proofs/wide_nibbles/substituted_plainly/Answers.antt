use Rattle.std.proofs.Common.{◌∙◌, refl, sym, bit_xor}
use Rattle.std.proofs.lemmas.Simd.{zip2_of_maps, splat_is_map, map-map}
use Rattle.crypto_model.proofs.Computed.{all_below}
use Rattle.crypto_model.specs.Field.{sub_byte}
use Rattle.aes_core.specs.Basis.{back}
use Rattle.aes_core.specs.Nibbles.{is_place, read, place_u, place_t}
use Rattle.aes_core.specs.declared.tables.TheConstants.{PLAIN_U, PLAIN_T}
use Rattle.aes_core.proofs.Maps.{each_of_map, same_map, looked}
use Rattle.aes_core.proofs.TableFacts.{sub_plain, sub_plain_is}
use Rattle.aes_core.proofs.wide_nibbles.substituted_plainly.Goals as goal

pub look-plain_t-requires : goal.look-plain_t-requires
unfolding all_below
look-plain_t-requires c = each_of_map is_place place_t c.args.y _ c.fits-y.1 c.parts.ensures.t refl

pub look-requires : goal.look-requires
unfolding all_below
look-requires c = each_of_map is_place place_u c.args.y _ c.fits-y.1 c.parts.ensures.u refl

pub returns : goal.returns
returns c =
    let y = c.args.y in
    let e =
    zip2_of_maps bit_xor (λ x. bit_xor (read PLAIN_U (place_u x)) (read PLAIN_T (place_t x))) (λ _. 0x63) y
    (zip2_of_maps bit_xor (λ x. read PLAIN_U (place_u x)) (λ x. read PLAIN_T (place_t x)) y
    (c.look.ensures ∙ looked PLAIN_U place_u y _ c.parts.ensures.u)
    (c.look-plain_t.ensures ∙ looked PLAIN_T place_t y _ c.parts.ensures.t))
    (splat_is_map y 32 0x63 c.fits-y.0) in
    e ∙ same_map sub_plain (λ x. sub_byte (back x)) y c.fits-y.1 sub_plain_is ∙ sym (map-map sub_byte back y)
