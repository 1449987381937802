use Rattle.std.proofs.Common.{◌∙◌, refl, bit_xor}
use Rattle.std.proofs.lemmas.Simd.{zip2_of_maps}
use Rattle.crypto_model.proofs.Computed.{all_below}
use Rattle.crypto_model.specs.Field.{product, sub_byte}
use Rattle.aes_core.specs.Basis.{back}
use Rattle.aes_core.specs.Nibbles.{is_place, read, place_u, place_t}
use Rattle.aes_core.specs.declared.tables.TheConstants.{SUB_U, SUB_T, DOUBLE_U, DOUBLE_T}
use Rattle.aes_core.proofs.Maps.{each_of_map, mapped, looked}
use Rattle.aes_core.proofs.TableFacts.{sub_within, back-sub_within, double_within, back-double_within}
use Rattle.aes_core.proofs.wide_nibbles.substituted.Goals as goal

pub look-one_t-requires : goal.look-one_t-requires
unfolding all_below
look-one_t-requires c = each_of_map is_place place_t c.args.y _ c.fits-y.1 c.parts.ensures.t refl

pub look-two_t-requires : goal.look-two_t-requires
unfolding all_below
look-two_t-requires c = each_of_map is_place place_t c.args.y _ c.fits-y.1 c.parts.ensures.t refl

pub look-requires : goal.look-requires
unfolding all_below
look-requires c = each_of_map is_place place_u c.args.y _ c.fits-y.1 c.parts.ensures.u refl

pub look-requires-2 : goal.look-requires-2
unfolding all_below
look-requires-2 c = each_of_map is_place place_u c.args.y _ c.fits-y.1 c.parts.ensures.u refl

pub returns-clause-one : goal.returns-clause-one
returns-clause-one c =
    let y = c.args.y in
    let e =
    zip2_of_maps bit_xor (λ x. read SUB_U (place_u x)) (λ x. read SUB_T (place_t x)) y
    (c.look.ensures ∙ looked SUB_U place_u y _ c.parts.ensures.u)
    (c.look-one_t.ensures ∙ looked SUB_T place_t y _ c.parts.ensures.t) in
    mapped back sub_within (λ x. bit_xor (sub_byte x) 0x63) back y _ c.fits-y.1 e back-sub_within

pub returns-clause-two : goal.returns-clause-two
returns-clause-two c =
    let y = c.args.y in
    let e =
    zip2_of_maps bit_xor (λ x. read DOUBLE_U (place_u x)) (λ x. read DOUBLE_T (place_t x)) y
    (c.look-2.ensures ∙ looked DOUBLE_U place_u y _ c.parts.ensures.u)
    (c.look-two_t.ensures ∙ looked DOUBLE_T place_t y _ c.parts.ensures.t) in
    mapped back double_within (λ x. bit_xor (product 2 (sub_byte x)) 0xc6) back y _ c.fits-y.1 e back-double_within
