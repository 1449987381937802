use Rattle.std.proofs.Common.{◌∙◌, refl, bit_xor}
use Rattle.std.proofs.lemmas.Simd.{zip2_of_maps}
use Rattle.crypto_model.proofs.Computed.{all_below}
use Rattle.aes_core.specs.Nibbles.{is_place, read, high, low, both, first, second}
use Rattle.aes_core.specs.declared.tables.TheConstants.{INVERSES, SCALED_INVERSES}
use Rattle.aes_core.proofs.Maps.{each_of_map, highs, lows, boths, looked}
use Rattle.aes_core.proofs.wide_nibbles.parts.Goals as goal

pub look-scaled-requires : goal.look-scaled-requires
unfolding all_below
look-scaled-requires c = each_of_map is_place low c.args.y _ c.fits-y.1 (lows c.args.y c.fits-y.0) refl

pub look-requires : goal.look-requires
unfolding all_below
look-requires c = each_of_map is_place high c.args.y _ c.fits-y.1 (highs c.args.y c.fits-y.0) refl

pub look-requires-2 : goal.look-requires-2
unfolding all_below
look-requires-2 c = each_of_map is_place both c.args.y _ c.fits-y.1 (boths c.args.y c.fits-y.0) refl

pub look-requires-3 : goal.look-requires-3
unfolding all_below
look-requires-3 c =
    let y = c.args.y in
    each_of_map is_place first y _ c.fits-y.1
    (zip2_of_maps bit_xor (λ x. read INVERSES (high x)) (λ x. read SCALED_INVERSES (low x)) y
    (c.look.ensures ∙ looked INVERSES high y _ (highs y c.fits-y.0))
    (c.look-scaled.ensures ∙ looked SCALED_INVERSES low y _ (lows y c.fits-y.0))) refl

pub look-requires-4 : goal.look-requires-4
unfolding all_below
look-requires-4 c =
    let y = c.args.y in
    each_of_map is_place second y _ c.fits-y.1
    (zip2_of_maps bit_xor (λ x. read INVERSES (both x)) (λ x. read SCALED_INVERSES (low x)) y
    (c.look-2.ensures ∙ looked INVERSES both y _ (boths y c.fits-y.0))
    (c.look-scaled.ensures ∙ looked SCALED_INVERSES low y _ (lows y c.fits-y.0))) refl

pub returns-clause-u : goal.returns-clause-u
returns-clause-u c =
    let y = c.args.y in
    let e =
    zip2_of_maps bit_xor (λ x. read INVERSES (high x)) (λ x. read SCALED_INVERSES (low x)) y
    (c.look.ensures ∙ looked INVERSES high y _ (highs y c.fits-y.0))
    (c.look-scaled.ensures ∙ looked SCALED_INVERSES low y _ (lows y c.fits-y.0)) in
    zip2_of_maps bit_xor (λ x. read INVERSES (first x)) both y (c.look-3.ensures ∙ looked INVERSES first y _ e) (boths y c.fits-y.0)

pub returns-clause-t : goal.returns-clause-t
returns-clause-t c =
    let y = c.args.y in
    let e =
    zip2_of_maps bit_xor (λ x. read INVERSES (both x)) (λ x. read SCALED_INVERSES (low x)) y
    (c.look-2.ensures ∙ looked INVERSES both y _ (boths y c.fits-y.0))
    (c.look-scaled.ensures ∙ looked SCALED_INVERSES low y _ (lows y c.fits-y.0)) in
    zip2_of_maps bit_xor (λ x. read INVERSES (second x)) high y (c.look-4.ensures ∙ looked INVERSES second y _ e) (highs y c.fits-y.0)
