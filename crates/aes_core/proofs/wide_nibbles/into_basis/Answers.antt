use Rattle.std.proofs.Common.{◌∙◌, refl, bit_xor}
use Rattle.std.proofs.lemmas.Simd.{zip2_of_maps}
use Rattle.std.proofs.lemmas.List.{map-id}
use Rattle.crypto_model.proofs.Computed.{all_below}
use Rattle.aes_core.specs.Basis.{back}
use Rattle.aes_core.specs.Nibbles.{is_place, read, high, low}
use Rattle.aes_core.specs.declared.tables.TheConstants.{BASIS_LOW, BASIS_HIGH}
use Rattle.aes_core.proofs.Maps.{each_of_map, mapped, highs, lows, looked}
use Rattle.aes_core.proofs.TableFacts.{based, back-based}
use Rattle.aes_core.proofs.wide_nibbles.into_basis.Goals as goal

pub look-high-requires : goal.look-high-requires
unfolding all_below
look-high-requires c = each_of_map is_place high c.args.pair _ c.fits-pair.1 (highs c.args.pair c.fits-pair.0) refl

pub look-requires : goal.look-requires
unfolding all_below
look-requires c = each_of_map is_place low c.args.pair _ c.fits-pair.1 (lows c.args.pair c.fits-pair.0) refl

pub returns : goal.returns
returns c =
    let v = c.args.pair in
    let e =
    zip2_of_maps bit_xor (λ x. read BASIS_LOW (low x)) (λ x. read BASIS_HIGH (high x)) v
    (c.look.ensures ∙ looked BASIS_LOW low v _ (lows v c.fits-pair.0))
    (c.look-high.ensures ∙ looked BASIS_HIGH high v _ (highs v c.fits-pair.0)) in
    mapped back based (λ x. x) (λ x. x) v _ c.fits-pair.1 e back-based ∙ map-id _ ∙ map-id v
