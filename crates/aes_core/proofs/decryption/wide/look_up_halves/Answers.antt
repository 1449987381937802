use Rattle.std.proofs.Common.{refl, bit_xor, get_or, [], ◌∙◌}
use Rattle.std.proofs.lemmas.Simd.{zip2_of_maps}
use Rattle.crypto_model.proofs.Computed.{all_below}
use Rattle.aes_core.specs.Nibbles.{is_place, read, high, low}
use Rattle.aes_core.proofs.Maps.{each_of_map, highs, lows, looked}
use Rattle.aes_core.proofs.decryption.wide.look_up_halves.Goals as goal

pub look-high-requires : goal.look-high-requires
unfolding all_below
look-high-requires c = each_of_map is_place high c.args.bytes _ c.fits-bytes.1 (highs c.args.bytes c.fits-bytes.0) refl

pub look-requires : goal.look-requires
unfolding all_below
look-requires c = each_of_map is_place low c.args.bytes _ c.fits-bytes.1 (lows c.args.bytes c.fits-bytes.0) refl

pub returns : goal.returns
returns c =
    let first = get_or c.args.tables 0 [] in
    let second = get_or c.args.tables 1 [] in
    zip2_of_maps bit_xor (λ x. read first (low x)) (λ x. read second (high x)) c.args.bytes
    (c.look.ensures ∙ looked first low c.args.bytes _ (lows c.args.bytes c.fits-bytes.0))
    (c.look-high.ensures ∙ looked second high c.args.bytes _ (highs c.args.bytes c.fits-bytes.0))
