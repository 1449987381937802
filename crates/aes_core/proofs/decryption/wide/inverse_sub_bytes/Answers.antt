use Rattle.std.proofs.Common.{refl, ◌∙◌}
use Rattle.crypto_model.proofs.Computed.{all_below}
use Rattle.aes_core.specs.Nibbles.{is_place, place_u, place_t}
use Rattle.aes_core.specs.InverseTables.{sum_of_entries}
use Rattle.aes_core.specs.declared.decryption.tables.TheConstants.{INPUT}
use Rattle.aes_core.proofs.Maps.{each_of_map}
use Rattle.aes_core.proofs.InverseBytes.{carried, left, right, outputs}
use Rattle.aes_core.proofs.WideInverse.{substituted_pair}
use Rattle.aes_core.proofs.decryption.wide.inverse_sub_bytes.Goals as goal

pub look-output_t-requires : goal.look-output_t-requires
unfolding all_below
look-output_t-requires c = each_of_map is_place right c.args.pair _ c.fits-pair.1 (carried (sum_of_entries INPUT) place_t c.args.pair _ _ c.look_up_halves.ensures c.parts.ensures.t) refl

pub look-requires : goal.look-requires
unfolding all_below
look-requires c = each_of_map is_place left c.args.pair _ c.fits-pair.1 (carried (sum_of_entries INPUT) place_u c.args.pair _ _ c.look_up_halves.ensures c.parts.ensures.u) refl

pub returns : goal.returns
returns c =
    outputs c.args.pair _ _ _ _ c.fits-pair.1 (carried (sum_of_entries INPUT) place_u c.args.pair _ _ c.look_up_halves.ensures c.parts.ensures.u)
    (carried (sum_of_entries INPUT) place_t c.args.pair _ _ c.look_up_halves.ensures c.parts.ensures.t) c.look.ensures c.look-output_t.ensures
    ∙ substituted_pair c.args.pair c.fits-pair.0
