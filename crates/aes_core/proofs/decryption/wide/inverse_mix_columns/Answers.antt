use Rattle.std.proofs.Common.{refl, ◌∙◌}
use Rattle.crypto_model.specs.Field.{product, remainder, times}
use Rattle.crypto_model.proofs.Computed.{all_below}
use Rattle.aes_core.specs.InverseTables.{sum_of_entries}
use Rattle.aes_core.specs.declared.decryption.tables.TheConstants.{TIMES_2, TIMES_4, TIMES_9}
use Rattle.aes_core.proofs.InverseBytes.{same_bytes, elevens, thirteens, fourteens}
use Rattle.aes_core.proofs.WideInverse.{mixed_pair}
use Rattle.aes_core.proofs.decryption.wide.inverse_mix_columns.Goals as goal

pub returns : goal.returns
unfolding all_below product remainder times
returns c =
    let s = c.args.pair in
    let fits = c.fits-pair.1 in
    let is_two = c.look_up_halves-two.ensures ∙ same_bytes (sum_of_entries TIMES_2) (product 2) s fits refl in
    let is_nine = c.look_up_halves-nine.ensures ∙ same_bytes (sum_of_entries TIMES_9) (product 9) s fits refl in
    let is_four = c.look_up_halves.ensures ∙ same_bytes (sum_of_entries TIMES_4) (product 4) s fits refl in
    let is_thirteen = thirteens s _ _ fits is_nine is_four in
    mixed_pair s _ _ _ _ c.fits-pair.0 (fourteens s _ _ fits is_thirteen is_two) (elevens s _ _ fits is_nine is_two) is_thirteen is_nine
