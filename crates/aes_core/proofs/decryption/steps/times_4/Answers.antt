use Rattle.std.proofs.Common.{refl, ◌∙◌}
use Rattle.crypto_model.specs.Field.{product, remainder, times}
use Rattle.aes_core.specs.InverseTables.{sum_of_entries}
use Rattle.aes_core.specs.declared.decryption.tables.TheConstants.{TIMES_4}
use Rattle.crypto_model.proofs.Computed.{all_below}
use Rattle.aes_core.proofs.InverseBytes.{same_bytes}
use Rattle.aes_core.proofs.decryption.steps.times_4.Goals as goal

pub returns : goal.returns
unfolding all_below product remainder times
returns c = c.look_up_halves.ensures ∙ same_bytes (sum_of_entries TIMES_4) (product 4) c.args.bytes c.fits-bytes.1 refl
