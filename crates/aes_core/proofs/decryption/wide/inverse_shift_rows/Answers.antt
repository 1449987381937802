use Rattle.aes_core.proofs.WideInverse.{shifted_pair}
use Rattle.aes_core.proofs.decryption.wide.inverse_shift_rows.Goals as goal

pub returns : goal.returns
returns c = shifted_pair c.args.pair c.fits-pair.0
