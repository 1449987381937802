use Rattle.aes_core.proofs.Rows.{last_is}
use Rattle.aes_core.proofs.encryption.last_round.Goals as goal

pub returns : goal.returns
returns c = last_is c.args.y c.args.key _ c.fits-y.0 c.fits-key.0 c.substituted_plainly.ensures
