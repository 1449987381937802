use Rattle.aes_core.proofs.Rows.{round_is}
use Rattle.aes_core.proofs.encryption.round.Goals as goal

pub returns : goal.returns
returns c = round_is c.args.y c.args.key _ _ c.fits-y.0 c.fits-key.0 c.substituted.ensures.one c.substituted.ensures.two
