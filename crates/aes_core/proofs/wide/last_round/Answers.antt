use Rattle.aes_core.proofs.WideRounds.{pair_last_is}
use Rattle.aes_core.proofs.wide.last_round.Goals as goal

pub returns : goal.returns
returns c k lk ek = pair_last_is c.args.y k c.args.key _ c.fits-y.0 lk ek c.substituted_plainly.ensures
