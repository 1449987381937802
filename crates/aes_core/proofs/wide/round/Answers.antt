use Rattle.aes_core.proofs.WideRounds.{pair_round_is}
use Rattle.aes_core.proofs.wide.round.Goals as goal

pub returns : goal.returns
returns c k lk ek = pair_round_is c.args.y k c.args.key _ _ c.fits-y.0 lk ek c.substituted.ensures.one c.substituted.ensures.two
