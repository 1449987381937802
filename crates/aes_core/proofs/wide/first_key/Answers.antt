use Rattle.std.proofs.Common.{◌∙◌}
use Rattle.aes_core.proofs.WideRounds.{pair_first_is}
use Rattle.aes_core.proofs.wide.first_key.Goals as goal

pub returns : goal.returns
returns c k lk ek = c.into_basis.ensures ∙ pair_first_is c.args.pair k c.args.key c.fits-pair.0 lk ek
