use Rattle.std.proofs.Common.{◌∙◌}
use Rattle.aes_core.proofs.Rows.{xored_is}
use Rattle.aes_core.proofs.encryption.first_key.Goals as goal

pub returns : goal.returns
returns c = c.into_basis.ensures ∙ xored_is c.args.block c.args.key c.fits-block.0 c.fits-key.0
