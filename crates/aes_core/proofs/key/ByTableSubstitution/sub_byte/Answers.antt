use Rattle.aes_core.proofs.TableFacts.{sbox_is}
use Rattle.aes_core.proofs.key.ByTableSubstitution.sub_byte.Goals as goal

pub returns : goal.returns
returns c = sbox_is c.args.byte c.ranges.byte.fits
