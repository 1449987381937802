use Rattle.aes_core.proofs.Sliced.{doubled_key}
use Rattle.aes_core.proofs.wide_nibbles.twice.Goals as goal

pub returns : goal.returns
returns c = doubled_key c.args.block c.fits-block.0
