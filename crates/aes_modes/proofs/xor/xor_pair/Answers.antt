use Rattle.aes_modes.proofs.XorLists.{lanes_written}
use Rattle.aes_modes.proofs.xor.xor_pair.Goals as goal

pub returns : goal.returns
returns c = lanes_written 32 c.args.blocks.now c.args.stream c.requires c.fits-stream.0
