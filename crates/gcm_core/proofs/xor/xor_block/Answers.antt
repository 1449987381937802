use Rattle.std.proofs.Common.{arith}
use Rattle.aes_modes.proofs.XorLists.{lanes_written}
use Rattle.gcm_core.proofs.xor.xor_block.Goals as goal

pub returns : goal.returns
returns c = lanes_written 16 c.args.block.now c.args.stream (omega arith) c.fits-stream.0
