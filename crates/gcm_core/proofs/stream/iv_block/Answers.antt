use Rattle.std.proofs.Common.{rules}
use Rattle.gcm_core.proofs.KeyStreams.{iv_block-made}
use Rattle.gcm_core.proofs.stream.iv_block.Goals as goal

pub returns-clause-block : goal.returns-clause-block
returns-clause-block c = iv_block-made c.args.iv.now c.to_be_bytes.result c.args.counter (search rules) (search rules) c.to_be_bytes.ensures
