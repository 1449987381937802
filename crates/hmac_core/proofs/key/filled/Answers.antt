use Rattle.std.proofs.Common.{arith}
use Rattle.std.proofs.lemmas.Grind.{common_steps}
use Rattle.hmac_core.proofs.Keys.{long_key_filled, short_key_filled, sizes}
use Rattle.hmac_core.proofs.key.filled.Goals as goal

pub returns-then-key-block_size : goal.returns-then-key-block_size
returns-then-key-block_size c =
    short_key_filled c.args.hash c.args.key.now c.put.new.list (omega (arith, c.block_size.ensures)) c.put.ensures

pub returns-else-key-block_size : goal.returns-else-key-block_size
returns-else-key-block_size c =
    let s = (sizes c.args.hash).0 in
    long_key_filled c.args.hash c.args.key.now _ c.put-else-key-block_size.new.list (omega (arith, c.block_size.ensures)) c.digest-digest.ensures.value
    (grind (arith, common_steps, s, c.digest-digest.ensures.size)) c.put-else-key-block_size.ensures
