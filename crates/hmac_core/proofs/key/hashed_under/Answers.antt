use Rattle.std.proofs.Common.{◌≡◌, [], take, replicate}
use Rattle.crypto_model.specs.Hmac.{block_size}
use Rattle.crypto_model.specs.Modes.{xor_with}
use Rattle.hmac_core.proofs.Keys.{take-under}
use Rattle.hmac_core.proofs.key.hashed_under.Goals as goal

pub returns : goal.returns
returns c =
    let hash = c.args.hash in
    let piece : take c.block_size.result c.put_under.new.block ≡ xor_with (take (block_size hash) c.args.block) (replicate (block_size hash) c.args.pad) =
    rw (c.block_size.ensures, c.put_under.ensures) (take-under c.args.pad (block_size hash) c.args.block) in
    rw piece at (c.update.ensures hash [] c.new-state.ensures)
