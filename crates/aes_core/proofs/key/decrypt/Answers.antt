use Rattle.aes_core.proofs.Keys.{back_under_key}
use Rattle.aes_core.proofs.key.decrypt.Goals as goal

pub returns : goal.returns
returns c =
    let k = c.key.inside in
    back_under_key k.words k.inner c.args.key.now c.args.block.now _ k.rounds c.key.told.0 c.key.invariant.0 c.key.view_is c.decrypt_block.ensures
