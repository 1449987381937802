use Rattle.aes_core.proofs.Keys.{under_key}
use Rattle.aes_core.proofs.key.encrypt.Goals as goal

pub returns : goal.returns
returns c =
    let k = c.key.inside in
    under_key k.words k.inner c.args.key.now c.args.block.now _ k.rounds c.key.told.0 c.key.invariant.0 c.key.view_is c.encrypt_block.ensures
