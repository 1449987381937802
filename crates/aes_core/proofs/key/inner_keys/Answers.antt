use Rattle.std.proofs.Common.{arith}
use Rattle.aes_core.proofs.Keys.{inner_more, inner_all}
use Rattle.aes_core.proofs.key.inner_keys.Goals as goal

pub keys-preserved : goal.keys-preserved
keys-preserved c =
    inner_more c.args.words.now c.keys.inner _ c.into_basis-key.result c.keys.r _ c.keys-test.true (omega arith) c.told-words c.keys.invariant c.round_key.ensures c.into_basis-key.ensures

pub returns : goal.returns
returns c = inner_all c.args.words.now c.keys.inner c.keys.r c.keys-test.false c.told-words c.keys.invariant
