use Rattle.std.proofs.Common.{◌∙◌, refl}
use Rattle.aes_core.proofs.Keys.{under_key}
use Rattle.aes_core.proofs.Sliced.{pairs_same}
use Rattle.aes_core.proofs.key.encrypt_sixteen.Goals as goal

pub returns : goal.returns
returns c =
    let k = c.key.inside in
    c.encrypt_pairs.ensures k.words c.key.told.0 c.key.invariant.1
    ∙ pairs_same _ _ (λ block. under_key k.words k.inner c.args.key.now block _ k.rounds c.key.told.0 c.key.invariant.0 c.key.view_is refl) c.args.pairs.now
