use Rattle.std.proofs.Common.{◌∙◌, ap, arith}
use Rattle.std.proofs.lemmas.List.{take_all}
use Rattle.crypto_model.specs.Gcm.{bits_128, ghash_from}
use Rattle.gcm_core.specs.Subkey.{subkey}
use Rattle.gcm_core.proofs.HashedText.{block_hashed, ghash_from-none, length-subkey}
use Rattle.gcm_core.proofs.key.GcmKey.ghash.Goals as goal

pub loop-block-init : goal.loop-block-init
loop-block-init c = ghash_from-none _ _

pub loop-block-preserved : goal.loop-block-preserved
loop-block-preserved c =
    let key = c.self.inside.key in
    let product = c.product-sum.ensures (subkey key) (length-subkey key) c.self.invariant in
    block_hashed _ _ c.args.blocks.now c.loop-block.block-index c.loop-block.sum c.number.result _ c.loop-block-test.true c.loop-block.invariant c.number.ensures (rw (← c.self.view_is) product)

pub returns : goal.returns
returns c = c.loop-block.invariant ∙ ap (ghash_from (subkey c.args.self.now) (bits_128 c.args.sum)) (take_all _ c.args.blocks.now (omega arith))
