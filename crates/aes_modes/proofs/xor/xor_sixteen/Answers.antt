use Rattle.std.proofs.Common.{◌∙◌, ap}
use Rattle.crypto_model.specs.Modes.{xor_with}
use Rattle.aes_modes.proofs.Counters.{halves}
use Rattle.aes_modes.proofs.XorLists.{both_parts}
use Rattle.aes_modes.proofs.xor.xor_sixteen.Goals as goal

pub returns : goal.returns
returns c =
    both_parts 128 c.args.blocks.now _ _ c.split_at_mut-first.result.0.now c.split_at_mut-first.result.1.now _ _
    c.xor_four_pairs.ensures.long c.split_at_mut-first.ensures.front c.split_at_mut-first.ensures.back c.xor_four_pairs.ensures.xored c.xor_four_pairs-2.ensures.xored
    ∙ ap (xor_with c.args.blocks.now) (halves c.args.pairs.now c.told-pairs)
