use Rattle.std.proofs.Common.{◌++◌, ◌∙◌, ap, List, ℕ}
use Rattle.std.proofs.lemmas.Simd.{pick_l_whole}
use Rattle.crypto_model.specs.Modes.{counter_block}
use Rattle.aes_modes.proofs.Counters.{beside}
use Rattle.aes_modes.proofs.ctr.pair_of_words.Goals as goal

pub returns : goal.returns
returns c s t d e =
    let x = c.block_of_words.result in
    let y = c.block_of_words-2.result in
    let f = c.block_of_words.ensures s d in
    let h = c.block_of_words-2.ensures t e in
    pick_l_whole 0 (x ++ y) 32 (beside s t x y f h) ∙ ap (λ (l : List ℕ). l ++ y) f ∙ ap (λ (l : List ℕ). counter_block s ++ l) h
