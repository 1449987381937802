use Rattle.std.proofs.Common.{ap, ◌∙◌, List, ℕ}
use Rattle.std.specs.Simd.Lanes.{number_l}
use Rattle.crypto_model.specs.Modes.{counter_block}
use Rattle.aes_modes.proofs.LowFirst.{cut_off, cut_off_is, joined}
use Rattle.aes_modes.proofs.ctr.block_of_words.Goals as goal

pub returns : goal.returns
unfolding counter_block
returns c t e = ap (λ (w : List ℕ). cut_off 16 (number_l 18446744073709551616 w)) e ∙ ap (cut_off 16) (joined t) ∙ cut_off_is 16 t
