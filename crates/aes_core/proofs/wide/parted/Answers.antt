use Rattle.std.proofs.Common.{◌∙◌, drop, arith, length-drop}
use Rattle.std.proofs.lemmas.List.{take_all}
use Rattle.std.proofs.lemmas.Simd.{pick_l_left, pick_l-range_with_len}
use Rattle.std.specs.List.{range_with_len}
use Rattle.aes_core.proofs.wide.parted.Goals as goal

pub returns-clause-second : goal.returns-clause-second
returns-clause-second c =
    let pair = c.args.pair in
    pick_l_left 0 pair pair 32 (range_with_len 16 16) c.fits-pair.0 tt ∙ pick_l-range_with_len 0 pair 16 16 (omega (arith, c.fits-pair.0))
    ∙ take_all 16 (drop 16 pair) (omega (arith, c.fits-pair.0, length-drop 16 pair))
