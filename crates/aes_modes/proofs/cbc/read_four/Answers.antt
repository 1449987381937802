use Rattle.std.proofs.Common.{◌≡◌, ◌∙◌, List, ℕ, take, drop, refl, arith, length-take}
use Rattle.std.proofs.lemmas.List.{take_all}
use Rattle.aes_modes.proofs.CbcBlocks.{four_parts}
use Rattle.aes_modes.proofs.cbc.read_four.Goals as goal

again : (xs : List ℕ) → take 16 (take 16 xs) ≡ take 16 xs
again xs = take_all 16 (take 16 xs) (omega (arith, length-take 16 xs))

pub returns : goal.returns
returns c =
    let xs = c.args.blocks.now in
    four_parts xs c.requires ∙ rw (again xs, again (drop 16 xs), again (drop 32 xs)) refl
