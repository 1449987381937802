use Rattle.std.proofs.Common.{◌≡◌, ◌∙◌, length, refl, rules}
use Rattle.aes_modes.proofs.Pieces.{feeds_fresh}
use Rattle.aes_modes.proofs.ctr.Ctr.begin_group.Goals as goal

pub returns-clause-fed : goal.returns-clause-fed
returns-clause-fed c =
    let state = c.args.self.now in
    let long : length state.stream ≡ 64 = search rules in
    feeds_fresh state _ 4 refl refl c.requires long (c.write_four.ensures ∙ c.four_blocks.ensures)
