use Rattle.std.proofs.Common.{◌≡◌, ◌∙◌, ap, rules, refl, length}
use Rattle.crypto_model.specs.Modes.{xor_with}
use Rattle.aes_modes.proofs.Pieces.{feeds_whole}
use Rattle.aes_modes.proofs.ctr.Ctr.feed_group.Goals as goal

pub returns-clause-fed : goal.returns-clause-fed
returns-clause-fed c =
    let state = c.args.self.now in
    let long : length state.stream ≡ 64 = search rules in
    feeds_whole state _ 4 c.args.group.now _ refl refl c.requires.used_up long c.requires.used_up long c.requires.whole
    (c.xor_four.ensures ∙ ap (xor_with c.args.group.now) c.four_blocks.ensures)
