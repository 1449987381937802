use Rattle.std.proofs.Common.{◌≡◌, ◌∙◌, length, refl, sym, ap, rules}
use Rattle.crypto_model.specs.Aes.{cipher}
use Rattle.crypto_model.specs.Modes.{counter_block}
use Rattle.aes_modes.proofs.KeyStream.{key_stream-one}
use Rattle.aes_modes.proofs.Pieces.{end_written, feeds_fresh}
use Rattle.aes_modes.proofs.ctr.Ctr.begin_block.Goals as goal

pub returns-clause-fed : goal.returns-clause-fed
unfolding counter_block
returns-clause-fed c =
    let state = c.args.self.now in
    let long : length state.stream ≡ 64 = search rules in
    feeds_fresh state _ 1 refl refl c.requires long
    (end_written state.stream _ long
    ∙ c.copy_from_slice.ensures.after ∙ c.encrypt.ensures ∙ ap (cipher state.key.now) c.to_be_bytes-block.ensures ∙ sym (key_stream-one (cipher state.key.now) state.counter))
