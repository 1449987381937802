use Rattle.std.proofs.Common.{◌≡◌, ◌<◌, ◌^◌, ◌∙◌, ap, refl, rules, length}
use Rattle.crypto_model.specs.Aes.{cipher}
use Rattle.crypto_model.specs.Modes.{xor_with}
use Rattle.aes_modes.proofs.Counters.{sixteen_stream}
use Rattle.aes_modes.proofs.Pieces.{feeds_whole}
use Rattle.aes_modes.proofs.ctr.Ctr.feed_sixteen.Goals as goal

pub returns-clause-fed : goal.returns-clause-fed
returns-clause-fed c =
    let state = c.args.self.now in
    let long : length state.stream ≡ 64 = search rules in
    let small : state.counter < 2 ^ 128 = search rules in
    feeds_whole state _ 16 c.args.group.now _ refl refl c.requires.used_up long c.requires.used_up long c.requires.whole
    (c.xor_sixteen.ensures ∙ ap (xor_with c.args.group.now) (sixteen_stream (cipher state.key.now) state.counter _ _ small c.counter_pairs.ensures c.encrypt_sixteen-stream.ensures))
