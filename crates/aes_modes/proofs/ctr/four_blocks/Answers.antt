use Rattle.std.proofs.Common.{sym}
use Rattle.crypto_model.specs.Aes.{cipher}
use Rattle.aes_modes.proofs.KeyStream.{key_stream-four}
use Rattle.aes_modes.proofs.ctr.four_blocks.Goals as goal

pub returns : goal.returns
returns c =
    rw (
      c.encrypt_four.ensures.first,
      c.encrypt_four.ensures.second,
      c.encrypt_four.ensures.third,
      c.encrypt_four.ensures.fourth,
      c.counter_lanes.ensures,
      c.counter_lanes-2.ensures,
      c.counter_lanes-3.ensures,
      c.counter_lanes-4.ensures,
    ) (sym (key_stream-four (cipher c.args.key.now) c.args.first))
