use Rattle.std.proofs.Common.{◌+◌, ◌%◌, ◌^◌}
use Rattle.aes_modes.proofs.ctr.pair_from.Goals as goal

pub returns : goal.returns
returns c =
    let t = c.args.counter in
    c.pair_of_words.ensures t ((t + 1) % 2 ^ 128) c.counter_words.ensures c.counter_words-2.ensures
