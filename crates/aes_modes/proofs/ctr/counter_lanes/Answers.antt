use Rattle.aes_modes.proofs.ctr.counter_lanes.Goals as goal

pub returns : goal.returns
returns c = c.block_of_words.ensures c.args.counter c.counter_words.ensures
