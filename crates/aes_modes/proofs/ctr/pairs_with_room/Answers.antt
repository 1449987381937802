use Rattle.std.proofs.Common.{refl, arith, ◌+◌, ◌%◌, ◌^◌}
use Rattle.aes_modes.proofs.Counters.{same_pair}
use Rattle.aes_modes.proofs.ctr.pairs_with_room.Goals as goal

pub returns : goal.returns
returns c =
    let t = c.args.first in
    let small = c.ranges.first.fits in
    let w = c.counter_words-w.ensures in
    same_pair (c.pair_of_words.ensures ((t + 0) % 2 ^ 128) ((t + 1) % 2 ^ 128) (c.later_words.ensures t small w (omega (arith, c.requires))) (c.later_words-2.ensures t small w (omega (arith, c.requires))))
    (same_pair (c.pair_of_words-2.ensures ((t + 2) % 2 ^ 128) ((t + 3) % 2 ^ 128) (c.later_words-3.ensures t small w (omega (arith, c.requires))) (c.later_words-4.ensures t small w (omega (arith, c.requires))))
    (same_pair (c.pair_of_words-3.ensures ((t + 4) % 2 ^ 128) ((t + 5) % 2 ^ 128) (c.later_words-5.ensures t small w (omega (arith, c.requires))) (c.later_words-6.ensures t small w (omega (arith, c.requires))))
    (same_pair (c.pair_of_words-4.ensures ((t + 6) % 2 ^ 128) ((t + 7) % 2 ^ 128) (c.later_words-7.ensures t small w (omega (arith, c.requires))) (c.later_words-8.ensures t small w (omega (arith, c.requires))))
    (same_pair (c.pair_of_words-5.ensures ((t + 8) % 2 ^ 128) ((t + 9) % 2 ^ 128) (c.later_words-9.ensures t small w (omega (arith, c.requires))) (c.later_words-10.ensures t small w (omega (arith, c.requires))))
    (same_pair (c.pair_of_words-6.ensures ((t + 10) % 2 ^ 128) ((t + 11) % 2 ^ 128) (c.later_words-11.ensures t small w (omega (arith, c.requires))) (c.later_words-12.ensures t small w (omega (arith, c.requires))))
    (same_pair (c.pair_of_words-7.ensures ((t + 12) % 2 ^ 128) ((t + 13) % 2 ^ 128) (c.later_words-13.ensures t small w (omega (arith, c.requires))) (c.later_words-14.ensures t small w (omega (arith, c.requires))))
    (same_pair (c.pair_of_words-8.ensures ((t + 14) % 2 ^ 128) ((t + 15) % 2 ^ 128) (c.later_words-15.ensures t small w (omega (arith, c.requires))) (c.later_words-16.ensures t small w (omega (arith, c.requires))))
    (refl))))))))
