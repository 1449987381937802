use Rattle.std.proofs.Common.{refl, arith}
use Rattle.aes_modes.proofs.Counters.{same_pair, stepped}
use Rattle.aes_modes.proofs.ctr.pairs_by_steps.Goals as goal

pub returns : goal.returns
returns c =
    let t = c.args.first in
    let small = c.ranges.first.fits in
    same_pair (stepped t 0 _ _ (omega arith) c.pair_from.ensures)
    (same_pair (stepped t 2 _ _ (omega arith) c.pair_from-2.ensures)
    (same_pair (stepped t 4 _ _ (omega arith) c.pair_from-3.ensures)
    (same_pair (stepped t 6 _ _ (omega arith) c.pair_from-4.ensures)
    (same_pair (stepped t 8 _ _ (omega arith) c.pair_from-5.ensures)
    (same_pair (stepped t 10 _ _ (omega arith) c.pair_from-6.ensures)
    (same_pair (stepped t 12 _ _ (omega arith) c.pair_from-7.ensures)
    (same_pair (stepped t 14 _ _ (omega arith) c.pair_from-8.ensures)
    (refl))))))))
