use Rattle.std.proofs.Common.{arith}
use Rattle.std.proofs.lemmas.Bool.Decides.{nat_tests}
use Rattle.aes_modes.proofs.Pieces.{feeds_nothing, feeds_then}
use Rattle.aes_modes.proofs.ctr.Ctr.feed.Goals as goal

pub returns-then-is_empty : goal.returns-then-is_empty
returns-then-is_empty c =
    let parts = c.split_at_mut-begun in
    feeds_then c.args.self.now c.feed_begun.new.self c.feed_begun.new.self _ _ _ _ _ parts.ensures.value c.feed_begun.ensures.fed (feeds_nothing c.feed_begun.new.self parts.result.1.now (grind (arith, nat_tests)))

pub returns : goal.returns
returns c =
    feeds_then c.args.self.now c.feed_begun.new.self c.feed_last.new.self _ _ _ _ _ c.split_at_mut-begun.ensures.value c.feed_begun.ensures.fed
    (feeds_then c.feed_begun.new.self c.feed_sixteens.new.self c.feed_last.new.self _ _ _ _ _ c.split_at_mut-sixteens.ensures.value c.feed_sixteens.ensures.fed
    (feeds_then c.feed_sixteens.new.self c.feed_groups.new.self c.feed_last.new.self _ _ _ _ _ c.split_at_mut-groups.ensures.value c.feed_groups.ensures.fed
    c.feed_last.ensures.fed))
