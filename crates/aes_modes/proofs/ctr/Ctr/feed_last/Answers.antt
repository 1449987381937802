use Rattle.aes_modes.proofs.Pieces.{feeds_then}
use Rattle.aes_modes.proofs.ctr.Ctr.feed_last.Goals as goal

pub returns : goal.returns
returns c =
    record { fed = feeds_then c.args.self.now c.feed_block.new.self c.feed_block-2.new.self _ _ _ _ _ c.split_at_mut-first.ensures.value c.feed_block.ensures.fed c.feed_block-2.ensures.fed }
