use Rattle.std.proofs.Common.{refl, arith}
use Rattle.gcm_core.proofs.FedPieces.{feeds_part}
use Rattle.gcm_core.proofs.stream.KeyStream.feed_part.Goals as goal

pub returns : goal.returns
returns c = feeds_part c.args.self.now _ c.args.part.now c.feed.new.piece refl refl (omega arith) c.feed.ensures
