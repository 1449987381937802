use Rattle.std.proofs.Common.{length}
use Rattle.mbuf_chain.proofs.store.give_back.Given as goal

abbrev pub decreases-loop-seg : goal.decreases-loop-seg
decreases-loop-seg g l = length l.segs
