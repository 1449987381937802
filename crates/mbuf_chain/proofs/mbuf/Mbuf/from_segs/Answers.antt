use Rattle.mbuf_chain.proofs.Kept.{kept}
use Rattle.mbuf_chain.proofs.mbuf.Mbuf.from_segs.Goals as goal

pub invariant_of-result : goal.invariant_of-result
invariant_of-result c = kept _ _ c.requires c.bytes_in-len.ensures.most c.bytes_in-len.ensures.whole c.bytes_in-len.ensures.bytes
