use Rattle.std.proofs.Common.{arith}
use Rattle.mbuf_chain.proofs.Kept.{kept_pushed}
use Rattle.mbuf_chain.proofs.mbuf.Mbuf.add_seg.Goals as goal

pub invariant_of-self : goal.invariant_of-self
invariant_of-self c = rw (c.in-Ok.ensures.pushed, c.len-len.ensures.value) (kept_pushed _ _ _ c.self.invariant (omega (arith, c.self.invariant.most, c.len.ensures.value)) c.len-len.ensures.whole)
