use Rattle.std.proofs.Common.{arith}
use Rattle.mbuf_chain.proofs.Kept.{kept_joined}
use Rattle.mbuf_chain.proofs.mbuf.Mbuf.chain.Goals as goal

pub invariant_of-self : goal.invariant_of-self
invariant_of-self c = rw c.counted.ensures (kept_joined _ _ _ _ c.self.invariant c.other.invariant (omega (arith, c.len.ensures.value, c.len-2.ensures.value)))
