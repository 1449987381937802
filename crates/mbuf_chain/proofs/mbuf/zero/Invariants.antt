use Rattle.std.proofs.Common.{◌≡◌, take, replicate}
use Rattle.mbuf_chain.proofs.mbuf.zero.Given as goal

abbrev pub invariant-loop-byte : goal.invariant-loop-byte
invariant-loop-byte l = take l.byte-index l.byte-items ≡ replicate l.byte-index 0
