use Rattle.std.proofs.Common.{◌≡◌, ◌≤◌, length}
use Rattle.mbuf_chain.specs.Chain.{packet_of}
use Rattle.mbuf_chain.specs.Cursors.{at_of}
use Rattle.mbuf_chain.proofs.cursor.settle.Given as goal

abbrev pub invariant-loop-walk : goal.invariant-loop-walk
invariant-loop-walk l = record {
  same : at_of l.walk l.inside ≡ at_of l.fn.walk l.fn.inside;
  within : l.inside ≤ length (packet_of l.walk.rest);
}

abbrev pub decreases-loop-walk : goal.decreases-loop-walk
decreases-loop-walk l = length l.walk.rest
