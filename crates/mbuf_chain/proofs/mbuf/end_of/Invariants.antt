use Rattle.std.proofs.Common.{◌≡◌, ◌+◌, ◌<◌, ◌++◌, length}
use Rattle.std.specs.Prelude.{map}
use Rattle.std.specs.Map.Iter.{deref}
use Rattle.mbuf_chain.specs.Chain.{packet_of}
use Rattle.mbuf_chain.specs.Ends.{cut_to}
use Rattle.mbuf_chain.proofs.mbuf.end_of.Given as goal

abbrev pub invariant-loop-seg : goal.invariant-loop-seg
invariant-loop-seg l = record {
  far : l.len ≡ length (packet_of (map deref l.yielded)) + l.left;
  count : l.before ≡ length l.yielded;
  more : 0 < l.before → 0 < l.left;
  cut : cut_to l.len l.segs ≡ map deref l.yielded ++ cut_to l.left l.seg-iterator;
}
