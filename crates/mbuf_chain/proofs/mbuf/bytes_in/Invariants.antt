use Rattle.std.proofs.Common.{◌≡◌, length}
use Rattle.std.specs.Prelude.{map}
use Rattle.std.specs.List.{All}
use Rattle.std.specs.Map.Iter.{deref}
use Rattle.seg_list.specs.Buffer.{IsWhole}
use Rattle.mbuf_chain.specs.Chain.{packet_of}
use Rattle.mbuf_chain.proofs.mbuf.bytes_in.Given as goal

abbrev pub invariant-loop-seg : goal.invariant-loop-seg
invariant-loop-seg l = (l.all ≡ length (packet_of (map deref l.yielded))) × All IsWhole (map deref l.yielded)
