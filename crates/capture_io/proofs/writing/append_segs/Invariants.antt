use Rattle.std.proofs.Common.{◌≡◌, ◌++◌}
use Rattle.std.specs.Prelude.{map}
use Rattle.std.specs.Map.Iter.{deref}
use Rattle.mbuf_chain.specs.Chain.{packet_of}
use Rattle.capture_io.proofs.writing.append_segs.Given as goal

abbrev pub invariant-loop-seg : goal.invariant-loop-seg
invariant-loop-seg l = l.bytes.items ≡ l.fn.bytes.items ++ packet_of (map deref l.yielded)
