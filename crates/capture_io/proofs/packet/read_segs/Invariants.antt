use Rattle.std.proofs.Common.{◌≡◌, ◌≤◌, ◌++◌, ◌+◌, ◌-◌, ◌*◌, length, replicate}
use Rattle.mbuf_chain.specs.Chain.{packet_of, shape_of}
use Rattle.capture_io.proofs.packet.read_segs.Given as goal

abbrev pub invariant-loop-left : goal.invariant-loop-left
invariant-loop-left g l = record {
  full : shape_of l.segs ≡ replicate (length l.segs) (0, 2048);
  far : l.len ≡ l.left + 2048 * length l.segs;
  some : 2048 * length l.segs ≤ l.len - 1;
  found : g.S.Source.tells → g.S.Source.left l.fn.src ≡ packet_of l.segs ++ g.S.Source.left l.src;
  later : g.S.Source.faults l.fn.src ≤ g.S.Source.faults l.src;
}

abbrev pub decreases-loop-left : goal.decreases-loop-left
decreases-loop-left g l = l.left
