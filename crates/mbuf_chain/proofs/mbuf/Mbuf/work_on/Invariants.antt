use Rattle.std.proofs.Common.{◌≡◌, ◌+◌, ◌-◌, ◌%◌, ◌≤◌, [], length, take}
use Rattle.mbuf_chain.specs.Chain.{packet_of}
use Rattle.mbuf_chain.specs.Kept.{IsKept}
use Rattle.mbuf_chain.proofs.WalksBy.{WalkedBy, range_at}
use Rattle.mbuf_chain.proofs.mbuf.Mbuf.work_on.Given as goal

abbrev pub invariant-loop-done : goal.invariant-loop-done
invariant-loop-done g l = record {
  within : l.done ≤ l.len;
  whole : l.done % g.W.Work.unit ≡ 0;
  at : l.cursor.at ≡ l.off + l.done;
  size : length (packet_of l.cursor.chain) ≡ length (packet_of l.fn.self);
  kept : IsKept l.cursor.chain l.self-inside.len;
  works : (begun : g.W.Work.Begun) → g.W.Work.holds begun l.fn.work [] → WalkedBy (g.W.Work.made begun) l.fn.self l.off l.len l.done l.cursor.chain
      × g.W.Work.holds begun l.work (take l.done (range_at l.off l.fn.self));
}

abbrev pub decreases-loop-done : goal.decreases-loop-done
decreases-loop-done g l = l.len - l.done
