use Rattle.std.proofs.Common.{◌≡◌, ◌≤◌}
use Rattle.packet_flow.specs.Filling.{left_to_begin}
use Rattle.packet_flow.specs.Passage.{Before, IsUnderway, Outside}
use Rattle.packet_flow.proofs.filling.fill.Given as goal

abbrev pub invariant-loop-passage : goal.invariant-loop-passage
invariant-loop-passage g l = record {
  underway : (b : Before) (o : Outside) → b.big ≡ l.header.big → o.left ≡ g.S.Source.left l.fn.src → o.written ≡ g.K.Sink.written l.fn.out
      → IsUnderway l.plan b g.S.Source.tells g.K.Sink.tells l.fn.passage o
      → IsUnderway l.plan b g.S.Source.tells g.K.Sink.tells l.passage (record o { left = g.S.Source.left l.src; written = g.K.Sink.written l.out });
  read_later : g.S.Source.faults l.fn.src ≤ g.S.Source.faults l.src;
  write_later : g.K.Sink.faults l.fn.out ≤ g.K.Sink.faults l.out;
  write_steady : g.K.Sink.steady → g.K.Sink.faults l.out ≡ g.K.Sink.faults l.fn.out;
}

abbrev pub decreases-loop-passage : goal.decreases-loop-passage
decreases-loop-passage g l = left_to_begin l.passage
