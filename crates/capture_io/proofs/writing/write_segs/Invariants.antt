use Rattle.std.proofs.Common.{◌≡◌, ◌≤◌, ◌++◌}
use Rattle.std.specs.Prelude.{map}
use Rattle.std.specs.Map.Iter.{deref}
use Rattle.mbuf_chain.specs.Chain.{packet_of}
use Rattle.capture_io.proofs.writing.write_segs.Given as goal

abbrev pub invariant-loop-seg : goal.invariant-loop-seg
invariant-loop-seg g l = record {
  written : g.K.Sink.tells → g.K.Sink.written l.sink ≡ g.K.Sink.written l.fn.sink ++ packet_of (map deref l.yielded);
  later : g.K.Sink.faults l.fn.sink ≤ g.K.Sink.faults l.sink;
  steady : g.K.Sink.steady → g.K.Sink.faults l.sink ≡ g.K.Sink.faults l.fn.sink;
}
