use Rattle.std.proofs.Common.{◌≡◌, ◌+◌, ◌*◌, ◌<◌, ◌≤◌}
use Rattle.event_adapter.specs.Adapter.{moved_of}
use Rattle.packet_flow.specs.Forwarding.{IsForwarding, steps_ahead}
use Rattle.packet_flow.specs.Passage.{Before}
use Rattle.packet_flow.proofs.Forwards.{turns_ahead}
use Rattle.packet_flow.proofs.forwarding.run_all.Given as goal

abbrev pub invariant-loop-moved : goal.invariant-loop-moved
invariant-loop-moved g l = record {
  forwarding : (b : Before) (first : g.row.D.Denot) → b.big ≡ l.header.big
      → IsForwarding g.D.Driver l.plan b g.S.Source.tells g.K.Sink.tells first 0 l.fn.passage l.fn.route (g.S.Source.left l.fn.src) (g.K.Sink.written l.fn.out)
      → IsForwarding g.D.Driver l.plan b g.S.Source.tells g.K.Sink.tells first l.stalled l.passage l.route (g.S.Source.left l.src) (g.K.Sink.written l.out);
  patience : l.stalled < 4096 * (1 + (moved_of l.route.adapter).submitted);
  read_later : g.S.Source.faults l.fn.src ≤ g.S.Source.faults l.src;
  write_later : g.K.Sink.faults l.fn.out ≤ g.K.Sink.faults l.out;
  write_steady : g.K.Sink.steady → g.K.Sink.faults l.out ≡ g.K.Sink.faults l.fn.out;
}

abbrev pub decreases-loop-moved : goal.decreases-loop-moved
decreases-loop-moved g l = turns_ahead (steps_ahead g.D.Driver l.passage l.route) l.stalled
