use Rattle.std.proofs.Common.{◌≡◌, ◌+◌, ◌*◌, ◌<◌, ◌≤◌, List, length}
use Rattle.dev_core.specs.Calls.{Call, Ran}
use Rattle.packet_flow.specs.Turns.{IsAt}
use Rattle.crypto_model.specs.Counts.{capped}
use Rattle.packet_flow.specs.Passage.{IsUnderway, before, outside}
use Rattle.packet_flow.proofs.Turning.{turns_left}
use Rattle.packet_flow.proofs.flow.transfer.Given as goal

abbrev pub invariant-loop-moved : goal.invariant-loop-moved
invariant-loop-moved g l = record {
  underway : (past : List Call) × IsAt past l.passage.burst.ops × Ran g.D.Driver.does l.fn.dev past l.dev
      × IsUnderway l.plan (before l.header.big (g.S.Source.left l.fn.src) (g.K.Sink.written l.fn.out) (g.D.Driver.log l.fn.dev) l.sizes.burst) g.S.Source.tells g.K.Sink.tells l.passage
      (outside (g.S.Source.left l.src) (g.K.Sink.written l.out) (g.D.Driver.held l.dev) (g.D.Driver.stats l.dev) (g.D.Driver.log l.dev) past);
  sessions : g.D.Driver.sessions l.dev ≡ g.D.Driver.sessions l.fn.dev;
  follows : g.D.Driver.follows l.fn.dev l.dev;
  later : g.D.Driver.stalls l.fn.dev ≤ g.D.Driver.stalls l.dev;
  stalls : capped (g.D.Driver.stalls l.fn.dev + l.stalled) ≤ g.D.Driver.stalls l.dev;
  patience : l.stalled < 4096 * (1 + (g.D.Driver.stats l.dev).enqueued);
  read_later : g.S.Source.faults l.fn.src ≤ g.S.Source.faults l.src;
  write_later : g.K.Sink.faults l.fn.out ≤ g.K.Sink.faults l.out;
  write_steady : g.K.Sink.steady → g.K.Sink.faults l.out ≡ g.K.Sink.faults l.fn.out;
}

abbrev pub decreases-loop-moved : goal.decreases-loop-moved
decreases-loop-moved g l = turns_left (length (g.D.Driver.held l.dev)) (g.D.Driver.stats l.dev).enqueued l.stalled
