use Rattle.std.proofs.Common.{◌≡◌, ◌<◌, ◌≤◌, ◌+◌, ◌^◌, List, length}
use Rattle.crypto_op.specs.declared.spec.Card.{Card}
use Rattle.crypto_op.specs.Op.{Entry}
use Rattle.session_file.specs.declared.plan.Plan.{Plan}
use Rattle.packet_plan.specs.Answered.{Answered}
use Rattle.packet_flow.specs.Counts.{counts_of}
use Rattle.packet_flow.specs.Laid.{laid_out}
use Rattle.packet_flow.specs.Numbered.{Numbered}
use Rattle.packet_flow.specs.Seats.{AllIn}
use Rattle.packet_flow.specs.Slots.{StandFor}
use Rattle.packet_flow.specs.Writing.{Appends, HasWritten}
use Rattle.packet_flow.proofs.slots.Slots.write_ready.Given as goal

abbrev pub invariant-loop-slot : goal.invariant-loop-slot
invariant-loop-slot g l = record {
  written : (plan : Plan) (ps : List Numbered) (entries : List (Entry Card)) → StandFor plan ps l.fn.self entries
      → HasWritten plan ps entries (laid_out l.self-inside.slots.items) l.fn.counts l.counts (Appends plan l.header.big g.K.Sink.tells (g.K.Sink.written l.fn.out) (g.K.Sink.written l.out));
  few : (answers : List Answered) × (l.counts ≡ counts_of answers) × (length answers + length (laid_out l.self-inside.slots.items) < 2 ^ 32);
  order : AllIn l.header.big (laid_out l.self-inside.slots.items);
  later : g.K.Sink.faults l.fn.out ≤ g.K.Sink.faults l.out;
  steady : g.K.Sink.steady → g.K.Sink.faults l.out ≡ g.K.Sink.faults l.fn.out;
}

abbrev pub decreases-loop-slot : goal.decreases-loop-slot
decreases-loop-slot g l = length (laid_out l.self-inside.slots.items)
