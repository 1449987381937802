use Rattle.std.proofs.Common.{◌≡◌, []}
use Rattle.std.specs.Arc.{arc_value}
use Rattle.flight_table.specs.View.{opened}
use Rattle.flight_table.specs.Call.{hands_of}
use Rattle.flight_table.proofs.flight.Flight.open.Given as goal

abbrev pub invariant-loop-worker : goal.invariant-loop-worker
invariant-loop-worker l = record {
  table : l.seat.table_id ≡ (arc_value l.deck).shared.table_id;
  words : l.seat.table_id.words ≡ l.slots;
  berths : l.seat.table_id.slots ≡ l.slots;
  view : l.seat.me ≡ (opened l.book l.worker, []);
  hands : l.hands.items ≡ hands_of l.seat.table_id l.slots l.book l.worker;
}
