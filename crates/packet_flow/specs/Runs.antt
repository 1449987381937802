-- The places that a run stands for.
use Rattle.std.specs.Prelude.{List, [], map, Option, Some, None}
use Rattle.packet_flow.specs.declared.run.Run.{Run}
use Rattle.packet_flow.specs.Marks.{seat_of_mark}
use Rattle.packet_flow.specs.Seats.{Seat}

abbrev pub seats_in : Run → List Seat
seats_in run = map (seat_of_mark run.big) run.marks.items

abbrev pub seats_behind : Option Run → List Seat
seats_behind None = []
seats_behind (Some run) = seats_in run
