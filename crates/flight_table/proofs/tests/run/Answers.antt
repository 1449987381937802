use denote.Param.Send.{sendable}
use Rattle.std.proofs.Crossing.{crosses}
use Rattle.flight_table.proofs.Crosses.{owner_send, book_send}
use Rattle.flight_table.proofs.tests.run.Goals as goal

pub join-requires-send-F : goal.join-requires-send-F
join-requires-send-F g c κs within = search (sendable, crosses, owner_send, book_send, c.type_bounds, c.requires) depth 12
