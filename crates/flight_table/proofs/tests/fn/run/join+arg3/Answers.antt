use denote.Param.Send.{sendable}
use Rattle.std.proofs.Crossing.{crosses}
use Rattle.flight_table.proofs.Crosses.{hand_send}
use Rattle.flight_table.proofs.tests.fn.run.join+arg3.Goals as goal

pub join-requires-send-F : goal.join-requires-send-F
join-requires-send-F g c κs within = search (sendable, crosses, hand_send, c.requires) depth 12
