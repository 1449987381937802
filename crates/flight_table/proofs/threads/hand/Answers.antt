use denote.Param.Send.{sendable}
use Rattle.std.proofs.Crossing.{crosses}
use Rattle.flight_table.proofs.Crosses.{hand_send}
use Rattle.flight_table.proofs.threads.hand.Goals as goal

pub moved-requires-send-X : goal.moved-requires-send-X
moved-requires-send-X c κs = search (sendable, crosses, hand_send) depth 16
