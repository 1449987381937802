use denote.Param.Send.{sendable}
use Rattle.std.proofs.Crossing.{crosses}
use Rattle.flight_table.proofs.Crosses.{owner_send}
use Rattle.flight_table.proofs.threads.owner.Goals as goal

pub moved-requires-send-X : goal.moved-requires-send-X
moved-requires-send-X c κs = search (sendable, crosses, owner_send) depth 16
