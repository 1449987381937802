use denote.Param.Send.{sendable}
use Rattle.std.proofs.Crossing.{crosses}
use Rattle.sched_multicore.proofs.Crosses.{queue_send}
use Rattle.sched_multicore.proofs.crossing.queue_pair.Goals as goal

pub moved-requires-send-X : goal.moved-requires-send-X
moved-requires-send-X g c κs = search (sendable, crosses, queue_send) depth 16
