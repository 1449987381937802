use denote.Param.Send.{sendable}
use Rattle.std.proofs.Crossing.{crosses}
use Rattle.sched_multicore.proofs.Crosses.{worker_send}
use Rattle.sched_multicore.proofs.crossing.worker.Goals as goal

pub moved-requires-send-X : goal.moved-requires-send-X
moved-requires-send-X g c κs = search (sendable, crosses, worker_send, c.type_bounds) depth 12
