use denote.Param.Send.{sendable}
use Rattle.std.proofs.Crossing.{crosses}
use Rattle.multicore_bench.proofs.Crosses.{device_send}
use Rattle.sched_multicore.proofs.Crosses.{worker_send}
use Rattle.multicore_bench.proofs.crew.fn.run.join+arg3.Goals as goal

pub map_vec-requires-send-J : goal.map_vec-requires-send-J
map_vec-requires-send-J g c = search (sendable, crosses, worker_send, device_send) depth 20
