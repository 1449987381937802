use denote.Param.Send.{sendable}
use Rattle.std.proofs.Crossing.{crosses}
use Rattle.sym_engine.proofs.Crosses.{plain_send}
use Rattle.sched_modes.proofs.tests.refusals.a_scheduler_can_be_sent_whether_it_runs_or_not.Goals as goal

pub sent_running-requires-send-D : goal.sent_running-requires-send-D
sent_running-requires-send-D g c κs = search (sendable, crosses, plain_send) depth 12

pub sent_stopped-requires-send-D : goal.sent_stopped-requires-send-D
sent_stopped-requires-send-D g c κs = search (sendable, crosses, plain_send) depth 12
