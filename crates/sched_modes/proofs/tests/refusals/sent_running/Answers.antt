use denote.Param.Send.{sendable}
use Rattle.std.proofs.Crossing.{crosses}
use Rattle.sched_modes.proofs.Crosses.{round_send, size_send, fail_send}
use Rattle.sched_modes.proofs.tests.refusals.sent_running.Goals as goal

pub sent-requires-send-T : goal.sent-requires-send-T
sent-requires-send-T g c κs within = search (sendable, crosses, round_send) depth 12

pub sent-requires-in-Size-send-T : goal.sent-requires-in-Size-send-T
sent-requires-in-Size-send-T g c κs within = search (sendable, crosses, size_send) depth 12

pub sent-requires-in-Fail-send-T : goal.sent-requires-in-Fail-send-T
sent-requires-in-Fail-send-T g c κs within = search (sendable, crosses, fail_send) depth 12
