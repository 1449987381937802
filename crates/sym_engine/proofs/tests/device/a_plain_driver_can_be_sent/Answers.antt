use denote.Param.Send.{sendable}
use Rattle.std.proofs.Crossing.{crosses}
use Rattle.sym_engine.proofs.Crosses.{plain_send}
use Rattle.sym_engine.proofs.tests.device.a_plain_driver_can_be_sent.Goals as goal

pub sent-driver-requires-send-T : goal.sent-driver-requires-send-T
sent-driver-requires-send-T g c κs = search (sendable, crosses, plain_send) depth 12
