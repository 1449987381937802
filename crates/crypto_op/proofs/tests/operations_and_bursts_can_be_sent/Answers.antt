use denote.Param.Send.{sendable}
use Rattle.std.proofs.Crossing.{crosses}
use Rattle.crypto_op.proofs.Crosses.{op_send}
use Rattle.crypto_op.proofs.tests.operations_and_bursts_can_be_sent.Goals as goal

pub sent-requires-send-T : goal.sent-requires-send-T
sent-requires-send-T g c κs = search (sendable, crosses, op_send) depth 20

pub sent-burst-requires-send-T : goal.sent-burst-requires-send-T
sent-burst-requires-send-T g c κs = search (sendable, crosses, op_send) depth 20
