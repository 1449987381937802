use denote.Param.Send.{sendable}
use Rattle.std.proofs.Crossing.{crosses}
use Rattle.crypto_op.proofs.Crosses.{op_send}
use Rattle.flight_table.proofs.Crosses.{note_send}
use Rattle.flight_table.proofs.threads.operation.Goals as goal

pub moved-requires-send-X : goal.moved-requires-send-X
moved-requires-send-X c κs = search (sendable, crosses, op_send, note_send) depth 16
