use denote.Param.Send.{sendable}
use Rattle.std.proofs.Crossing.{crosses}
use Rattle.crypto_op.proofs.Crosses.{op_send}
use Rattle.flight_table.proofs.Crosses.{note_send, over, table_send, table_sync}
use Rattle.flight_table.proofs.threads.deck.Goals as goal

pub shared-requires-sync-X : goal.shared-requires-sync-X
shared-requires-sync-X c κs = search (sendable, crosses, op_send, note_send, over, table_send, table_sync) depth 16
