-- Operations may cross threads, with a cargo that may.
use denote.RattleType.{RattleType}
use denote.Struct.Field.{row_field}
use denote.Param.Send.{IsSend, sendable}
use denote.Param.SendFields.{declared_send, as_row_send}
use Rattle.std.proofs.Crossing.{crosses}
use Rattle.crypto_op.specs.contracts.op.Op as op
use Rattle.crypto_op.specs.contracts.spec.OpSpec as spec
use Rattle.mbuf_chain.proofs.Crosses.{mbuf_send}

spec_send : IsSend spec.the_row
spec_send = search (sendable, crosses) depth 20

pub op_send : (C : RattleType) → IsSend C → IsSend (op.the_row C)
op_send C c =
    declared_send (op.the_type C) (search (sendable, crosses, spec_send) depth 12, (search (sendable, crosses) depth 12, (search (sendable, crosses, mbuf_send) depth 12, (as_row_send (row_field C) c, (search (sendable, crosses) depth 12, (search (sendable, crosses) depth 12, tt))))))
