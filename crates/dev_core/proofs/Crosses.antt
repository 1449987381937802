-- A device that stalls may cross threads as the device below may.
use denote.RattleType.{RattleType}
use denote.Struct.Field.{row_field}
use denote.Param.Send.{IsSend, sendable}
use denote.Param.SendFields.{declared_send, as_row_send}
use Rattle.std.proofs.Crossing.{crosses}
use Rattle.dev_core.specs.contracts.limits.LimitedCalls as limited
use Rattle.dev_core.specs.contracts.over.Over as over
use Rattle.dev_core.specs.contracts.stall.StallDriver as stall

limited_send : IsSend limited.the_row
limited_send = search (sendable, crosses) depth 20

over_send : (D : RattleType) → IsSend D → IsSend (over.the_row D)
over_send D d = declared_send (over.the_type D) (as_row_send (row_field D) d, (search (sendable, crosses) depth 12, (search (sendable, crosses) depth 12, tt)))

pub stall_send : (D : RattleType) → IsSend D → IsSend (stall.the_row D)
stall_send D d =
    let inside = over_send D d in declared_send (stall.the_type D) (search (sendable, crosses, inside) depth 12, (search (sendable, crosses, limited_send) depth 12, (search (sendable, crosses, limited_send) depth 12, tt)))
