use denote.Param.Send.{IsSend, sendable}
use denote.Param.SendFields.{variants_send}
use Rattle.std.proofs.Crossing.{crosses}
use Rattle.mbuf_chain.proofs.Crosses.{mbuf_send}
use Rattle.crypto_op.proofs.Crosses.{op_send}
use Rattle.crypto_op.specs.contracts.op.Op as op
use Rattle.crypto_op.specs.contracts.spec.Card as card
use Rattle.packet_plan.specs.contracts.written.Kept as kept
use Rattle.packet_plan.specs.contracts.written.Work as work
use Rattle.packet_plan.specs.contracts.written.Written as written
use Rattle.packet_plan.proofs.tests.plans_and_what_is_kept_of_records_go_to_other_threads.Goals as goal

kept_send : IsSend kept.the_row
kept_send = search (sendable, crosses) depth 20

written_send : IsSend written.the_row
written_send = search (sendable, crosses, mbuf_send) depth 20

carried_send : IsSend (op.the_row card.the_row)
carried_send = op_send card.the_row (search (sendable, crosses) depth 12)

work_send : IsSend work.the_row
work_send = variants_send work.enum ((search (sendable, crosses, written_send) depth 12, tt), ((search (sendable, crosses, kept_send) depth 12, (search (sendable, crosses, carried_send) depth 12, tt)), tt))

pub can_be_sent-requires-4-send-T : goal.can_be_sent-requires-4-send-T
can_be_sent-requires-4-send-T c κs = search (sendable, crosses, work_send) depth 20
