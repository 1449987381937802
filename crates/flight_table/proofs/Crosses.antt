-- What may cross threads.
use denote.RattleType.{RattleType}
use denote.Struct.Field.{row_field}
use denote.Param.Send.{IsSend, IsSync, Frees, sendable, view_send}
use denote.Param.SendFields.{declared_send, declared_sync, as_row_send, as_row_sync}
use Rattle.std.proofs.Crossing.{crosses}
use Rattle.atomic_table.proofs.badge.Badge.TheSendSync as badge
use Rattle.atomic_table.proofs.shared.Seat.TheSendSync as seat
use Rattle.atomic_table.proofs.shared.Shared.TheSendSync as shared
use Rattle.atomic_table.specs.contracts.owned.Table as table
use Rattle.atomic_table.specs.declared.shared.TableRule.{Ghosts as Rule}
use Rattle.atomic_table.proofs.send_lease.SendLease.TheSendSync as lease
use Rattle.std.specs.declared.alloc.Allocator.{Ghosts as Alloc}
use Rattle.crypto_op.proofs.Crosses.{op_send}
use Rattle.flight_table.specs.contracts.hand.Hand as hand
use Rattle.flight_table.specs.contracts.owner.Owner as owner
use Rattle.flight_table.specs.contracts.book.Note as note
use Rattle.flight_table.specs.contracts.book.Book as book
use Rattle.flight_table.specs.contracts.book.Book.TheInside as inside

pub note_send : IsSend note.the_row
note_send = search (sendable, crosses, badge.the_send) depth 20

pub ruleset over = (seat.the_send, shared.the_send, shared.the_sync)

pub table_send : (S V K P A : RattleType) (g : Rule P.Denot S.Denot V.Denot K.Denot) (h : Alloc A.Denot) → IsSend S → IsSend A → Frees h h.dealloc_token → IsSend (table.the_row S V K P A g h)
table_send S V K P A g h s a f = declared_send (table.the_type S V K P A g h) (search (sendable, crosses, over, lease.the_send, s, a, f) depth 12, (search (sendable, crosses, over, lease.the_send, s, a, f) depth 12, (search (sendable, crosses, over, lease.the_send, s, a, f) depth 12, (search (sendable, crosses, over, lease.the_send, s, a, f) depth 12, (search (sendable, crosses, over, lease.the_send, s, a, f) depth 12, (as_row_send (row_field A) a, tt))))))

pub table_sync : (S V K P A : RattleType) (g : Rule P.Denot S.Denot V.Denot K.Denot) (h : Alloc A.Denot) → IsSend S → IsSend A → IsSync A → Frees h h.dealloc_token → IsSync (table.the_row S V K P A g h)
table_sync S V K P A g h s a b f = declared_sync (table.the_type S V K P A g h) (search (sendable, crosses, over, lease.the_sync, s, a, b, f) depth 12, (search (sendable, crosses, over, lease.the_sync, s, a, b, f) depth 12, (search (sendable, crosses, over, lease.the_sync, s, a, b, f) depth 12, (search (sendable, crosses, over, lease.the_sync, s, a, b, f) depth 12, (search (sendable, crosses, over, lease.the_sync, s, a, b, f) depth 12, (as_row_sync (row_field A) b, tt))))))

pub book_send : IsSend book.the_row
book_send = view_send _ _ _ _ _ (declared_send inside.the_type (search (sendable, crosses, over, table_send) depth 12, (search (sendable, crosses, over) depth 12, (search (sendable, crosses) depth 12, tt))))

pub hand_send : IsSend hand.the_row
hand_send = search (sendable, crosses, op_send, note_send, over, table_send, table_sync) depth 16

pub owner_send : IsSend owner.the_row
owner_send = search (sendable, crosses, op_send, note_send, over, table_send, table_sync) depth 16
