-- A plain driver may cross threads, with cargos that may.
use denote.RattleType.{RattleType}
use denote.Param.Send.{IsSend, IsSync, sendable}
use denote.Param.SendFields.{declared_send, as_row_send}
use Rattle.std.proofs.Crossing.{crosses, Arc-send, Deque-send}
use Rattle.std.specs.contracts.alloc.Global as heap
use Rattle.std.specs.contracts.impls.GlobalAllocator.TheImpl.{ghosts}
use Rattle.std.specs.contracts.sync.Arc as arc
use Rattle.std.specs.contracts.collections.VecDeque as deque
use Rattle.sym_session.specs.contracts.table.SessionTable as table
use Rattle.crypto_op.specs.contracts.op.Op as op
use Rattle.crypto_op.proofs.Crosses.{op_send}
use Rattle.sym_engine.specs.contracts.plain.PlainDriver as plain

pub table_send : IsSend table.the_row
table_send = search (sendable, crosses) depth 40 fits 30000

pub table_sync : IsSync table.the_row
table_sync = search (sendable, crosses) depth 40 fits 30000

pub plain_send : (C : RattleType) → IsSend C → IsSend (plain.the_row C)
plain_send C c =
    declared_send (plain.the_type C) (
      as_row_send (arc.the_field table.the_row heap.the_row ghosts) (Arc-send table.the_row table_send table_sync),
      (
        search (sendable, crosses) depth 12,
        (
          as_row_send (deque.the_field (op.the_row C) heap.the_row ghosts) (Deque-send (op.the_row C) (op_send C c)),
          (search (sendable, crosses) depth 12, tt),
        ),
      ),
    )
