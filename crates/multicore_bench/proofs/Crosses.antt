-- An owner may cross threads.
use denote.Param.Send.{IsSend, IsSync, sendable}
use denote.Param.SendFields.{as_row_send, declared_send}
use denote.RattleType.{RattleType}
use denote.Struct.Field.{row_field}
use denote.Struct.Tuple.{TupleAt, type_at}
use mathlib.Core.List.{[], ◌∷◌}
use mir.Syntax.{Sym}
use Rattle.std.proofs.Crossing.{crosses}
use Rattle.crypto_op.proofs.Crosses.{op_send}
use Rattle.dev_core.proofs.Crosses.{stall_send}
use Rattle.dev_core.specs.contracts.stall.StallDriver as stall
use Rattle.flight_table.proofs.Crosses.{note_send}
use Rattle.flight_table.specs.contracts.book.Note as note
use Rattle.sched_multicore.proofs.Crosses.{queue_send}
use Rattle.sym_engine.proofs.Crosses.{plain_send}
use Rattle.sym_engine.specs.contracts.plain.PlainDriver as plain
use Rattle.multicore_bench.specs.contracts.crew.Signs as signs
use Rattle.multicore_bench.specs.contracts.owner.Owner as owner

pub owner_send : IsSend owner.the_row
owner_send =
    declared_send owner.the_type (
      search (sendable, crosses, queue_send) depth 16,
      (
        search (sendable, crosses) depth 12,
        (
          search (sendable, crosses) depth 16,
          (
            search (sendable, crosses, op_send) depth 16,
            (search (sendable, crosses, op_send) depth 16, (search (sendable, crosses) depth 12, (search (sendable, crosses) depth 12, tt))),
          ),
        ),
      ),
    )

pub signs_sync : IsSync signs.the_row
signs_sync = search (sendable, crosses) depth 20

pub device_send : IsSend (stall.the_row (plain.the_row note.the_row))
device_send = stall_send _ (plain_send _ note_send)

-- what a closure has captured, where that is three things
pub captured_send : (name : Sym) (A B C : RattleType) → IsSend A → IsSend B → IsSend C → IsSend (TupleAt name (A ∷ B ∷ C ∷ []))
captured_send name A B C a b c =
    declared_send (type_at name (A ∷ B ∷ C ∷ [])) (as_row_send (row_field A) a, (as_row_send (row_field B) b, (as_row_send (row_field C) c, tt)))
