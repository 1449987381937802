-- What a scheduler that runs has besides its devices may cross threads, with cargos that may.
use denote.Enum.Declared.{shape}
use denote.RattleType.{RattleType}
use denote.Param.Send.{IsSend, sendable, view_send, enum_send}
use denote.Param.SendFields.{as_row_send, declared_send, variants_send}
use Rattle.std.proofs.Crossing.{crosses, Deque-send}
use Rattle.std.specs.contracts.alloc.Global as heap
use Rattle.std.specs.contracts.collections.VecDeque as deque
use Rattle.std.specs.contracts.impls.GlobalAllocator.TheImpl.{ghosts}
use Rattle.std.specs.contracts.option.Option as option
use Rattle.crypto_op.specs.contracts.burst.OpBurst as burst
use Rattle.crypto_op.specs.contracts.burst.OpBurst.TheInside as burst_inside
use Rattle.crypto_op.specs.contracts.op.Op as op
use Rattle.crypto_op.proofs.Crosses.{op_send}
use Rattle.dev_core.specs.declared.driver.Driver.{Ghosts}
use Rattle.sched_core.specs.contracts.ring.OrderRing as ring
use Rattle.sched_core.specs.contracts.ring.OrderRing.TheInside as ring_inside
use Rattle.sched_core.specs.contracts.ring.Slot as slot
use Rattle.sym_engine.proofs.Crosses.{table_send, table_sync}
use Rattle.sched_modes.specs.contracts.fail.FailOver as fail
use Rattle.sched_modes.specs.contracts.pool.Pool as pool
use Rattle.sched_modes.specs.contracts.round.RoundRobin as round
use Rattle.sched_modes.specs.contracts.size.PacketSize as size

burst_send : (C : RattleType) → IsSend C → IsSend (burst.the_row C)
burst_send C c =
    view_send _ _ _ _ _ (declared_send (burst_inside.the_type C)
    (search (sendable, crosses) depth 12, (as_row_send (deque.the_field (op.the_row C) heap.the_row ghosts) (Deque-send (op.the_row C) (op_send C c)), tt)))

slot_send : (C : RattleType) → IsSend C → IsSend (slot.the_row C)
slot_send C c =
    let inside : IsSend (op.the_row C) = op_send C c in
    variants_send (slot.enum C) ((search (sendable, crosses) depth 12, tt), ((search (sendable, crosses, inside) depth 12, tt), tt))

ring_send : (C : RattleType) → IsSend C → IsSend (ring.the_row C)
ring_send C c =
    view_send _ _ _ _ _ (declared_send (ring_inside.the_type C) (
      search (sendable, crosses) depth 12,
      (
        search (sendable, crosses) depth 12,
        (as_row_send (deque.the_field (slot.the_row C) heap.the_row ghosts) (Deque-send (slot.the_row C) (slot_send C c)), tt),
      ),
    ))

module _ (C D : RattleType) (m : Ghosts D.Denot C.Denot) (c : IsSend C) (d : IsSend D) where
  pool_send : IsSend (pool.the_row C D m)
  pool_send =
      let ordering = ring_send C c in let scratch = burst_send C c in
      declared_send (pool.the_type C D m) (
        search (sendable, crosses, d) depth 12,
        (
          search (sendable, crosses) depth 12,
          (
            search (sendable, crosses) depth 12,
            (
              as_row_send (option.the_field (ring.the_row C)) (enum_send (shape (option.the_type (ring.the_row C))) (tt, ((ordering, tt), tt))),
              (search (sendable, crosses, scratch) depth 12, (search (sendable, crosses, table_send, table_sync) depth 12, (search (sendable, crosses) depth 12, tt))),
            ),
          ),
        ),
      )

  pub round_send : IsSend (round.the_row C D m)
  round_send = let inside = pool_send in declared_send (round.the_type C D m) (search (sendable, crosses, inside) depth 12, (search (sendable, crosses) depth 12, tt))

  pub size_send : IsSend (size.the_row C D m)
  size_send = let inside = pool_send in declared_send (size.the_type C D m) (search (sendable, crosses, inside) depth 12, tt)

  pub fail_send : IsSend (fail.the_row C D m)
  fail_send = let inside = pool_send in declared_send (fail.the_type C D m) (search (sendable, crosses, inside) depth 12, tt)
