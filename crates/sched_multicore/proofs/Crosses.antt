-- A queue pair may cross threads as its cargo may, and a worker as its device may.
use denote.RattleType.{RattleType}
use denote.Struct.Field.{row_field}
use denote.Param.Send.{IsSend, sendable, view_send}
use denote.Param.SendFields.{declared_send, variants_send, as_row_send}
use Rattle.std.proofs.Crossing.{crosses}
use Rattle.crypto_op.proofs.Crosses.{op_send}
use Rattle.crypto_op.specs.contracts.burst.OpBurst as burst
use Rattle.dev_core.specs.declared.driver.Device.{Ghosts as DeviceGhosts}
use Rattle.dev_core.specs.declared.driver.Driver.{Ghosts as DriverGhosts}
use Rattle.sym_engine.proofs.Crosses.{table_send, table_sync}
use Rattle.flight_table.proofs.Crosses.{book_send, hand_send, note_send, owner_send}
use Rattle.flight_table.specs.contracts.book.Note as note
use Rattle.sched_multicore.specs.contracts.carrier.Carrier as carrier
use Rattle.sched_multicore.specs.contracts.place.Trip as trip
use Rattle.sched_multicore.specs.contracts.place.Place as place
use Rattle.sched_multicore.specs.contracts.queue.McQp as queue
use Rattle.sched_multicore.specs.contracts.queue.McQp.TheInside as inside
use Rattle.sched_multicore.specs.contracts.worker.Worker as worker

trip_send : (C : RattleType) → IsSend C → IsSend (trip.the_row C)
trip_send C c = declared_send (trip.the_type C) (as_row_send (row_field C) c, (search (sendable, crosses, op_send, note_send) depth 12, (search (sendable, crosses) depth 12, tt)))

place_send : (C : RattleType) → IsSend C → IsSend (place.the_row C)
place_send C c = variants_send (place.enum C) ((search (sendable, crosses, trip_send, c) depth 12, tt), ((search (sendable, crosses, op_send, c) depth 12, tt), (tt, tt)))

pub queue_send : (C : RattleType) → IsSend C → IsSend (queue.the_row C)
queue_send C c = view_send _ _ _ _ _ (declared_send (inside.the_type C) (
  search (sendable, crosses, book_send) depth 12,
  (
    search (sendable, crosses, owner_send) depth 12,
    (
      search (sendable, crosses, table_send, table_sync) depth 12,
      (
        let p = place_send C c in search (sendable, crosses, p) depth 20,
        (
          search (sendable, crosses) depth 12,
          (
            search (sendable, crosses) depth 12,
            (
              search (sendable, crosses) depth 12,
              (
                search (sendable, crosses) depth 12,
                (
                  search (sendable, crosses) depth 12,
                  (
                    search (sendable, crosses) depth 12,
                    (search (sendable, crosses) depth 12, tt),
                  ),
                ),
              ),
            ),
          ),
        ),
      ),
    ),
  ),
))

burst_send : IsSend (burst.the_row note.the_row)
burst_send = search (sendable, crosses, op_send, note_send) depth 16

carrier_send : IsSend carrier.the_row
carrier_send = search (sendable, crosses, hand_send, burst_send) depth 16

pub worker_send : (D : RattleType) (g : DeviceGhosts D.Denot note.the_row.Denot) (h : DriverGhosts D.Denot note.the_row.Denot) → IsSend D → IsSend (worker.the_row D g h)
worker_send D g h d = declared_send (worker.the_type D g h) (as_row_send (row_field D) d, (carrier_send, (search (sendable, crosses) depth 12, (search (sendable, crosses) depth 12, tt))))
