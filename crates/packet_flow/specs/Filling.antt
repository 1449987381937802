-- How records are begun.
use Rattle.std.specs.Prelude.{◌≡◌, ◌+◌, ◌*◌, ◌-◌, ◌^◌, ◌++◌, ◌∷◌, ℕ, Bool, List, [], length, Option, Some, None, Result, Ok, Err}
use Rattle.crypto_op.specs.declared.spec.Card.{Card}
use Rattle.crypto_op.specs.declared.op.Op.{Op}
use Rattle.crypto_op.specs.Burst.{Burst}
use Rattle.dev_core.specs.Burst.{with_ops}
use Rattle.session_file.specs.declared.plan.Plan.{Plan}
use Rattle.packet_plan.specs.Work.{IsBegun}
use Rattle.packet_plan.specs.declared.written.Work.{Work}
use Rattle.capture_io.specs.declared.header.ReadStop.{ReadStop}
use Rattle.capture_io.specs.declared.header.ReadStop.TheVariants.{Fault, OutOfMemory}
use Rattle.packet_flow.specs.declared.flow.FlowEnd.{FlowEnd}
use Rattle.packet_flow.specs.declared.window.Packet.{Packet}
use Rattle.packet_flow.specs.Window.{Ahead}
use Rattle.packet_flow.specs.declared.passage.Passage.{Passage}
use Rattle.packet_flow.specs.Seats.{Seat, IsIn}
use Rattle.packet_flow.specs.Numbered.{Numbered}
use Rattle.packet_flow.specs.Slots.{ops_of, seat_for}

-- The packet got the next place, and the burst its operation, if it needs one. Before, i operations were made, and now i'.
pub record AddsSlot (plan : Plan) (big : Bool) (p : Numbered) (i i' : ℕ) (ss ss' : List Seat) (old new : Burst (Op Card)) : Type 0 where
  pub work : Work
  pub order : Option Bool
  pub in_order : IsIn big (seat_for p.number work order)
  pub begun : IsBegun plan p.number i p.rec work
  pub count : i' ≡ i + length (ops_of work)
  pub slots : ss' ≡ ss ++ seat_for p.number work order ∷ []
  pub burst : new ≡ with_ops (ops_of work) old

-- A measure of what is left to begin: records that may still be read count twice, and the end of reading once.
abbrev pub open_end : Option ReadStop → ℕ
open_end None = 1
open_end (Some stop) = 0

abbrev pub left_ahead : Ahead → ℕ
left_ahead w = 2 * (2 ^ 32 - w.place.records) + length w.waiting + open_end w.stop

abbrev pub left_to_begin : Passage → ℕ
left_to_begin p = left_ahead p.window

-- A fault or want of memory ends the flow. At any other stop there is no packet more.
abbrev pub StopsFlow : ReadStop → Result (Option Packet) FlowEnd → Type 0
StopsFlow Fault result = result ≡ Err (FlowEnd.Stopped Fault)
StopsFlow OutOfMemory result = result ≡ Err FlowEnd.OutOfMemory
StopsFlow _ result = result ≡ Ok None
