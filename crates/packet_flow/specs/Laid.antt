-- The places that slots in memory stand for.
use Rattle.std.specs.Prelude.{ℕ, List, [], ◌∷◌, ◌++◌, Option, Some, None}
use Rattle.packet_plan.specs.Work.{written_view}
use Rattle.packet_flow.specs.declared.mark.Mark.{Mark}
use Rattle.packet_flow.specs.declared.slots.Slot.{Slot}
use Rattle.packet_flow.specs.declared.slots.Slot.TheVariants as slot
use Rattle.packet_flow.specs.Seats.{Seat, Open, Ready}
use Rattle.packet_flow.specs.Runs.{seats_in}

abbrev pub seats_of : Slot → List Seat
seats_of (slot.Open n kept) = Open n kept ∷ []
seats_of (slot.Ready n w) = Ready n (written_view w) None ∷ []
seats_of (slot.Waits run) = seats_in run

abbrev pub seats_if : Option Slot → List Seat
seats_if None = []
seats_if (Some s) = seats_of s

unfoldable pub laid_out : List Slot → List Seat
laid_out [] = []
laid_out (s ∷ ss) = seats_of s ++ laid_out ss

abbrev pub first_number : List Mark → ℕ
first_number [] = 0
first_number (m ∷ ms) = m.number

-- the number of a slot's first packet
abbrev pub slot_number : Slot → ℕ
slot_number (slot.Open n kept) = n
slot_number (slot.Ready n w) = n
slot_number (slot.Waits run) = first_number run.marks.items
