-- What the packets of a run stand for.
use Rattle.std.specs.Prelude.{ℕ, Bool, List, Some}
use Rattle.packet_plan.specs.Answered.{Answered}
use Rattle.packet_plan.specs.Work.{written_view}
use Rattle.packet_flow.specs.declared.mark.Mark.{Mark}
use Rattle.packet_flow.specs.Flowed.{answer_bytes}
use Rattle.packet_flow.specs.Seats.{Seat, Ready}

abbrev pub answer_of : Mark → Answered
answer_of m = written_view m.told.value

abbrev pub mark_len : Mark → ℕ
mark_len m = m.len

abbrev pub mark_bytes : Bool → Mark → List ℕ
mark_bytes big m = answer_bytes big (answer_of m)

abbrev pub seat_of_mark : Bool → Mark → Seat
seat_of_mark big m = Ready m.number (answer_of m) (Some big)
