use Rattle.std.proofs.Common.{◌==◌, List, length, ap, ◌∙◌}
use Rattle.packet_flow.specs.Seats.{Seat}
use Rattle.packet_flow.proofs.Rooms.{same_emptiness}
use Rattle.packet_flow.proofs.slots.Slots.is_empty.Goals as goal

pub returns : goal.returns
returns c = c.is_empty.ensures ∙ same_emptiness c.self.inside.slots.items _ c.self.inside.slots.ok.0 ∙ ap (λ (l : List Seat). length l == 0) c.self.view_is
