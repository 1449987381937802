use Rattle.std.proofs.Common.{ap, ◌∙◌}
use Rattle.packet_flow.specs.Laid.{laid_out}
use Rattle.packet_flow.proofs.Rooms.{laid-none}
use Rattle.packet_flow.proofs.slots.Slots.new.Goals as goal

pub returns : goal.returns
returns c = ap laid_out c.new.ensures.items ∙ laid-none
