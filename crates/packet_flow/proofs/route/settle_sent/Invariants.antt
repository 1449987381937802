use Rattle.std.proofs.Common.{◌≡◌, ◌++◌, List, map, length}
use Rattle.std.specs.List.{All}
use Rattle.crypto_op.specs.declared.spec.Card.{Card}
use Rattle.crypto_op.specs.Op.{Entry}
use Rattle.event_adapter.specs.declared.event.EventKind.TheVariants as kind
use Rattle.event_adapter.specs.Source.{IsAnswer, entry_in}
use Rattle.packet_plan.specs.Asked.{sessions_of}
use Rattle.packet_flow.specs.Numbered.{Numbered}
use Rattle.packet_flow.specs.Seats.{AllIn}
use Rattle.packet_flow.specs.Slots.{StandFor}
use Rattle.packet_flow.proofs.route.settle_sent.Given as goal

abbrev pub invariant-loop-event : goal.invariant-loop-event
invariant-loop-event g l = record {
  answers : All (IsAnswer kind.Forward 0 (sessions_of l.plan)) l.port.sent.items;
  stand : (ps : List Numbered) (rest : List (Entry Card)) → StandFor l.plan ps l.fn.slots (map entry_in l.fn.port.sent.items ++ rest)
      → StandFor l.plan ps l.slots (map entry_in l.port.sent.items ++ rest);
  order : AllIn l.header.big l.fn.slots → AllIn l.header.big l.slots;
  inbox : l.port.inbox.items ≡ l.fn.port.inbox.items;
  cap : l.port.cap ≡ l.fn.port.cap;
  takes : l.port.takes ≡ l.fn.port.takes;
  sends : l.port.sends ≡ l.fn.port.sends;
}

abbrev pub decreases-loop-event : goal.decreases-loop-event
decreases-loop-event g l = length l.port.sent.items
