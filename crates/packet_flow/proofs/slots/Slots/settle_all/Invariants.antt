use Rattle.std.proofs.Common.{◌≡◌, ◌++◌, List, map, length}
use Rattle.std.specs.List.{All}
use Rattle.crypto_op.specs.declared.spec.Card.{Card}
use Rattle.crypto_op.specs.Op.{Entry, IsDone, entry_of}
use Rattle.packet_plan.specs.Asked.{sessions_of}
use Rattle.packet_flow.specs.Numbered.{Numbered}
use Rattle.packet_flow.specs.Seats.{AllIn}
use Rattle.packet_flow.specs.Slots.{StandFor}
use Rattle.packet_flow.proofs.slots.Slots.settle_all.Given as goal

abbrev pub invariant-loop-op : goal.invariant-loop-op
invariant-loop-op g l = record {
  done : All (IsDone (sessions_of l.plan)) l.back.ops;
  cap : l.back.cap ≡ l.fn.back.cap;
  stand : (ps : List Numbered) (rest : List (Entry Card)) → StandFor l.plan ps l.fn.self (map entry_of l.fn.back.ops ++ rest)
      → StandFor l.plan ps l.self (map entry_of l.back.ops ++ rest);
  order : AllIn l.header.big l.fn.self → AllIn l.header.big l.self;
}

abbrev pub decreases-loop-op : goal.decreases-loop-op
decreases-loop-op g l = length l.back.ops
