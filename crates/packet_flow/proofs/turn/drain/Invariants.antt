use Rattle.std.proofs.Common.{◌≡◌, ◌++◌, ◌+◌, ◌≤◌, List, length}
use Rattle.crypto_op.specs.declared.spec.Card.{Card}
use Rattle.crypto_op.specs.Op.{Entry}
use Rattle.dev_core.specs.Calls.{Call, Ran}
use Rattle.packet_flow.specs.Turns.{OnlyAsked}
use Rattle.packet_flow.specs.Numbered.{Numbered}
use Rattle.packet_flow.specs.Seats.{AllIn}
use Rattle.packet_flow.specs.Slots.{StandFor}
use Rattle.packet_flow.proofs.turn.drain.Given as goal

abbrev pub invariant-loop-alloc : goal.invariant-loop-alloc
invariant-loop-alloc g l = record {
  back : l.back ≡ l.fn.back;
  size : l.size ≡ l.fn.back.cap;
  count : l.all + length (g.D.Driver.held l.dev) ≡ length (g.D.Driver.held l.fn.dev);
  stalls : g.D.Driver.stalls l.fn.dev ≤ g.D.Driver.stalls l.dev;
  sessions : g.D.Driver.sessions l.dev ≡ g.D.Driver.sessions l.fn.dev;
  enqueued : (g.D.Driver.stats l.dev).enqueued ≡ (g.D.Driver.stats l.fn.dev).enqueued;
  log : g.D.Driver.log l.dev ≡ g.D.Driver.log l.fn.dev;
  calls : (first : _) (past : List Call) → Ran g.D.Driver.does first past l.fn.dev → (now : List Call) × Ran g.D.Driver.does first now l.dev × OnlyAsked past now;
  follows : g.D.Driver.follows l.fn.dev l.dev;
  stand : (ps : List Numbered) (rest : List (Entry Card)) → StandFor l.plan ps l.fn.slots (g.D.Driver.held l.fn.dev ++ rest)
      → StandFor l.plan ps l.slots (g.D.Driver.held l.dev ++ rest);
  order : AllIn l.header.big l.fn.slots → AllIn l.header.big l.slots;
}

abbrev pub decreases-loop-alloc : goal.decreases-loop-alloc
decreases-loop-alloc g l = length (g.D.Driver.held l.dev)
