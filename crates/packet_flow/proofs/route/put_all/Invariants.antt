use Rattle.std.proofs.Common.{◌≡◌, ◌+◌, ◌≤◌, ◌++◌, length, map}
use Rattle.std.specs.List.{All}
use Rattle.crypto_op.specs.Op.{IsFresh}
use Rattle.packet_flow.proofs.RouteRuns.{new_event}
use Rattle.packet_flow.proofs.route.put_all.Given as goal

abbrev pub invariant-loop-op : goal.invariant-loop-op
invariant-loop-op l = record {
  fresh : All IsFresh l.burst.ops;
  burst_cap : l.burst.cap ≡ l.fn.burst.cap;
  room : length l.burst.ops + (length l.port.inbox.items + length l.port.sent.items) ≤ l.port.cap;
  inbox : l.port.inbox.items ++ map new_event l.burst.ops ≡ l.fn.port.inbox.items ++ map new_event l.fn.burst.ops;
  sent : l.port.sent.items ≡ l.fn.port.sent.items;
  cap : l.port.cap ≡ l.fn.port.cap;
  takes : l.port.takes ≡ l.fn.port.takes;
  sends : l.port.sends ≡ l.fn.port.sends;
}

abbrev pub decreases-loop-op : goal.decreases-loop-op
decreases-loop-op l = length l.burst.ops
