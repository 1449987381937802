use Rattle.std.proofs.Common.{◌≡◌, ◌+◌, ◌++◌, take, drop}
use Rattle.std.specs.VecDeque.{deque_len, deque_capacity}
use Rattle.event_adapter.proofs.mem_port.hand_in.Given as goal

abbrev pub invariant-loop-i : goal.invariant-loop-i
invariant-loop-i g l = record {
  cap : l.burst.cap ≡ l.initial.burst.cap;
  ops : l.burst.ops ≡ drop l._i l.initial.burst.ops;
  items : l.queue.items ≡ l.initial.queue.items ++ take l._i l.initial.burst.ops;
  len : deque_len l.queue ≡ deque_len l.initial.queue + l._i;
  capacity : deque_capacity l.queue ≡ deque_capacity l.initial.queue;
}
