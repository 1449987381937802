use Rattle.std.proofs.Common.{◌≡◌, ◌+◌, ◌++◌, length, take, drop}
use Rattle.std.specs.VecDeque.{deque_len, deque_capacity}
use Rattle.event_adapter.proofs.mem_port.hand_out.Given as goal

abbrev pub invariant-loop-i : goal.invariant-loop-i
invariant-loop-i g l = record {
  cap : l.out.cap ≡ l.initial.out.cap;
  ops : l.out.ops ≡ l.initial.out.ops ++ take l._i l.initial.queue.items;
  count : length l.out.ops ≡ length l.initial.out.ops + l._i;
  items : l.queue.items ≡ drop l._i l.initial.queue.items;
  len : deque_len l.queue + l._i ≡ deque_len l.initial.queue;
  capacity : deque_capacity l.queue ≡ deque_capacity l.initial.queue;
}
