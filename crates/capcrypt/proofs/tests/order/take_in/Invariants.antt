use Rattle.std.proofs.Common.{◌≡◌, ◌+◌, ◌++◌, take, drop}
use Rattle.std.specs.VecDeque.{deque_len, deque_capacity}
use Rattle.capcrypt.proofs.tests.order.take_in.Given as goal

abbrev pub invariant-loop-i : goal.invariant-loop-i
invariant-loop-i l = record {
  cap : l.burst.cap ≡ l.initial.burst.cap;
  ops : l.burst.ops ≡ drop l._i l.initial.burst.ops;
  items : l.inside.items ≡ l.initial.inside.items ++ take l._i l.initial.burst.ops;
  len : deque_len l.inside ≡ deque_len l.initial.inside + l._i;
  capacity : deque_capacity l.inside ≡ deque_capacity l.initial.inside;
}
