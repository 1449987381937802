use Rattle.std.proofs.Common.{◌≡◌, ◌+◌, ◌++◌, take, drop}
use Rattle.std.specs.VecDeque.{deque_len, deque_capacity}
use Rattle.crypto_op.proofs.moves.move_some.Given as goal

abbrev pub invariant-loop-i : goal.invariant-loop-i
invariant-loop-i g l = record {
  rest : l.from.items ≡ drop l._i l.initial.from.items;
  items : l.to.items ≡ l.initial.to.items ++ take l._i l.initial.from.items;
  left : deque_len l.from + l._i ≡ deque_len l.initial.from;
  len : deque_len l.to ≡ deque_len l.initial.to + l._i;
  from_capacity : deque_capacity l.from ≡ deque_capacity l.initial.from;
  capacity : deque_capacity l.to ≡ deque_capacity l.initial.to;
}
