use Rattle.std.proofs.Common.{◌≡◌, take, drop, map}
use Rattle.std.specs.List.{All}
use Rattle.std.specs.VecDeque.{deque_len, deque_capacity}
use Rattle.crypto_op.specs.Op.{entry_of, IsDone}
use Rattle.sym_engine.proofs.moves.answer_front.Given as goal

abbrev pub invariant-loop-i : goal.invariant-loop-i
invariant-loop-i g l = record {
  entries : map entry_of (take l.i l.queue.items) ≡ map entry_of (take l.i l.initial.queue.items);
  done : All (IsDone l.table) (take l.i l.queue.items);
  rest : drop l.i l.queue.items ≡ drop l.i l.initial.queue.items;
  len : deque_len l.queue ≡ deque_len l.initial.queue;
  capacity : deque_capacity l.queue ≡ deque_capacity l.initial.queue;
}
