use Rattle.std.proofs.Common.{◌≡◌, ◌+◌, ◌++◌, length, take, drop, map}
use Rattle.event_adapter.specs.Source.{event_of}
use Rattle.event_adapter.proofs.join.join.Given as goal

abbrev pub invariant-loop-i : goal.invariant-loop-i
invariant-loop-i g l = record {
  cap : l.ops.cap ≡ l.initial.ops.cap;
  rest : l.ops.ops ≡ drop l._i l.initial.ops.ops;
  out_cap : l.out.cap ≡ l.initial.out.cap;
  out : l.out.ops ≡ l.initial.out.ops ++ map (event_of l.kind l.id) (take l._i l.initial.ops.ops);
  count : length l.out.ops ≡ length l.initial.out.ops + l._i;
}
