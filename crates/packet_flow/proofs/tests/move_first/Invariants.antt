use Rattle.std.proofs.Common.{◌≡◌, ◌+◌, ◌++◌, length, take, drop}
use Rattle.packet_flow.proofs.tests.move_first.Given as goal

abbrev pub invariant-loop-i : goal.invariant-loop-i
invariant-loop-i l = record {
  cap : l.burst.cap ≡ l.initial.burst.cap;
  ops : l.burst.ops ≡ drop l._i l.initial.burst.ops;
  kept_cap : l.kept.cap ≡ l.initial.kept.cap;
  kept : l.kept.ops ≡ l.initial.kept.ops ++ take l._i l.initial.burst.ops;
  count : length l.kept.ops ≡ length l.initial.kept.ops + l._i;
}
