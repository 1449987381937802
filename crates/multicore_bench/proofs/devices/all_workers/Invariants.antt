use Rattle.std.proofs.Common.{◌≤◌, length}
use Rattle.std.specs.Arc.{arc_value}
use Rattle.multicore_bench.specs.Hands.{AreNew}
use Rattle.multicore_bench.proofs.devices.all_workers.Given as goal

abbrev pub invariant-loop-i : goal.invariant-loop-i
invariant-loop-i l = record {
  few : length l.hands.items ≤ 8;
  new : AreNew 512 (arc_value l.sessions) l.hands.items;
}
