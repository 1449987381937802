use Rattle.std.proofs.Common.{◌≡◌, ◌≤◌, length, take}
use Rattle.sched_multicore.specs.Place.{unreturned}
use Rattle.sched_multicore.proofs.queue.McQp.pending.Given as goal

abbrev pub invariant-loop-i : goal.invariant-loop-i
invariant-loop-i g l = record {
  count : l.n ≡ length (unreturned (take l.i l.self.places));
  small : l.n ≤ l.i;
}
