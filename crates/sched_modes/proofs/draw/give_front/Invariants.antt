use Rattle.std.proofs.Common.{◌≡◌, ◌+◌, length}
use Rattle.dev_core.specs.Burst.{added, with_ops}
use Rattle.sched_modes.specs.Workers.{Taken}
use Rattle.sched_modes.proofs.draw.give_front.Given as goal

abbrev pub invariant-loop-i : goal.invariant-loop-i
invariant-loop-i g l = record {
  steps : l.n ≡ l._i;
  kept : l.out ≡ with_ops (added l.initial.out l.out) l.initial.out;
  count : length l.out.ops ≡ length l.initial.out.ops + l.n;
  taken : Taken l.initial.ring l.ring (added l.initial.out l.out);
}
