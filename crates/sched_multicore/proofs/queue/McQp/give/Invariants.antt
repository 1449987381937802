use Rattle.std.proofs.Common.{◌≡◌, take}
use Rattle.dev_core.specs.Burst.{rest_of}
use Rattle.sched_multicore.specs.Step.{Heaped}
use Rattle.sched_multicore.proofs.queue.McQp.give.Given as goal

abbrev pub invariant-loop-i : goal.invariant-loop-i
invariant-loop-i g l = record {
  rest : l.burst ≡ rest_of l._i l.initial.burst;
  heaped : Heaped l.initial.self (take l._i l.initial.burst.ops) l.w l.self;
}
