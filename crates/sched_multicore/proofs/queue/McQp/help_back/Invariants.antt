use Rattle.std.proofs.Common.{◌≤◌}
use Rattle.sched_multicore.specs.Step.{IsBack, IsNotBack}
use Rattle.sched_multicore.proofs.Helps.{Helping}
use Rattle.sched_multicore.proofs.queue.McQp.help_back.Given as goal

abbrev pub invariant-loop-i : goal.invariant-loop-i
invariant-loop-i g l = record {
  number : l.n ≤ l.max;
  helping : Helping IsBack IsNotBack l.initial.self l.self l.n l.i;
}
