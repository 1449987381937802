use Rattle.std.proofs.Common.{◌≤◌}
use Rattle.sched_multicore.specs.Step.{IsIdle, IsBusy}
use Rattle.sched_multicore.proofs.Helps.{Helping}
use Rattle.sched_multicore.proofs.queue.McQp.help.Given as goal

abbrev pub invariant-loop-i : goal.invariant-loop-i
invariant-loop-i g l = record {
  number : l.n ≤ l.max;
  helping : Helping IsIdle IsBusy l.initial.self l.self l.n l.i;
}
