use Rattle.std.proofs.Common.{◌≡◌, ◌≤◌, length}
use Rattle.sym_engine.specs.Driver.{sessions_of}
use Rattle.sched_core.specs.Stopped.{AreAlike}
use Rattle.sched_bench.proofs.attach_all.Given as goal

abbrev pub invariant-loop-i : goal.invariant-loop-i
invariant-loop-i l = record {
  alike : AreAlike sessions_of l.scheduler;
  within : l.scheduler.workers ≤ length l.scheduler.devs;
  devs : l.scheduler.devs ≡ l.initial.scheduler.devs;
  mode : l.scheduler.mode ≡ l.initial.scheduler.mode;
}
