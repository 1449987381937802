use Rattle.std.proofs.Common.{◌≡◌, ◌≤◌, length}
use Rattle.sched_core.specs.Stopped.{AreAlike}
use Rattle.sched_modes.proofs.tests.making.attach_all.Given as goal

abbrev pub invariant-loop-i : goal.invariant-loop-i
invariant-loop-i g l = record {
  alike : AreAlike g.D.Driver.sessions l.scheduler;
  within : l.scheduler.workers ≤ length l.scheduler.devs;
  devs : l.scheduler.devs ≡ l.initial.scheduler.devs;
  mode : l.scheduler.mode ≡ l.initial.scheduler.mode;
}
