use Rattle.std.proofs.Common.{◌≡◌, ◌≤◌}
use Rattle.dev_core.specs.Burst.{offered}
use Rattle.sched_modes.specs.Crew.{free}
use Rattle.sched_modes.specs.Sizing.{DealtBySize}
use Rattle.sched_modes.specs.Workers.{places}
use Rattle.sched_modes.proofs.size.deal.Given as goal

abbrev pub invariant-loop-i : goal.invariant-loop-i
invariant-loop-i g l = record {
  steps : l.n ≡ l._i;
  within : l.n ≤ free (places l.initial.pool.ring) (offered l.max l.initial.burst);
  dealt : DealtBySize l.initial.pool l.initial.burst l.n l.pool l.burst;
}
