use Rattle.std.proofs.Common.{◌≡◌, ◌≤◌, ◌<◌, ◌-◌, ℕ, take}
use Rattle.std.specs.Prelude.{slice_index_or}
use Rattle.dev_core.specs.Burst.{rest_of}
use Rattle.sched_multicore.specs.Queue.{AreFull, after_workers}
use Rattle.sched_multicore.specs.Step.{Spread}
use Rattle.sched_multicore.proofs.queue.McQp.spread.Given as goal

abbrev pub invariant-loop-w : goal.invariant-loop-w
invariant-loop-w g l = record {
  number : l.n ≤ l.most;
  rest : l.burst ≡ rest_of l.n l.initial.burst;
  spread : Spread l.initial.self (take l.n l.initial.burst.ops) l.self;
  loads : after_workers l.initial.self.quota l.w (l.to - l.w) (l.most - l.n, l.self.loads) ≡ after_workers l.initial.self.quota l.from (l.to - l.from) (l.most, l.initial.self.loads);
  full : l.n < l.most → AreFull l.self.quota l.self.loads l.from l.w;
  more : (v : ℕ) → slice_index_or l.initial.self.loads v 0 ≤ slice_index_or l.self.loads v 0;
}
