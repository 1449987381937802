use Rattle.std.proofs.Common.{◌≡◌, ℕ, true}
use Rattle.sched_multicore.specs.Step.{Bagged, Dequeued}
use Rattle.sched_multicore.proofs.queue.McQp.drain.Given as goal

abbrev pub invariant-loop : goal.invariant-loop
invariant-loop g l = record {
  came : (n : ℕ) × Bagged l.initial.self l.initial.out n l.self l.out × (l.initial.self.ordering ≡ true → Dequeued l.initial.self l.initial.out n l.self l.out);
}
