use Rattle.std.proofs.Common.{◌≡◌, ◌≤◌, length}
use Rattle.sched_multicore.specs.Place.{IsPending}
use Rattle.sched_multicore.specs.Step.{Bagged, EachSaw, IsAwaited, FirstWord}
use Rattle.sched_multicore.proofs.queue.McQp.dequeue_any.Given as goal

abbrev pub invariant-loop-i : goal.invariant-loop-i
invariant-loop-i g l = record {
  number : l.n ≤ l.most;
  bagged : Bagged l.initial.self l.initial.out l.n l.self l.out;
  places : length l.self.places ≡ length l.initial.self.places;
  each : EachSaw IsPending IsAwaited l.initial.self l.self l.i;
  first : FirstWord l.initial.self l.self l.i l.word;
}
