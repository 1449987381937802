use Rattle.std.proofs.Common.{◌≡◌, ◌+◌, length}
use Rattle.sched_multicore.specs.Step.{Trimmed}
use Rattle.sched_multicore.proofs.queue.McQp.trim.Given as goal

abbrev pub invariant-loop-i : goal.invariant-loop-i
invariant-loop-i g l = record {
  trimmed : Trimmed l.initial.self l.self;
  left : length l.self.places + l._i ≡ length l.initial.self.places;
}
