use Rattle.sched_multicore.specs.Step.{Dequeued}
use Rattle.sched_multicore.proofs.queue.McQp.dequeue_in_order.Given as goal

abbrev pub invariant-loop-n : goal.invariant-loop-n
invariant-loop-n g l = record {
  dequeued : Dequeued l.initial.self l.initial.out l.n l.self l.out;
}
