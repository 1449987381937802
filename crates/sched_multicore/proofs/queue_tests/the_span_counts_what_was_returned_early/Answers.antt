use Rattle.std.proofs.lemmas.List.Elements.{All-take}
use Rattle.crypto_op.specs.Op.{IsFresh}
use Rattle.sched_multicore.proofs.queue_tests.the_span_counts_what_was_returned_early.Goals as goal

pub enqueue_burst-requires-clause-fresh : goal.enqueue_burst-requires-clause-fresh
enqueue_burst-requires-clause-fresh g c = All-take IsFresh 2 c.in_ok-begun.begun.ops c.in_ok-begun.ensures

pub enqueue_burst-requires-2-clause-fresh : goal.enqueue_burst-requires-2-clause-fresh
enqueue_burst-requires-2-clause-fresh g c = All-take IsFresh 2 c.in_ok-refused.refused.ops c.in_ok-refused.ensures

pub enqueue_burst-requires-3-clause-fresh : goal.enqueue_burst-requires-3-clause-fresh
enqueue_burst-requires-3-clause-fresh g c = All-take IsFresh 2 c.in_ok-later.later.ops c.in_ok-later.ensures
