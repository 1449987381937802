use Rattle.std.proofs.lemmas.List.Elements.{All-take}
use Rattle.crypto_op.specs.Op.{IsFresh}
use Rattle.sched_multicore.proofs.queue_tests.accepted.Goals as goal

pub enqueue_burst-requires-clause-fresh : goal.enqueue_burst-requires-clause-fresh
enqueue_burst-requires-clause-fresh c = All-take IsFresh 8 c.in_ok-burst.burst.ops c.in_ok-burst.ensures
