use Rattle.sched_multicore.proofs.Passing.{hands_on, swept_on}
use Rattle.sched_multicore.proofs.worker.Worker.turn.Goals as goal

pub returns-clause-hands : goal.returns-clause-hands
returns-clause-hands g c = hands_on _ _ _ c.sweep-taken.ensures.same.hands c.finish_returned-finished.ensures.same.hands

pub returns-clause-taken : goal.returns-clause-taken
returns-clause-taken g c = swept_on _ _ _ _ _ _ c.sweep-taken.ensures.same.hands c.finish_returned-finished.ensures.same.hands c.sweep-taken.ensures.swept
