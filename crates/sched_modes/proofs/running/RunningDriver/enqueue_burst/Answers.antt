use Rattle.std.proofs.Common.{refl}
use Rattle.sched_modes.proofs.running.RunningDriver.enqueue_burst.Goals as goal

pub returns-in-Round-clause-does : goal.returns-in-Round-clause-does
returns-in-Round-clause-does g c = rw c.in-Round.is (record { mode = refl; follows = c.enqueue_burst.ensures.follows; crew = c.enqueue_burst.ensures.does })

pub returns-in-Size-clause-does : goal.returns-in-Size-clause-does
returns-in-Size-clause-does g c = rw c.in-Size.is (record { mode = refl; follows = c.enqueue_burst-in-Size.ensures.follows; crew = c.enqueue_burst-in-Size.ensures.does })

pub returns-in-Fail-clause-does : goal.returns-in-Fail-clause-does
returns-in-Fail-clause-does g c = rw c.in-Fail.is (record { mode = refl; follows = c.enqueue_burst-in-Fail.ensures.follows; crew = c.enqueue_burst-in-Fail.ensures.does })
