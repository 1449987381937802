use Rattle.sched_modes.proofs.size.PacketSizeDriver.dequeue_burst.Goals as goal

pub returns-clause-does : goal.returns-clause-does
returns-clause-does g c = c.pull.ensures.does 0
