use Rattle.sched_modes.proofs.round.RoundRobinDriver.dequeue_burst.Goals as goal

pub returns-clause-does : goal.returns-clause-does
returns-clause-does g c = c.pull.ensures.does c.args.self.now.turn
