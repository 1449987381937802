use Rattle.sched_modes.proofs.running.Running.pull.Goals as goal

pub returns-in-Round-clause-draws : goal.returns-in-Round-clause-draws
returns-in-Round-clause-draws g c = rw c.in-Round.is (c.pull.ensures.does c.in-Round.t.turn)

pub returns-in-Size-clause-draws : goal.returns-in-Size-clause-draws
returns-in-Size-clause-draws g c = rw c.in-Size.is (c.pull-in-Size.ensures.does 0)

pub returns-in-Fail-clause-draws : goal.returns-in-Fail-clause-draws
returns-in-Fail-clause-draws g c = rw c.in-Fail.is (c.pull-in-Fail.ensures.does 0)
