use Rattle.sched_multicore.specs.Sweep.{SameHands}
use Rattle.sched_multicore.specs.Workplace.{SameWorker}
use Rattle.sched_multicore.proofs.worker.Worker.run_until_closed.Given as goal

abbrev pub invariant-loop : goal.invariant-loop
invariant-loop g l = record {
  hands : SameHands l.fn.self.carrier.hands.items l.self.carrier.hands.items;
  same : SameWorker l.fn.self l.self;
  follows : g.D.Driver.follows l.fn.self.dev l.self.dev;
}
