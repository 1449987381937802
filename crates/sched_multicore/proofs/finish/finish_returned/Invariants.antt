use Rattle.std.proofs.Common.{◌≡◌, ◌+◌, ◌-◌, ◌≤◌, [], length}
use Rattle.sched_multicore.specs.Carry.{finished_sum}
use Rattle.sched_multicore.specs.Laden.{Laden, SameCarrier}
use Rattle.sched_multicore.proofs.finish.finish_returned.Given as goal

abbrev pub invariant-loop-finished : goal.invariant-loop-finished
invariant-loop-finished g l = record {
  laden : Laden (g.D.Driver.sessions l.dev) l.carrier (g.D.Driver.held l.dev);
  empty : l.carrier.burst.ops ≡ [];
  same : SameCarrier l.fn.carrier l.carrier;
  due : l.due ≡ length (g.D.Driver.held l.fn.dev);
  held : length (g.D.Driver.held l.dev) + l.finished ≡ l.due;
  stalls : g.D.Driver.stalls l.fn.dev ≤ g.D.Driver.stalls l.dev;
  sum : finished_sum l.carrier.hands.items ≡ finished_sum l.fn.carrier.hands.items + l.finished;
  enqueued : (g.D.Driver.stats l.dev).enqueued ≡ (g.D.Driver.stats l.fn.dev).enqueued;
  sessions : g.D.Driver.sessions l.dev ≡ g.D.Driver.sessions l.fn.dev;
  follows : g.D.Driver.follows l.fn.dev l.dev;
}

abbrev pub decreases-loop-finished : goal.decreases-loop-finished
decreases-loop-finished g l = l.due - l.finished
