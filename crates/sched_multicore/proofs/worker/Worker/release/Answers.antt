use Rattle.sched_multicore.proofs.Carrying.{carried_free, carried_own}
use Rattle.sched_multicore.proofs.worker.Worker.release.Goals as goal

pub returns-clause-own : goal.returns-clause-own
returns-clause-own g c =
    let w = c.args.self in
    carried_own w.carrier.index w.carrier.slots (g.D.Driver.sessions w.dev) w.carrier.hands.items w.carrier.saved.items (g.D.Driver.held w.dev) w.laden

pub returns-clause-free : goal.returns-clause-free
returns-clause-free g c =
    let w = c.args.self in
    carried_free w.carrier.index w.carrier.slots (g.D.Driver.sessions w.dev) w.carrier.hands.items w.carrier.saved.items (g.D.Driver.held w.dev) w.laden c.requires
