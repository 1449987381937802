use Rattle.std.specs.Arc.{arc_value}
use Rattle.sched_modes.specs.Workers.{together}
use Rattle.sched_modes.proofs.Ahead.{hold_none, new_done, new_fits, new_pending, new_sound}
use Rattle.sched_modes.proofs.pool.Pool.new.Goals as goal

pub invariant_of-result : goal.invariant_of-result
invariant_of-result g c =
    let p = c.args.parts in
    let none = hold_none g.D.Driver.held p.workers p.devs.items c.requires.empty in
    record {
      sizes = c.requires.sizes;
      alike = c.requires.alike;
      sound = new_sound c.args.scratch.cap c.args.ring (together g.D.Driver p.workers p.devs.items) none c.requires.scratch.1 c.requires.ring.0;
      answered = new_done (arc_value p.sessions) c.args.scratch.cap c.args.ring c.requires.ring.0;
      empty = c.requires.scratch.0;
      fits = new_fits c.args.scratch.cap c.args.ring c.requires.ring.0;
    }

pub returns-clause-pending : goal.returns-clause-pending
returns-clause-pending g c =
    let p = c.args.parts in
    new_pending c.args.scratch.cap c.args.ring (together g.D.Driver p.workers p.devs.items) (hold_none g.D.Driver.held p.workers p.devs.items c.requires.empty) c.requires.ring.0
