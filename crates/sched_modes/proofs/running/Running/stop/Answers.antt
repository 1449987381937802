use Rattle.std.proofs.Common.{subst, sym, arith}
use Rattle.std.proofs.lemmas.List.{nil_from_length}
use Rattle.sched_core.specs.Stopped.{Stopped}
use Rattle.sched_modes.specs.Running.{AreIdle, pending, pool_of}
use Rattle.sched_modes.proofs.Idle.{all_idle}
use Rattle.sched_modes.proofs.running.Running.stop.Goals as goal

pub returns-then-n-eq0-clause-idle : goal.returns-then-n-eq0-clause-idle
returns-then-n-eq0-clause-idle g c =
    let p = pool_of c.args.self in
    let none = nil_from_length (pending c.args.self) (omega (arith, c.pending-n.ensures.count, c.if-n-eq0.true)) in
    subst (λ (s : Stopped _). AreIdle g.D.Driver s.workers s.devs) (sym c.break_up.ensures.stopped) (all_idle p (omega (arith, p.sizes.1, p.devs.ok.0)) p.sound none)
