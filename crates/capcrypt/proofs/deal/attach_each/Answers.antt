use Rattle.std.proofs.Common.{◌≡◌, Err, ap, get_or, sym, subst, arith}
use Rattle.sched_core.specs.Stopped.{Stopped}
use Rattle.sched_core.proofs.Dealt.{some_at}
use Rattle.capcrypt.proofs.deal.attach_each.Goals as goal

pub unreachable-requires-in-Err-SessionsDiffer : goal.unreachable-requires-in-Err-SessionsDiffer
unreachable-requires-in-Err-SessionsDiffer g c =
    let i = c.loop-i._i in
    let devs = c.args.scheduler.now.devs in
    let d = (some_at devs i (omega (arith, c.loop-i-test.true, c.requires.enough))).0 in
    let differs = c.in-Err-SessionsDiffer.ensures.differ.0 (ap Err c.in-Err-SessionsDiffer.field-0-is) in
    let alike = subst (λ (x : Stopped _). g.D.Driver.sessions (get_or x.devs x.workers d) ≡ x.sessions) (sym c.loop-i.invariant) (c.requires.alike i d c.loop-i-test.true) in
    differs.1 d alike
