use Rattle.std.proofs.Common.{arith, Some}
use Rattle.sched_core.specs.Pending.{IsRingSound}
use Rattle.sched_modes.specs.Pool.{held_in}
use Rattle.sched_modes.proofs.Ahead.{length_pending}
use Rattle.sched_modes.proofs.pool.Pool.pending.Goals as goal

pub returns-in-Some : goal.returns-in-Some
returns-in-Some g c =
    let r = c.in-Some.ring in
    let es = held_in c.args.self.now in
    let s : IsRingSound (Some r) es = rw c.in-Some.is at c.args.self.now.sound in
    rw c.in-Some.is (omega (arith, length_pending r es s, c.len.ensures, s.1, s.2))
