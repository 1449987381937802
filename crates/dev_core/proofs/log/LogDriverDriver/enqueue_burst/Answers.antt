use Rattle.std.proofs.Common.{◌≤◌, ◌≡◌, length, Some, ap, arith, rules}
use Rattle.dev_core.proofs.Logged.{take-front_log}
use Rattle.dev_core.proofs.log.LogDriverDriver.enqueue_burst.Goals as goal

pub returns-clause-log : goal.returns-clause-log
returns-clause-log g c =
    let logged = c.args.self.now.log in
    let n = c.enqueue_upto-n.result in
    let told : n ≤ c.min.result = omega (arith, c.enqueue_upto-n.ensures.offered, c.enqueue_upto-n.ensures.most) in
    let long : c.len-logged.result ≡ length logged.items = search rules in
    ap (λ l. Some l) (rw (c.truncate.ensures.items, c.note.ensures.items, long) (take-front_log logged.items c.args.burst.now n c.min.result told))
