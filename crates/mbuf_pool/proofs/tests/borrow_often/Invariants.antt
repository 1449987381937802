use Rattle.std.proofs.Common.{◌≡◌}
use Rattle.mbuf_pool.proofs.tests.borrow_often.Given as goal

abbrev pub invariant-loop : goal.invariant-loop
invariant-loop g l = l.pass.pool ≡ l.pool
