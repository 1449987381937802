use Rattle.std.proofs.Common.{◌≡◌}
use Rattle.mbuf_pool.proofs.tests.the_largest_pools_open.Given as goal

abbrev pub invariant-loop : goal.invariant-loop
invariant-loop g l = l.pass.pool ≡ l.pool-inside.queue.table.shared.table_id
