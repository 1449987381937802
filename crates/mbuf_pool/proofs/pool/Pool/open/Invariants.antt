use Rattle.std.proofs.Common.{◌≡◌}
use Rattle.mbuf_pool.specs.Ticket.{new_ticket}
use Rattle.mbuf_pool.proofs.pool.Pool.open.Given as goal

abbrev pub invariant-loop : goal.invariant-loop
invariant-loop g l = l.pass ≡ new_ticket l.pool-inside.queue.table.shared.table_id
