use Rattle.std.proofs.Common.{◌≡◌}
use Rattle.mbuf_pool.proofs.local.LocalPool.open.Given as goal

abbrev pub invariant-loop : goal.invariant-loop
invariant-loop l = l.pool ≡ record { left = l.counter; most = l.n }
