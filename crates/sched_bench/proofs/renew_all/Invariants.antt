use Rattle.std.specs.List.{All}
use Rattle.crypto_op.specs.Op.{IsFresh}
use Rattle.sched_bench.proofs.renew_all.Given as goal

abbrev pub invariant-loop-i : goal.invariant-loop-i
invariant-loop-i l = All IsFresh l.burst.ops
