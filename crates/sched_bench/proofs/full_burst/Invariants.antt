use Rattle.std.specs.List.{All}
use Rattle.crypto_op.specs.Op.{IsFresh}
use Rattle.sched_bench.proofs.full_burst.Given as goal

abbrev pub invariant-loop-number : goal.invariant-loop-number
invariant-loop-number l = All IsFresh l.burst.ops
