use Rattle.std.proofs.Common.{◌≡◌, length}
use Rattle.std.specs.List.{All}
use Rattle.crypto_op.specs.Op.{IsFresh}
use Rattle.sched_multicore.proofs.queue_tests.burst.Given as goal

abbrev pub invariant-loop-i : goal.invariant-loop-i
invariant-loop-i l = record {
  cap : l.burst.cap ≡ 16;
  count : length l.burst.ops ≡ l.i;
  fresh : All IsFresh l.burst.ops;
}
