use Rattle.std.proofs.Common.{◌≡◌, length}
use Rattle.std.specs.List.{All}
use Rattle.crypto_op.specs.Op.{IsFresh}
use Rattle.sched_modes.proofs.tests.making.burst.Given as goal

abbrev pub invariant-loop-i : goal.invariant-loop-i
invariant-loop-i l = record {
  fresh : All IsFresh l.burst.ops;
  cap : l.burst.cap ≡ 16;
  count : length l.burst.ops ≡ l.i;
}
