use Rattle.std.proofs.Common.{◌≡◌, length}
use Rattle.std.specs.Prelude.{bytes_eq, ◌==◌, ◌&&◌}
use Rattle.crypto_model.proofs.compare.is_same.Given as goal

abbrev pub invariant-loop-x : goal.invariant-loop-x
invariant-loop-x l = record {
  as_long : length l.x-iterator.a.rest.now ≡ length l.x-iterator.b.rest.now;
  same_rest : bytes_eq l.left l.right ≡ ((l.difference == 0) && bytes_eq l.x-iterator.a.rest.now l.x-iterator.b.rest.now);
}
