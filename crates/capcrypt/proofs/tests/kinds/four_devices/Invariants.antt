use Rattle.std.proofs.Common.{◌≡◌, [], length}
use Rattle.std.specs.List.{All}
use Rattle.sym_engine.specs.Driver.{held_of}
use Rattle.capcrypt.proofs.tests.kinds.four_devices.Given as goal

abbrev pub invariant-loop-n : goal.invariant-loop-n
invariant-loop-n l = record {
  count : length l.devs.items ≡ l._n;
  idle : All (λ d. held_of d.inner ≡ []) l.devs.items;
}
