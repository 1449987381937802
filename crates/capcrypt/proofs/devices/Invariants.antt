use Rattle.std.proofs.Common.{◌≡◌, [], length}
use Rattle.std.specs.List.{All}
use Rattle.crypto_op.specs.declared.spec.Card.{Card}
use Rattle.sym_engine.specs.declared.plain.PlainDriver.{PlainDriver}
use Rattle.sym_engine.specs.Driver.{held_of}
use Rattle.capcrypt.proofs.devices.Given as goal

abbrev pub invariant-loop-n : goal.invariant-loop-n
invariant-loop-n l = record {
  count : length l.devs.items ≡ l._n;
  idle : All (λ (d : PlainDriver Card). held_of d ≡ []) l.devs.items;
}
