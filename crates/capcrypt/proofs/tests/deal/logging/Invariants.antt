use Rattle.std.proofs.Common.{◌≡◌, [], length}
use Rattle.std.specs.List.{All}
use Rattle.sym_engine.specs.Driver.{held_of}
use Rattle.dev_core.specs.Log.{logged_of}
use Rattle.capcrypt.proofs.tests.deal.logging.Given as goal

abbrev pub invariant-loop-n : goal.invariant-loop-n
invariant-loop-n l = record {
  count : length l.devs.items ≡ l._n;
  idle : All (λ d. held_of (logged_of d) ≡ []) l.devs.items;
}
