use Rattle.std.proofs.Common.{◌≡◌}
use Rattle.crypto_model.specs.Field.{inverse_below}
use Rattle.crypto_model.proofs.slow.field_inverse.Given as goal

abbrev pub invariant-numbers : goal.invariant-numbers
invariant-numbers l = l.found ≡ inverse_below l.b l.n
