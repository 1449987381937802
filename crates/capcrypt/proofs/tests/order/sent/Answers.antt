use Rattle.std.proofs.Common.{◌-◌, length, min, refl, arith}
use Rattle.std.proofs.lemmas.List.{length-map}
use Rattle.crypto_op.specs.declared.spec.Card.{Card}
use Rattle.crypto_op.specs.Op.{entry_of}
use Rattle.capcrypt.proofs.tests.order.sent.Goals as goal

pub transfer-flow-requires-clause-works : goal.transfer-flow-requires-clause-works
transfer-flow-requires-clause-works c = λ d _ lens some.
    (min (length lens) (d.depth - length d.inside.items), refl, λ none. omega (arith, none, some, d.fits.0, length-map d.inside.items (entry_of {C = Card})))
