use Rattle.std.proofs.Common.{◌-◌, length, min, refl, arith}
use Rattle.std.proofs.lemmas.List.{length-map}
use Rattle.crypto_op.specs.declared.spec.Card.{Card}
use Rattle.crypto_op.specs.Op.{entry_of}
use Rattle.packet_flow.proofs.tests.keep_forwarded.Goals as goal

pub forward-forwarded-requires-clause-works : goal.forward-forwarded-requires-clause-works
forward-forwarded-requires-clause-works c = λ d _ lens some.
    (min (length lens) (min d.most (d.kept.cap - length d.kept.ops)), refl, λ none. omega (arith, none, some, d.takes.0, d.takes.1, length-map d.kept.ops (entry_of {C = Card})))
