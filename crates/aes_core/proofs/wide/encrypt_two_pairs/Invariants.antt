use Rattle.std.proofs.Common.{◌≡◌, [], ◌∷◌, map}
use Rattle.aes_core.specs.Basis.{back}
use Rattle.aes_core.proofs.Sliced.{has_rounds}
use Rattle.aes_core.proofs.wide.encrypt_two_pairs.Given as goal

abbrev pub invariant-rounds : goal.invariant-rounds
invariant-rounds l = map back l.s ∷ map back l.t ∷ [] ≡ has_rounds l.words l.r (l.fn.a ∷ l.fn.b ∷ [])
