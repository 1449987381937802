use Rattle.std.proofs.Common.{◌≡◌, ◌-◌, map}
use Rattle.crypto_model.specs.Aes.{rounds}
use Rattle.aes_core.specs.Basis.{back}
use Rattle.aes_core.proofs.encryption.encrypt_block.Given as goal

abbrev pub invariant-rounds : goal.invariant-rounds
invariant-rounds l = map back l.y ≡ rounds l.words l.fn.block (l.r - 1)
