use Rattle.std.proofs.Common.{◌≡◌, ◌-◌}
use Rattle.crypto_model.specs.Aes.{rounds}
use Rattle.crypto_model.proofs.slow.cipher_with.Given as goal

abbrev pub invariant-rounds : goal.invariant-rounds
invariant-rounds l = l.s ≡ rounds l.w l.fn.block (l.r - 1)
