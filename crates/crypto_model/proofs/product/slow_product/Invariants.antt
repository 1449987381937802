use Rattle.std.proofs.Common.{◌≡◌, drop}
use Rattle.crypto_model.specs.Gcm.{bits_128, block_product}
use Rattle.crypto_model.specs.Modes.{xor_with}
use Rattle.crypto_model.proofs.product.slow_product.Given as goal

abbrev pub invariant-bits : goal.invariant-bits
invariant-bits l = xor_with (bits_128 l.z) (block_product (drop l.i (bits_128 l.x)) (bits_128 l.v)) ≡ block_product (bits_128 l.x) (bits_128 l.y)
