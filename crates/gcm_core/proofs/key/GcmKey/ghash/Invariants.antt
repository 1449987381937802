use Rattle.std.proofs.Common.{◌≡◌, take}
use Rattle.crypto_model.specs.Gcm.{bits_128, ghash_from}
use Rattle.gcm_core.specs.Subkey.{subkey}
use Rattle.gcm_core.proofs.key.GcmKey.ghash.Given as goal

abbrev pub invariant-loop-block : goal.invariant-loop-block
invariant-loop-block l = bits_128 l.sum ≡ ghash_from (subkey l.fn.self) (bits_128 l.fn.sum) (take l.block-index l.blocks)
