use Rattle.std.proofs.Common.{◌≡◌, ℕ, ◌<◌, length, slice_index}
use Rattle.crypto_model.specs.Aes.{mixed}
use Rattle.crypto_model.proofs.slow.mix_columns.Given as goal

abbrev pub invariant-bytes : goal.invariant-bytes
invariant-bytes l = (length l.out ≡ 16) × ((k : ℕ) → k < l.i → slice_index l.out k ≡ mixed 2 3 1 1 l.s k)
