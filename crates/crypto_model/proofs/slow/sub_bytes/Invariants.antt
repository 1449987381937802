use Rattle.std.proofs.Common.{◌≡◌, ℕ, ◌<◌, length, slice_index}
use Rattle.crypto_model.specs.Field.{sub_byte}
use Rattle.crypto_model.proofs.slow.sub_bytes.Given as goal

abbrev pub invariant-bytes : goal.invariant-bytes
invariant-bytes l = (length l.out ≡ 16) × ((k : ℕ) → k < l.i → slice_index l.out k ≡ sub_byte (slice_index l.s k))
