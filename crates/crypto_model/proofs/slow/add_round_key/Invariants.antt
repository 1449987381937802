use Rattle.std.proofs.Common.{◌≡◌, ℕ, ◌<◌, ◌+◌, ◌*◌, length, slice_index, bit_xor}
use Rattle.crypto_model.proofs.slow.add_round_key.Given as goal

abbrev pub invariant-bytes : goal.invariant-bytes
invariant-bytes l = (length l.out ≡ 16) × ((k : ℕ) → k < l.i → slice_index l.out k ≡ bit_xor (slice_index l.s k) (slice_index l.w (16 * l.r + k)))
