use Rattle.std.proofs.Common.{◌≡◌, ℕ, ◌<◌, ◌+◌, ◌*◌, ◌%◌, length, slice_index}
use Rattle.crypto_model.proofs.slow.shift_rows.Given as goal

abbrev pub invariant-bytes : goal.invariant-bytes
invariant-bytes l = (length l.out ≡ 16) × ((k : ℕ) → k < l.i → slice_index l.out k ≡ slice_index l.s ((k + 4 * (k % 4)) % 16))
