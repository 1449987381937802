use Rattle.std.proofs.Common.{◌≡◌, ◌*◌, length, take}
use Rattle.aes_core.proofs.Sliced.{flat}
use Rattle.aes_core.proofs.bitslice.plane_keys.Given as goal

abbrev pub invariant-planes : goal.invariant-planes
invariant-planes l = (length l.keys ≡ 3840) × (take (32 * l.i) l.keys ≡ flat l.words l.i)
