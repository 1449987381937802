use Rattle.std.proofs.Common.{◌≡◌, ◌*◌, length, map, take}
use Rattle.aes_core.specs.Basis.{back_key}
use Rattle.aes_core.proofs.key.inner_keys.Given as goal

abbrev pub invariant-keys : goal.invariant-keys
invariant-keys l = (length l.inner ≡ 240) × (map back_key (take (16 * l.r) l.inner) ≡ take (16 * l.r) l.words)
