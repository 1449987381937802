use Rattle.std.proofs.Common.{◌≡◌, ◌-◌, ◌*◌, length, take}
use Rattle.crypto_model.specs.Aes.{schedule}
use Rattle.crypto_model.proofs.slow.expanded.Given as goal

abbrev pub invariant-words : goal.invariant-words
invariant-words g l = (length l.w ≡ 240) × (take (4 * l.i) l.w ≡ schedule l.key (l.i - l.nk))
