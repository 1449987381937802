use Rattle.std.proofs.Common.{◌≡◌, List, ℕ, length}
use Rattle.aes_core.specs.Planes.{turned}
use Rattle.aes_core.specs.Bitslice.{IsSliced}
use Rattle.aes_core.proofs.Sliced.{has_rounds}
use Rattle.aes_core.proofs.bitslice.encrypt_pairs.Given as goal

abbrev pub invariant-rounds : goal.invariant-rounds
invariant-rounds l = (words : List ℕ) → length words ≡ 240 → IsSliced words l.keys → turned l.state ≡ has_rounds words l.r l.pairs
