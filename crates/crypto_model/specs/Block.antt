-- A block of 16 bytes, as the published vectors write it.
use Rattle.std.specs.Prelude.{ℕ, List}
use Rattle.std.specs.Int.{w128, to_be_bytes}

abbrev pub block : ℕ → List ℕ
block n = to_be_bytes w128 n
