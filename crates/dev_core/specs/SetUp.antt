-- What a device can be set up with.
use Rattle.std.specs.Prelude.{ℕ, ◌≤◌}
use Rattle.crypto_op.specs.declared.burst.TheConstants.{MAX_OPS}

abbrev pub IsDepth : ℕ → Type 0
IsDepth n = (1 ≤ n) × (n ≤ MAX_OPS)
