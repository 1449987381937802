-- Two tests that hold together.
use Rattle.std.proofs.Common.{◌≡◌, Bool, true}
use Rattle.std.specs.Prelude.{◌&&◌}
use Rattle.std.proofs.Math.Bool.{and-eq-true_iff}

pub both : (a b : Bool) → (a && b) ≡ true → (a ≡ true) × (b ≡ true)
both a b e = (and-eq-true_iff a b).0 e
