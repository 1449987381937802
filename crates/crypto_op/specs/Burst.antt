-- A list with a fixed capacity.
use Rattle.std.specs.Prelude.{ℕ, List, [], ◌∷◌, zero, suc}
use Rattle.crypto_op.specs.declared.op.Op.{Op}
use Rattle.crypto_op.specs.Op.{moved_to}

pub record Burst (X : Type 0) : Type 0 where
  pub cap : ℕ
  pub ops : List X

-- the operation at i has this pos
abbrev pub at_pos : {C : Type 0} → List (Op C) → ℕ → ℕ → List (Op C)
at_pos [] i pos = []
at_pos (op ∷ ops) zero pos = moved_to pos op ∷ ops
at_pos (op ∷ ops) (suc i) pos = op ∷ at_pos ops i pos
