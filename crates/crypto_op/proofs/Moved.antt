use Rattle.std.proofs.Common.{◌≡◌, ℕ, zero, suc, ◌<◌, List, [], ◌∷◌, length, get_or, ap, arith}
use Rattle.std.proofs.Math.ListN.{set}
use Rattle.crypto_op.specs.declared.op.Op.{Op}
use Rattle.crypto_op.specs.Burst.{at_pos}
use Rattle.crypto_op.specs.Op.{moved_to}

-- an operation that is moved in its place
pub set_moved : {C : Type 0} (ops : List (Op C)) (i pos : ℕ) (op : Op C) → i < length ops → op ≡ get_or ops i op → set ops i (moved_to pos op) ≡ at_pos ops i pos
set_moved [] i pos op h e = absurd (omega arith)
set_moved (x ∷ ops) zero pos op h e = ap (λ y. moved_to pos y ∷ ops) e
set_moved (x ∷ ops) (suc i) pos op h e = ap (λ l. x ∷ l) (set_moved ops i pos op (omega arith) e)
