-- Operations under a ring's numbers.
use Rattle.std.proofs.Common.{◌≡◌, ℕ, suc, ◌+◌, List, [], ◌∷◌, length, map, refl, ap}
use Rattle.std.specs.List.{All}
use Rattle.std.proofs.lemmas.List.Elements.{All-cons, All-nil}
use Rattle.crypto_model.specs.Process.{Transform}
use Rattle.crypto_op.specs.declared.op.Op.{Op}
use Rattle.crypto_op.specs.Op.{Entry}
use Rattle.sched_core.specs.Pending.{numbered, opened, SlotDone}

pub length_numbered : {C : Type 0} (n : ℕ) (es : List (Entry C)) → length (numbered n es) ≡ length es
length_numbered n [] = refl
length_numbered n (e ∷ es) = ap suc (length_numbered (n + 1) es)

pub opened_done : {C : Type 0} (t : List (List Transform)) (ops : List (Op C)) → All (SlotDone t) (map opened ops)
opened_done t [] = All-nil (SlotDone t)
opened_done t (op ∷ ops) = All-cons (SlotDone t) (opened op) (map opened ops) tt (opened_done t ops)
