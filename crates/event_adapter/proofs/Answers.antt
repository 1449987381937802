-- Answers become events.
use Rattle.std.proofs.Common.{◌≡◌, ℕ, suc, List, [], ◌∷◌, length, drop, map, refl, ap, ◌∙◌, arith}
use Rattle.std.specs.List.{All}
use Rattle.std.proofs.lemmas.List.{drop_at}
use Rattle.std.proofs.lemmas.List.Elements.{All-nil, All-cons}
use Rattle.crypto_model.specs.Process.{Transform}
use Rattle.crypto_op.specs.declared.op.Op.{Op}
use Rattle.crypto_op.specs.Burst.{Burst}
use Rattle.crypto_op.specs.Op.{entry_of}
use Rattle.dev_core.specs.Burst.{with_ops}
use Rattle.crypto_op.specs.Op.{IsDone}
use Rattle.event_adapter.specs.declared.event.Event.{Event}
use Rattle.event_adapter.specs.declared.event.EventKind.{EventKind}
use Rattle.event_adapter.specs.Source.{IsAnswer, entry_in, event_of}

pub events_behind : {C : Type 0} (sort : EventKind) (id : ℕ) (out out' : Burst (Event C)) (ops : List (Op C)) → out' ≡ with_ops (map (event_of sort id) ops) out → drop (length out.ops) out'.ops ≡ map (event_of sort id) ops
events_behind sort id out out' ops e = ap (λ (b : Burst (Event _)). drop (length out.ops) b.ops) e ∙ drop_at out.ops (map (event_of sort id) ops) (length out.ops) refl

pub entries_are : {C : Type 0} (sort : EventKind) (id : ℕ) (ops : List (Op C)) → map entry_in (map (event_of sort id) ops) ≡ map entry_of ops
entries_are sort id [] = refl
entries_are sort id (op ∷ ops) = ap (λ l. entry_of op ∷ l) (entries_are sort id ops)

pub answers_are : {C : Type 0} (sort : EventKind) (id : ℕ) (table : List (List Transform)) (ops : List (Op C)) → All (IsDone table) ops → All (IsAnswer sort id table) (map (event_of sort id) ops)
answers_are sort id table [] h = All-nil (IsAnswer sort id table)
answers_are sort id table (op ∷ ops) h =
    All-cons (IsAnswer sort id table) (event_of sort id op) (map (event_of sort id) ops) (record { kind = refl; qp = refl; done = h 0 op (omega arith) })
    (answers_are sort id table ops (λ k d l. h (suc k) d (omega arith)))

-- all that a list holds, where it began empty
pub all_behind : {X : Type 0} (old new : List X) → old ≡ [] → drop (length old) new ≡ new
all_behind old new e = ap (λ (l : List _). drop (length l) new) e
