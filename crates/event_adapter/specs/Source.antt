-- What an event stands for.
use Rattle.std.specs.Prelude.{◌≡◌, ◌==◌, ℕ, List, map}
use Rattle.std.specs.List.{filter}
use Rattle.crypto_model.specs.Process.{Transform}
use Rattle.crypto_op.specs.declared.op.Op.{Op}
use Rattle.crypto_op.specs.Op.{Entry, IsDone, IsFresh, entry_of}
use Rattle.event_adapter.specs.declared.event.Event.{Event}
use Rattle.event_adapter.specs.declared.event.EventKind.{EventKind}

-- an entry, and the queue pair that it is for
pub record Source (C : Type 0) : Type 0 where
  pub qp : ℕ
  pub entry : Entry C

abbrev pub tagged : {C : Type 0} → ℕ → Entry C → Source C
tagged id entry = record { qp = id; entry = entry }

abbrev pub entry_in : {C : Type 0} → Event C → Entry C
entry_in e = entry_of e.op

abbrev pub source_of : {C : Type 0} → Event C → Source C
source_of e = tagged e.qp (entry_in e)

-- its operation isn't processed, and has its made request
abbrev pub IsUntouched : {C : Type 0} → Event C → Type 0
IsUntouched e = IsFresh e.op

abbrev pub event_of : {C : Type 0} → EventKind → ℕ → Op C → Event C
event_of kind id op = record { kind = kind; qp = id; op = op }

-- the event of an answer that a queue pair with these sessions gave
pub record IsAnswer {C : Type 0} (sort : EventKind) (id : ℕ) (sessions : List (List Transform)) (e : Event C) : Type 0 where
  pub kind : e.kind ≡ sort
  pub qp : e.qp ≡ id
  pub done : IsDone sessions e.op

-- the operations of the events for one queue pair
abbrev pub ops_for : {C : Type 0} → ℕ → List (Event C) → List (Op C)
ops_for id es = map (λ e. e.op) (filter (λ e. e.qp == id) es)

-- their entries
abbrev pub entries_for : {C : Type 0} → ℕ → List (Event C) → List (Entry C)
entries_for id es = map entry_of (ops_for id es)
