-- What the burst calls of a driver move.
use Rattle.std.specs.Prelude.{ℕ, ◌-◌, min, List, ◌++◌, length, map, take, drop}
use Rattle.crypto_op.specs.declared.op.Op.{Op}
use Rattle.crypto_op.specs.Op.{Entry, entry_of, data_len_of}
use Rattle.crypto_op.specs.Burst.{Burst}
use Rattle.dev_core.specs.declared.driver.LogEntry.{LogEntry}

-- how many operations a call is offered
abbrev pub offered : {X : Type 0} → ℕ → Burst X → ℕ
offered most burst = min most (length burst.ops)

-- their data lengths
abbrev pub lens : {C : Type 0} → ℕ → Burst (Op C) → List ℕ
lens most burst = map (λ op. data_len_of op.spec) (take most burst.ops)

abbrev pub room_of : {X : Type 0} → Burst X → ℕ
room_of burst = burst.cap - length burst.ops

-- the burst behind its first n operations
abbrev pub rest_of : {X : Type 0} → ℕ → Burst X → Burst X
rest_of n burst = record burst { ops = drop n burst.ops }

-- the entries of a burst's first n operations
abbrev pub front : {C : Type 0} → ℕ → Burst (Op C) → List (Entry C)
front n burst = map entry_of (take n burst.ops)

abbrev pub log_entry : {C : Type 0} → Op C → LogEntry
log_entry op = record { session = op.spec.session; data_len = data_len_of op.spec; pos = op.spec.pos }

abbrev pub front_log : {C : Type 0} → ℕ → Burst (Op C) → List LogEntry
front_log n burst = map log_entry (take n burst.ops)

-- the operations of a burst behind those that another had
abbrev pub added : {X : Type 0} → Burst X → Burst X → List X
added before now = drop (length before.ops) now.ops

-- the burst with these operations more
abbrev pub with_ops : {X : Type 0} → List X → Burst X → Burst X
with_ops ops burst = record burst { ops = burst.ops ++ ops }
