-- What the steps of an adapter do to a queue pair, and to all of them.
use Rattle.std.specs.Prelude.{◌≡◌, ℕ, ◌+◌, ◌-◌, ◌<◌, ◌≤◌, min, List, [], ◌∷◌, ◌++◌, length, map, take, IsPermutation, slice_index_or}
use Rattle.std.specs.List.{All}
use Rattle.std.specs.Option.{ForSome}
use Rattle.crypto_model.specs.Counts.{capped, Rose}
use Rattle.crypto_op.specs.declared.op.Op.{Op}
use Rattle.crypto_op.specs.Op.{entry_of, data_len_of}
use Rattle.crypto_op.specs.Burst.{Burst}
use Rattle.dev_core.specs.declared.driver.Driver.{Ghosts}
use Rattle.event_adapter.specs.declared.event.Event.{Event}
use Rattle.event_adapter.specs.declared.event.EventKind.{EventKind}
use Rattle.event_adapter.specs.declared.queue_pair.QueuePair.{QueuePair}
use Rattle.event_adapter.specs.Source.{IsAnswer, entry_in, ops_for}

-- what a call keeps of a device that accepted n operations in it
pub record Kept {C D : Type 0} (driver : Ghosts D C) (n : ℕ) (d e : D) : Type 0 where
  pub follows : driver.follows d e
  pub stalls : driver.stalls d ≤ driver.stalls e
  pub sessions : driver.sessions e ≡ driver.sessions d
  pub enqueued : capped ((driver.stats e).enqueued) ≡ capped ((driver.stats d).enqueued + n)

-- the device took these operations
pub record Takes {C D : Type 0} (driver : Ghosts D C) (ops : List (Op C)) (d e : D) : Type 0 where
  pub held : IsPermutation (driver.held d ++ map entry_of ops) (driver.held e)
  pub in_order : driver.ordered d → driver.held e ≡ driver.held d ++ map entry_of ops
  pub kept : Kept driver (length ops) d e

-- The device was offered these operations and took n of them: no more than it admits, and fewer only where it stalled.
abbrev pub TakesAdmitted : {C D : Type 0} → Ghosts D C → List (Op C) → ℕ → D → D → Type 0
TakesAdmitted driver ops n d e =
    ForSome (driver.admits d (map (λ op. data_len_of op.spec) ops)) (λ a. (n ≤ a) × (n < a → Rose (driver.stalls d) (driver.stalls e)))

-- These events are the answers that the queue pair's device gave, where there was room for so many: fewer than it held
-- only where it stalled.
pub record Completed {C D : Type 0} (driver : Ghosts D C) (sort : EventKind) (room : ℕ) (p q : QueuePair C D) (es : List (Event C)) : Type 0 where
  pub id : q.id ≡ p.id
  pub waiting : q.waiting ≡ p.waiting
  pub answers : All (IsAnswer sort p.id (driver.sessions p.dev)) es
  pub held : IsPermutation (map entry_in es ++ driver.held q.dev) (driver.held p.dev)
  pub in_order : driver.ordered p.dev → driver.held p.dev ≡ map entry_in es ++ driver.held q.dev
  pub kept : Kept driver 0 p.dev q.dev
  pub within : length es ≤ room
  pub cause : length es < min room (length (driver.held p.dev)) → Rose (driver.stalls p.dev) (driver.stalls q.dev)

-- Its device took these of its waiting operations, which it was offered if there were any.
pub record Offered {C D : Type 0} (driver : Ghosts D C) (room : ℕ) (p q : QueuePair C D) (ops : List (Op C)) : Type 0 where
  pub id : q.id ≡ p.id
  pub cap : q.waiting.cap ≡ p.waiting.cap
  pub rest : p.waiting.ops ≡ ops ++ q.waiting.ops
  pub takes : Takes driver ops p.dev q.dev
  pub cause : 0 < length p.waiting.ops → TakesAdmitted driver p.waiting.ops (length ops) p.dev q.dev

-- Its device was offered a burst and took the first n.
pub record Submitted {C D : Type 0} (driver : Ghosts D C) (burst : Burst (Op C)) (n : ℕ) (p q : QueuePair C D) : Type 0 where
  pub id : q.id ≡ p.id
  pub waiting : q.waiting ≡ p.waiting
  pub within : n ≤ length burst.ops
  pub takes : Takes driver (take n burst.ops) p.dev q.dev
  pub cause : TakesAdmitted driver burst.ops n p.dev q.dev

-- its part of the taken events waits behind what waited
pub record Dealt {C D : Type 0} (es : List (Event C)) (p q : QueuePair C D) : Type 0 where
  pub id : q.id ≡ p.id
  pub dev : q.dev ≡ p.dev
  pub cap : q.waiting.cap ≡ p.waiting.cap
  pub waiting : q.waiting.ops ≡ p.waiting.ops ++ ops_for p.id es

-- One queue pair after the other, each with its own part of what came out, where there was room for so much.
abbrev pub Along : {P E : Type 0} → (ℕ → P → P → List E → Type 0) → ℕ → List P → List P → List E → Type 0
Along R room [] [] es = es ≡ []
Along R room [] (q ∷ qs) es = ⊥
Along R room (p ∷ ps) [] es = ⊥
Along {P} {E} R room (p ∷ ps) (q ∷ qs) es = (mine : List E) × (others : List E) × (es ≡ mine ++ others) × R room p q mine
    × Along R (room - length mine) ps qs others

-- each queue pair by itself
abbrev pub Each : {P : Type 0} → (P → P → Type 0) → List P → List P → Type 0
Each {P} R ps qs = (length qs ≡ length ps) × ((k : ℕ) (d : P) → k < length ps → R (slice_index_or ps k d) (slice_index_or qs k d))
