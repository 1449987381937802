-- A ring of numbered slots, as a list.
use Rattle.std.specs.Prelude.{◌≡◌, ℕ, ◌+◌, ◌-◌, ◌%◌, ◌^◌, List, [], ◌∷◌, length, zero, suc}
use Rattle.crypto_op.specs.declared.op.Op.{Op}
use Rattle.crypto_op.specs.Op.{moved_to}
use Rattle.sched_core.specs.declared.ring.Slot.{Slot}
use Rattle.sched_core.specs.declared.ring.Front.{Front}
use Rattle.sched_core.specs.declared.ring.Front.TheVariants as Front
use Rattle.sched_core.specs.declared.ring.Slot.TheVariants.{Open, Settled}

pub record Ring (X : Type 0) : Type 0 where
  pub cap : ℕ
  pub first : ℕ
  pub slots : List X

-- the number of the slot at place i
abbrev pub number : {X : Type 0} → Ring X → ℕ → ℕ
number ring i = (ring.first + i) % 2 ^ 64

-- the place of a number
abbrev pub place : {X : Type 0} → Ring X → ℕ → ℕ
place ring n = (n + (2 ^ 64 - ring.first)) % 2 ^ 64

abbrev pub IsOpen : {C : Type 0} → Slot C → Type 0
IsOpen (Open saved) = Unit {0}
IsOpen (Settled op) = ⊥

abbrev pub IsOpenAt : {C : Type 0} → List (Slot C) → ℕ → Type 0
IsOpenAt [] i = ⊥
IsOpenAt (s ∷ ss) zero = IsOpen s
IsOpenAt (s ∷ ss) (suc i) = IsOpenAt ss i

-- an open slot holds this operation, with the saved pos; a settled one stays
abbrev pub settled : {C : Type 0} → Slot C → Op C → Slot C
settled (Open saved) op = Settled (moved_to saved op)
settled (Settled kept) op = Settled kept

abbrev pub settled_at : {C : Type 0} → List (Slot C) → ℕ → Op C → List (Slot C)
settled_at [] i op = []
settled_at (s ∷ ss) zero op = settled s op ∷ ss
settled_at (s ∷ ss) (suc i) op = s ∷ settled_at ss i op

abbrev pub front_slot : {C : Type 0} → ℕ → List (Slot C) → Front
front_slot first [] = Front.Empty
front_slot first (Open saved ∷ slots) = Front.Open first
front_slot first (Settled op ∷ slots) = Front.Settled

abbrev pub front_of : {C : Type 0} → Ring (Slot C) → Front
front_of ring = front_slot ring.first ring.slots
