-- What a scheduler's numbers stand for.
use Rattle.std.specs.Prelude.{◌≡◌, ℕ, ◌+◌, ◌%◌, ◌^◌, ◌==◌, ◌<◌, ◌≤◌, List, [], ◌∷◌, ◌++◌, length, map, zero, suc, take, Option, None, Some, count_by}
use Rattle.std.specs.List.{filter, All}
use Rattle.crypto_model.specs.Process.{Transform}
use Rattle.crypto_op.specs.declared.burst.TheConstants.{MAX_OPS}
use Rattle.crypto_op.specs.Op.{IsDone}
use Rattle.crypto_op.specs.declared.op.Op.{Op}
use Rattle.crypto_op.specs.Op.{moved_to}
use Rattle.crypto_op.specs.Op.{Entry, entry_of}
use Rattle.sched_core.specs.declared.ring.Slot.{Slot}
use Rattle.sched_core.specs.declared.ring.Slot.TheVariants.{Open, Settled}
use Rattle.sched_core.specs.Ring.{Ring}

abbrev pub opened : {C : Type 0} → Op C → Slot C
opened op = Open op.spec.pos

abbrev pub with_pos : {C : Type 0} → ℕ → Entry C → Entry C
with_pos n e = record e { pos = n }

-- the first k operations have the numbers from n on as their pos
abbrev pub number_ops : {C : Type 0} → ℕ → ℕ → List (Op C) → List (Op C)
number_ops n zero ops = ops
number_ops n (suc k) [] = []
number_ops n (suc k) (op ∷ ops) = moved_to (n % 2 ^ 64) op ∷ number_ops (n + 1) k ops

-- entries under the numbers from n on
abbrev pub numbered : {C : Type 0} → ℕ → List (Entry C) → List (Entry C)
numbered n [] = []
numbered n (e ∷ es) = with_pos (n % 2 ^ 64) e ∷ numbered (n + 1) es

-- the entry that is held under a number, with its own pos
abbrev pub held_as : {C : Type 0} → ℕ → ℕ → List (Entry C) → List (Entry C)
held_as n saved es = map (with_pos saved) (filter (λ e. e.pos == n) es)

-- the entries of the slots from this number on, where the devices hold es
abbrev pub pending_from : {C : Type 0} → ℕ → List (Slot C) → List (Entry C) → List (Entry C)
pending_from n [] es = []
pending_from n (Open saved ∷ slots) es = held_as (n % 2 ^ 64) saved es ++ pending_from (n + 1) slots es
pending_from n (Settled op ∷ slots) es = entry_of op ∷ pending_from (n + 1) slots es

abbrev pub pending_of : {C : Type 0} → Option (Ring (Slot C)) → List (Entry C) → List (Entry C)
pending_of None es = es
pending_of (Some ring) es = pending_from ring.first ring.slots es

abbrev pub open_numbers : {C : Type 0} → ℕ → List (Slot C) → List ℕ
open_numbers n [] = []
open_numbers n (Open saved ∷ slots) = n % 2 ^ 64 ∷ open_numbers (n + 1) slots
open_numbers n (Settled op ∷ slots) = open_numbers (n + 1) slots

-- how often a number stands in a list
abbrev pub times : ℕ → List ℕ → ℕ
times n xs = count_by (λ x. x == n) xs

-- each open number is held exactly once, and nothing else is held
abbrev pub HoldsOpen : {C : Type 0} → Ring (Slot C) → List (Entry C) → Type 0
HoldsOpen ring es = (n : ℕ) → count_by (λ e. e.pos == n) es ≡ times n (open_numbers ring.first ring.slots)

-- with a ring, what its numbers say
abbrev pub IsRingSound : {C : Type 0} → Option (Ring (Slot C)) → List (Entry C) → Type 0
IsRingSound None es = Unit {0}
IsRingSound (Some ring) es = HoldsOpen ring es × (length ring.slots ≤ ring.cap) × (ring.cap ≤ MAX_OPS) × (ring.first < 2 ^ 64)

-- with a ring, in order
abbrev pub InOrder : {C : Type 0} → Option (Ring (Slot C)) → Type 0
InOrder None = ⊥
InOrder (Some ring) = Unit {0}

abbrev pub is_kept : {C : Type 0} → Option (Ring (Slot C)) → Option (Ring (Slot C)) → Type 0
is_kept None o = o ≡ None
is_kept (Some r) None = ⊥
is_kept (Some r) (Some s) = s.cap ≡ r.cap

-- a settled slot's operation is answered
abbrev pub SlotDone : {C : Type 0} → List (List Transform) → Slot C → Type 0
SlotDone sessions (Open saved) = Unit {0}
SlotDone sessions (Settled op) = IsDone sessions op

-- Whatever else the workers hold, these entries came back from them and went into the ring, and what is pending is the same.
abbrev pub ComesBack : {C : Type 0} → List (Entry C) → Ring (Slot C) → Ring (Slot C) → Type 0
ComesBack {C} came old new =
    (held : List (Entry C)) → IsRingSound (Some old) (held ++ came)
    → IsRingSound (Some new) held × (pending_of (Some new) held ≡ pending_of (Some old) (held ++ came))

abbrev pub RingDone : {C : Type 0} → List (List Transform) → Option (Ring (Slot C)) → Type 0
RingDone sessions None = Unit {0}
RingDone sessions (Some ring) = All (SlotDone sessions) ring.slots
