-- Workers with an order ring or without.
use Rattle.std.specs.Prelude.{◌≡◌, ℕ, ◌+◌, ◌-◌, ◌%◌, ◌^◌, ◌<◌, ◌≤◌, ◌++◌, ◌==◌, if◌then◌else◌, [], List, map, length, take, drop, Option, None, Some, option_map, slice_index_or, IsPermutation}
use Rattle.std.specs.List.{flat_map}
use Rattle.std.proofs.Props.{props}
use Rattle.crypto_model.specs.Counts.{Rose, capped}
use Rattle.crypto_model.specs.Process.{Transform}
use Rattle.crypto_op.specs.declared.op.Op.{Op}
use Rattle.crypto_op.specs.Op.{Entry, entry_of}
use Rattle.dev_core.specs.declared.driver.Driver.{Ghosts}
use Rattle.dev_core.specs.declared.driver.LogEntry.{LogEntry}
use Rattle.sched_core.specs.declared.ring.Front.TheVariants as Front
use Rattle.sched_core.specs.declared.ring.Slot.{Slot}
use Rattle.sched_core.specs.Pending.{pending_of, IsRingSound, RingDone, SlotDone}
use Rattle.sched_core.specs.Ring.{Ring, front_of, number}
use Rattle.sched_modes.specs.Crew.{IsCause, Places, Took, account}
use Rattle.sched_modes.specs.declared.pull.Stop.{Stop}
use Rattle.sched_modes.specs.declared.pull.Stop.TheVariants.{Max, Empty, NotYet}

-- what the first w hold together
abbrev pub together : {C D : Type 0} → Ghosts D C → ℕ → List D → List (Entry C)
together m w devs = flat_map m.held (take w devs)

-- what is pending in them and in the ring
abbrev pub pending_with : {C D : Type 0} → Ghosts D C → Option (Ring (Slot C)) → ℕ → List D → List (Entry C)
pending_with m ring w devs = pending_of ring (together m w devs)

abbrev pub places : {C : Type 0} → Option (Ring (Slot C)) → Option Places
places ring = option_map (λ r. record { cap = r.cap; slots = length r.slots; next = number r (length r.slots) }) ring

abbrev pub ring_cap : {C : Type 0} → Option (Ring (Slot C)) → Option ℕ
ring_cap ring = option_map (λ r. r.cap) ring

-- a device went on, and took these operations
pub record Goes {C D : Type 0} (m : Ghosts D C) (ops : List LogEntry) (d e : D) : Type 0 where
  pub on : m.follows d e
  pub sessions : m.sessions e ≡ m.sessions d
  pub took : Took ops (account m d) (account m e)

-- each device went on, and took its part
abbrev pub EachGoes : {C D : Type 0} → Ghosts D C → (ℕ → List LogEntry) → List D → List D → Type 0
EachGoes {D = D} m parts old new = (k : ℕ) (d : D) → Goes m (parts k) (slice_index_or old k d) (slice_index_or new k d)

-- so did the first w, and the others are as they were
pub record Serves {C D : Type 0} (m : Ghosts D C) (parts : ℕ → List LogEntry) (w : ℕ) (old new : List D) : Type 0 where
  pub len : length new ≡ length old
  pub each : EachGoes m parts old new
  pub others : drop w new ≡ drop w old

-- all but one are as they were
abbrev pub SameBut : {D : Type 0} → ℕ → List D → List D → Type 0
SameBut {D} t old new = (k : ℕ) (d : D) → (k ≡ t → ⊥) → slice_index_or new k d ≡ slice_index_or old k d

-- each of the first w that still holds something stalled
abbrev pub EachStalled : {C D : Type 0} → Ghosts D C → ℕ → List D → List D → Type 0
EachStalled {D = D} m w old new = (k : ℕ) (d : D) → k < w → 0 < length (m.held (slice_index_or new k d))
    → Rose (m.stalls (slice_index_or old k d)) (m.stalls (slice_index_or new k d))

-- there is room for what a ring holds
abbrev pub RingFits : {C : Type 0} → Option (Ring (Slot C)) → ℕ → Type 0
RingFits None cap = Unit {0}
RingFits (Some ring) cap = ring.cap ≤ cap

-- a ring's front isn't settled
abbrev pub NotReady : {C : Type 0} → Option (Ring (Slot C)) → Type 0
NotReady None = Unit {0}
NotReady (Some ring) = front_of ring ≡ Front.Settled → ⊥

-- a ring's front is open
abbrev pub FrontOpen : {C : Type 0} → Option (Ring (Slot C)) → Type 0
FrontOpen None = Unit {0}
FrontOpen (Some ring) = front_of ring ≡ Front.Open ring.first

-- these operations were taken from the ring's front
abbrev pub Taken : {C : Type 0} → Ring (Slot C) → Ring (Slot C) → List (Op C) → Type 0
Taken old new ops = (old.slots ≡ map Slot.Settled ops ++ new.slots) × (new.cap ≡ old.cap) × (new.first ≡ (old.first + length ops) % 2 ^ 64)

-- what worker t told of its room fell by n
abbrev pub RoomFell : {C D : Type 0} → Ghosts D C → (t n : ℕ) → List D → List D → Type 0
RoomFell {D = D} m t n old new = (d : D) → m.room (slice_index_or new t d) ≡ option_map (λ r. r - n) (m.room (slice_index_or old t d))

-- why worker t took n of so many
abbrev pub HasCause : {C D : Type 0} → Ghosts D C → (t offered n : ℕ) → List D → List D → Type 0
HasCause {D = D} m t offered n old new = (d : D) → IsCause offered n (account m (slice_index_or old t d)) (account m (slice_index_or new t d))

-- these entries went in, and all are pending now
abbrev pub WentIn : {C : Type 0} → (news before now : List (Entry C)) → Type 0
WentIn news before now = IsPermutation (before ++ news) now

-- they stand behind the others
abbrev pub WentInOrder : {C : Type 0} → (news before now : List (Entry C)) → Type 0
WentInOrder news before now = now ≡ before ++ news

-- of what was pending before these operations came out, and the rest is pending
abbrev pub CameOut : {C : Type 0} → List (Op C) → (before now : List (Entry C)) → Type 0
CameOut ops before now = IsPermutation (map entry_of ops ++ now) before

-- they were its front
abbrev pub CameInOrder : {C : Type 0} → List (Op C) → (before now : List (Entry C)) → Type 0
CameInOrder ops before now = before ≡ map entry_of ops ++ now

-- a ring is as it begins
abbrev pub IsNewRing : {C : Type 0} → ℕ → Option (Ring (Slot C)) → Type 0
IsNewRing n None = Unit {0}
IsNewRing n (Some ring) = ring ≡ record { cap = n; first = 0; slots = [] }

abbrev pub stop_after : (n asked left : ℕ) → Stop
stop_after n asked left = if n == asked then Max else (if left == 0 then Empty else NotYet left)

-- what is known where a pull of n ended so, and so many were asked for
abbrev pub StopIs : {E F : Type 0} → Stop → ℕ → ℕ → List E → List F → Type 0
StopIs Max n asked pending held = n ≡ asked
StopIs Empty n asked pending held = (n < asked) × (pending ≡ [])
StopIs (NotYet left) n asked pending held = (n < asked) × (0 < left) × (left ≡ capped (length held)) × (0 < length pending)

pub sound_is : {C : Type 0} (o : Option (Ring (Slot C))) (es : List (Entry C)) → IsProp (IsRingSound o es)
sound_is None es = hlevel (props)
sound_is (Some r) es = hlevel (props)

pub slot_is : {C : Type 0} (t : List (List Transform)) (s : Slot C) → IsProp (SlotDone t s)
slot_is t (Slot.Open saved) = hlevel (props)
slot_is t (Slot.Settled op) = hlevel (props)

pub answered_is : {C : Type 0} (t : List (List Transform)) (o : Option (Ring (Slot C))) → IsProp (RingDone t o)
answered_is t None = hlevel (props)
answered_is t (Some r) = hlevel (slot_is, props)

pub fits_is : {C : Type 0} (o : Option (Ring (Slot C))) (cap : ℕ) → IsProp (RingFits o cap)
fits_is None n = hlevel (props)
fits_is (Some r) n = hlevel (props)

pub ruleset pool_props = (sound_is, answered_is, fits_is)
