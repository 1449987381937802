-- Places of consecutive numbers, of which each lies in one slot.
use Rattle.std.specs.Prelude.{◌≡◌, ◌≢◌, ℕ, suc, ◌+◌, ◌%◌, ◌<◌, ◌≤◌, ◌==◌, if◌then◌else◌, List, [], ◌∷◌, ◌++◌, length, Option, Some, None, slice_get}
use Rattle.crypto_model.specs.Process.{Transform}
use Rattle.crypto_op.specs.Op.{Entry, made, entry_of, IsDone}
use Rattle.flight_table.specs.declared.book.Drawn.{Drawn}
use Rattle.flight_table.specs.declared.rule.Sent.{Sent}
use Rattle.flight_table.specs.Note.{drawn_of}
use Rattle.flight_table.specs.View.{look, sent}
use Rattle.sched_multicore.specs.declared.place.Trip.{Trip}
use Rattle.sched_multicore.specs.declared.place.Place.{Place}
use Rattle.sched_multicore.specs.declared.place.Place.TheVariants.{Away, Answered, Gone}

-- what an owner gave at its slots
abbrev pub GivenList : Type 0
GivenList = List (ℕ × Option Sent)

module _ {C : Type 0} where
  abbrev pub trip_entry : Trip C → Entry C
  trip_entry t = record { request = made t.sent.value; pos = t.sent.value.spec.pos; cargo = t.cargo }

  abbrev pub entries_at : Place C → List (Entry C)
  entries_at (Away t) = trip_entry t ∷ []
  entries_at (Answered op) = entry_of op ∷ []
  entries_at Gone = []

  -- the entries that were accepted and not returned
  abbrev pub unreturned : List (Place C) → List (Entry C)
  unreturned [] = []
  unreturned (x ∷ xs) = entries_at x ++ unreturned xs

  -- it is pending
  abbrev pub IsPending : Place C → Type 0
  IsPending (Away t) = Unit {0}
  IsPending (Answered op) = Unit {0}
  IsPending Gone = ⊥

  -- it is pending and isn't done
  abbrev pub IsAway : Place C → Type 0
  IsAway (Away t) = Unit {0}
  IsAway (Answered op) = ⊥
  IsAway Gone = ⊥

  abbrev pub NoneGone : List (Place C) → Type 0
  NoneGone [] = Unit {0}
  NoneGone (x ∷ xs) = IsPending x × NoneGone xs

  abbrev pub BeginsPending : List (Place C) → Type 0
  BeginsPending [] = Unit {0}
  BeginsPending (x ∷ xs) = IsPending x

  -- from the first pending number to the next number
  abbrev pub span : List (Place C) → ℕ
  span [] = 0
  span (Away t ∷ xs) = suc (length xs)
  span (Answered op ∷ xs) = suc (length xs)
  span (Gone ∷ xs) = span xs

  abbrev pub at_worker : ℕ → Place C → ℕ
  at_worker w (Away t) = if w == t.worker then 1 else 0
  at_worker w (Answered op) = 0
  at_worker w Gone = 0

  -- how many are outstanding at the worker w
  abbrev pub outstanding : ℕ → List (Place C) → ℕ
  outstanding w [] = 0
  outstanding w (x ∷ xs) = at_worker w x + outstanding w xs

  -- the place of the number p, which lies in the slot p % slots
  abbrev pub Placed : ℕ → GivenList → List Drawn → List (List Transform) → ℕ → ℕ → Place C → Type 0
  Placed slots given drawn sessions workers p (Away t) =
      (look given (p % slots) ≡ Some (sent p t.worker)) × (slice_get drawn p ≡ Some (drawn_of t.sent.value)) × (t.worker < workers)
  Placed slots given drawn sessions workers p (Answered op) = (look given (p % slots) ≡ None) × IsDone sessions op
  Placed slots given drawn sessions workers p Gone = look given (p % slots) ≡ None

  -- the places of the numbers from first on, up to the last that was drawn; each other slot is the owner's
  pub record Placing (slots first workers : ℕ) (sessions : List (List Transform)) (given : GivenList) (drawn : List Drawn)
      (places : List (Place C)) : Type 0 where
    pub all : first + length places ≡ length drawn
    pub fits : length places ≤ slots
    pub each : (i : ℕ) (x : Place C) → slice_get places i ≡ Some x → Placed slots given drawn sessions workers (first + i) x
    pub others : (k : ℕ) → k < slots → ((i : ℕ) → i < length places → (first + i) % slots ≢ k) → look given k ≡ None
