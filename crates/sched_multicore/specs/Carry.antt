-- What a worker has taken and hasn't handed on: each under its slot's code, which is hand * slots + slot.
use Rattle.std.specs.Prelude.{◌≡◌, ◌≤◌, ◌<◌, ℕ, ◌+◌, ◌-◌, ◌*◌, ◌/◌, ◌%◌, ◌==◌, if◌then◌else◌}
use Rattle.std.specs.Prelude.{List, [], ◌∷◌, length, Option, None, Some, slice_get, slice_index_or}
use Rattle.std.specs.List.{All, sum_by}
use Rattle.crypto_model.specs.Counts.{capped, Rose}
use Rattle.crypto_model.specs.Process.{Transform}
use Rattle.crypto_op.specs.Op.{Entry, Request}
use Rattle.flight_table.specs.Note.{NoteData}
use Rattle.flight_table.specs.Call.{Desk}
use Rattle.flight_table.specs.View.{look}
use Rattle.flight_table.specs.declared.book.Drawn.{Drawn}

-- what an operation with a code was made with
abbrev pub Parcel : Type 0
Parcel = Entry NoteData

abbrev pub drawn_as : Request → ℕ → Drawn
drawn_as request pos = record { request = request; pos = pos }

-- its hand lists it in its slot, and its note is what was drawn with the pos that is kept for it
pub record Carries (slots : ℕ) (hands : List Desk) (saved : List ℕ) (x : Parcel) : Type 0 where
  pub small : x.pos < length hands * slots
  pub listed : (d : Desk) → slice_get hands (x.pos / slots) ≡ Some d → (look d.view.taken (x.pos % slots) ≡ Some x.cargo.number)
      × (x.cargo.book ≡ d.view.about.table) × (x.cargo.entry ≡ Some (drawn_as x.request (slice_index_or saved x.pos 0)))

-- how many have this code
abbrev pub coded : ℕ → List Parcel → ℕ
coded c xs = sum_by (λ x. if c == x.pos then 1 else 0) xs

abbrev pub one_if : Option ℕ → ℕ
one_if None = 0
one_if (Some n) = 1

-- each slot that a hand lists is of one of them, and each other slot of none
abbrev pub AreCounted : ℕ → List Desk → List Parcel → Type 0
AreCounted slots hands held = (h k : ℕ) (d : Desk) → slice_get hands h ≡ Some d → k < slots → coded (h * slots + k) held ≡ one_if (look d.view.taken k)

-- a hand of this worker, in a table of so many slots under these sessions
pub record IsHandOf (w n : ℕ) (under : List (List Transform)) (d : Desk) : Type 0 where
  pub worker : d.view.worker ≡ w
  pub slots : d.slots ≡ n
  pub sessions : d.view.about.sessions ≡ under

abbrev pub AreHandsOf : ℕ → ℕ → List (List Transform) → List Desk → Type 0
AreHandsOf worker slots sessions hands = (h : ℕ) (d : Desk) → slice_get hands h ≡ Some d → IsHandOf worker slots sessions d

-- the hands have taken these, in any order, and nothing else
pub record Carried (worker slots : ℕ) (sessions : List (List Transform)) (hands : List Desk) (saved : List ℕ) (held : List Parcel) : Type 0 where
  pub some : 0 < slots
  pub sized : AreHandsOf worker slots sessions hands
  pub each : All (Carries slots hands saved) held
  pub counted : AreCounted slots hands held
  pub wide : length saved ≡ length hands * slots

-- the hand lists nothing
abbrev pub IsFree : ℕ → Desk → Type 0
IsFree slots d = (k : ℕ) → k < slots → look d.view.taken k ≡ None

-- the hands' finished counts together
abbrev pub finished_sum : List Desk → ℕ
finished_sum [] = 0
finished_sum (d ∷ ds) = d.view.finished + finished_sum ds

-- the device took what it has and what the hands have finished since
pub record Tallied (before : ℕ) (olds : List Desk) (now : ℕ) (hands : List Desk) (held : ℕ) : Type 0 where
  pub since : finished_sum olds ≤ finished_sum hands
  pub enqueued : now ≡ capped (before + (finished_sum hands - finished_sum olds) + held)

-- A device with this limit held so many and had stalled so often. Then so many were taken and so many given back, so many wait
-- to be offered, and the device has the others. More were given back than it had no room for only where it stalled.
pub record Counts (limit held stalls taken given waiting held' stalls' : ℕ) : Type 0 where
  pub total : held' + given + waiting ≡ held + taken
  pub few : given + waiting ≤ taken
  pub later : stalls ≤ stalls'
  pub cause : taken - (limit - held) < given → Rose stalls stalls'
