-- The rule of a flight table, which holds between any two steps.
use Rattle.std.specs.Prelude.{◌≡◌, ◌⊎◌, ℕ, zero, suc, ◌+◌, ◌<◌, ◌≤◌, ◌==◌, if◌then◌else◌, length, Option, Some, None, slice_index_or}
use mathlib.Core.Option.{some}
use mathlib.Core.Option as maybe
use lib.ListN.{get_elem?}
use Rattle.atomic_table.specs.Table.{State}
use Rattle.crypto_op.specs.Op.{IsFresh, IsDone}
use Rattle.crypto_op.specs.declared.op.Op.{Op}
use Rattle.flight_table.specs.Note.{BookData, NoteData, drawn_of}
use Rattle.flight_table.specs.Word.{word, packed}
use Rattle.flight_table.specs.View.{look, sent, spent, times, new_hand}
use Rattle.flight_table.specs.declared.word.Phase.TheVariants.{Held, Ready, Taken, Done, Back}
use Rattle.flight_table.specs.declared.word.Word.{Word}
use Rattle.flight_table.specs.declared.rule.Role.{Role}
use Rattle.flight_table.specs.declared.rule.Role.TheVariants.{Owns, Takes, Spent}
use Rattle.flight_table.specs.declared.rule.Sent.{Sent}
use Rattle.flight_table.specs.declared.rule.FlightView.{FlightView}

abbrev pub Flying : Type 0
Flying = Op NoteData

abbrev pub Slot : Type 0
Slot = Option Flying

-- Operations

-- it is of the book, its number is p, and its made request and its pos are its note's entry
abbrev pub OfBook : BookData → ℕ → Flying → Type 0
OfBook about p x = (x.cargo.book ≡ about.table) × (x.cargo.number ≡ p) × (x.cargo.entry ≡ Some (drawn_of x))

abbrev pub Waiting : BookData → ℕ → Flying → Type 0
Waiting about p x = OfBook about p x × IsFresh x

abbrev pub Finished : BookData → ℕ → Flying → Type 0
Finished about p x = OfBook about p x × IsDone about.sessions x

-- Words

-- what the word of a slot says: the owner holds it, or the number p is with the worker w
pub data Cell : Type 0 where
  held : Cell
  ready : ℕ → ℕ → Cell
  taken : ℕ → ℕ → Cell
  done : ℕ → ℕ → Cell
  back : ℕ → ℕ → Cell

abbrev pub word_of : Cell → Word
word_of held = word Held 0 0
word_of (ready p w) = word Ready p w
word_of (taken p w) = word Taken p w
word_of (done p w) = word Done p w
word_of (back p w) = word Back p w

-- what the owner has given to a worker there
abbrev pub due : Cell → Option Sent
due held = None
due (ready p w) = Some (sent p w)
due (taken p w) = Some (sent p w)
due (done p w) = Some (sent p w)
due (back p w) = Some (sent p w)

-- the number that the hand of w lists there
abbrev pub listing : Cell → ℕ → Option ℕ
listing (taken p v) w = if w == v then Some p else None
listing held w = None
listing (ready p v) w = None
listing (done p v) w = None
listing (back p v) w = None

-- the owner alone changes such a word
abbrev pub IsOwners : Cell → Type 0
IsOwners held = Unit {0}
IsOwners (ready p w) = ⊥
IsOwners (taken p w) = ⊥
IsOwners (done p w) = Unit {0}
IsOwners (back p w) = Unit {0}

-- Slots

-- a slot at home with its value, or out with a seat
abbrev pub Home : Type 0
Home = maybe.Option (maybe.Option Slot)

abbrev pub IsEmpty : Home → Type 0
IsEmpty home = home ≡ some (some None)

abbrev pub HasSome : Home → (Flying → Type 0) → Type 0
HasSome home good = (x : Flying) × (home ≡ some (some (Some x))) × good x

-- where the owner holds it or a hand has taken it, the slot is empty; else it has its operation. The seat that the word names may have it out
abbrev pub Lies : BookData → ℕ → FlightView → (ℕ → FlightView) → Home → Cell → Type 0
Lies about k o hand home held = IsEmpty home ⊎ (o.out ≡ Some k)
Lies about k o hand home (ready p w) = HasSome home (Waiting about p)
Lies about k o hand home (taken p w) = IsEmpty home ⊎ ((hand w).out ≡ Some k)
Lies about k o hand home (done p w) = HasSome home (Finished about p) ⊎ (o.out ≡ Some k)
Lies about k o hand home (back p w) = HasSome home (Waiting about p) ⊎ (o.out ≡ Some k)

-- the slot k, of whose table the owner knows o and the hand of w knows hand w
pub record SlotOk (about : BookData) (k : ℕ) (o : FlightView) (hand : ℕ → FlightView) (n : ℕ) (home : Home) (c : Cell) : Type 0 where
  pub shows : n ≡ packed (word_of c)
  pub small : (word_of c).worker < 8
  -- held exactly where the owner has nothing given there; else what it gave
  pub given : look o.given k ≡ due c
  -- taken exactly where the hand that it names lists the number, and no other hand does
  pub listed : (w : ℕ) → look (hand w).taken k ≡ listing c w
  pub lies : Lies about k o hand home c
  -- where the owner has the slot out, the word is the one that it marked
  pub marked : o.out ≡ Some k → IsOwners c × (o.mark ≡ word_of c)

-- Counts

abbrev pub is_done : ℕ → Cell → ℕ
is_done w (done p v) = if w == v then 1 else 0
is_done w held = 0
is_done w (ready p v) = 0
is_done w (taken p v) = 0
is_done w (back p v) = 0

-- how many of the first n slots are done by w
abbrev pub dones : ℕ → (ℕ → Cell) → ℕ → ℕ
dones w cells zero = 0
dones w cells (suc n) = is_done w (cells n) + dones w cells n

-- Seats

-- the one owner's view is o; a hand is the one of a worker that was made and not joined, and its view is that worker's;
-- the view of a hand that was joined has nothing
abbrev pub SeatOk : ℕ → FlightView → (ℕ → ℕ) → (ℕ → FlightView) → ℕ → FlightView → Role → Type 0
SeatOk owner o seat_of hand j v Owns = (j ≡ owner) × (v ≡ o)
SeatOk owner o seat_of hand j v Takes = (v.worker < o.made) × (j ≡ seat_of v.worker) × (v ≡ hand v.worker) × (look o.gathered v.worker ≡ None)
SeatOk owner o seat_of hand j v Spent = v ≡ spent

pub record InFlight (about : BookData) (s : State Slot FlightView) : Type 0 where
  pub owner : ℕ
  pub o : FlightView
  pub seat_of : ℕ → ℕ
  pub hand : ℕ → FlightView
  pub cells : ℕ → Cell
  pub o_about : o.about ≡ about
  pub hand_about : (w : ℕ) → ((hand w).about ≡ about) × ((hand w).worker ≡ w) × ((hand w).role ≡ Takes)
  pub wide : length s.words ≡ length s.homes
  pub each_seat : (j : ℕ) (v : FlightView) → get_elem? s.views j ≡ some v → SeatOk owner o seat_of hand j v v.role
  -- there is an owner, and each worker that was made and not joined has its hand
  pub has_owner : (get_elem? s.views owner ≡ some o) × (o.role ≡ Owns)
  pub has_hand : (w : ℕ) → w < o.made → look o.gathered w ≡ None → get_elem? s.views (seat_of w) ≡ some (hand w)
  pub each_slot : (k : ℕ) → k < length s.homes → SlotOk about k o hand (slice_index_or s.words k 0) (get_elem? s.homes k) (cells k)
  -- what was collected of a worker, and what waits to be, is what it finished
  pub counted : (w : ℕ) → times w o.collected + dones w cells (length s.homes) ≡ (hand w).finished
  -- a worker whose hand wasn't made has done nothing, and isn't joined
  pub unmade : (w : ℕ) → o.made ≤ w → (hand w ≡ new_hand about w) × (look o.gathered w ≡ None)
  -- where a hand was joined, the owner has its count
  pub gathers : (w n : ℕ) → look o.gathered w ≡ Some n → n ≡ (hand w).finished
