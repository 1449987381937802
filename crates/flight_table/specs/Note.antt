-- The rule of a book: its word counts what was drawn, and each note has what stands under its number.
use Rattle.std.specs.Prelude.{◌≡◌, ℕ, suc, List, [], ◌∷◌, ◌++◌, length, Option, Some, None, slice_get, true, false}
use mathlib.Core.Option.{some}
use lib.ListN.{get_elem?}
use Rattle.atomic_table.specs.Seated.{TableId}
use Rattle.atomic_table.specs.Table.{State, Me, Step}
use Rattle.crypto_model.specs.Process.{Transform}
use Rattle.crypto_op.specs.Op.{made}
use Rattle.crypto_op.specs.declared.op.Op.{Op}
use Rattle.flight_table.specs.declared.book.Drawn.{Drawn}
use Rattle.flight_table.specs.declared.book.BookView.{BookView}

-- which book, its sessions, and what was drawn, in order
pub record BookData : Type 0 where
  pub table : TableId
  pub sessions : List (List Transform)
  pub drawn : List Drawn

-- what was drawn under a number of a book
pub record NoteData : Type 0 where
  pub book : TableId
  pub number : ℕ
  pub entry : Option Drawn

-- the made request of an operation, with its pos
abbrev pub drawn_of : {C : Type 0} → Op C → Drawn
drawn_of op = record { request = made op; pos = op.spec.pos }

-- Views

-- the owner knows all that was drawn, and may have a note to compare
abbrev pub comparing : List Drawn → ℕ → Option Drawn → BookView
comparing drawn number entry = record { owns = true; drawn = drawn; number = number; entry = entry }

abbrev pub owner_of : List Drawn → BookView
owner_of drawn = comparing drawn 0 None

abbrev pub note_of : ℕ → Option Drawn → BookView
note_of number entry = record { owns = false; drawn = []; number = number; entry = entry }

abbrev pub nobody : BookView
nobody = note_of 0 None

-- the entry of the first view
abbrev pub first_entry : List BookView → Option Drawn
first_entry [] = None
first_entry (v ∷ vs) = v.entry

abbrev pub one_later : BookView → BookView
one_later v = note_of (suc v.number) v.entry

-- a note for what was drawn last
abbrev pub newest_note : List Drawn → BookView
newest_note [] = nobody
newest_note (x ∷ []) = note_of 0 (Some x)
newest_note (x ∷ y ∷ ys) = one_later (newest_note (y ∷ ys))

abbrev pub newest : BookView → BookView
newest v = newest_note v.drawn

-- the owner takes in a note
abbrev pub shown : BookView → BookView → BookView
shown v w = record { owns = v.owns; drawn = v.drawn; number = w.number; entry = w.entry }

-- The rule

-- the seat that owns knows the whole log, and an entry that a seat has stands in the log under its number
abbrev pub Fits : ℕ → List Drawn → ℕ → BookView → Type 0
Fits owner log seat v = (v.owns ≡ true → (seat ≡ owner) × (v.drawn ≡ log)) × ((e : Drawn) → v.entry ≡ Some e → slice_get log v.number ≡ Some e)

-- there is one owner, and the word is the length of what it drew
abbrev pub Kept : State Unit BookView → Type 0
Kept s = (owner : ℕ) × (log : List Drawn) × (s.words ≡ length log ∷ []) × ((seat : ℕ) (v : BookView) → get_elem? s.views seat ≡ some v → Fits owner log seat v)

-- What steps tell

-- the owner draws: it found the length of what it drew, and has drawn these more
abbrev pub draws : List Drawn → Step Unit → Me Unit BookView → ℕ → Me Unit BookView → Type 0
draws more s v n w = (n ≡ length v.0.drawn) × (w ≡ (owner_of (v.0.drawn ++ more), v.1))

-- the owner compares the note that it took in with what it drew
abbrev pub compares : Step Unit → Me Unit BookView → ℕ → Me Unit BookView → Type 0
compares s v n w = (w ≡ (owner_of v.0.drawn, v.1)) × ((e : Drawn) → v.0.entry ≡ Some e → slice_get v.0.drawn v.0.number ≡ Some e)
