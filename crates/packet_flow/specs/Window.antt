-- What a window has ahead.
use Rattle.std.specs.Prelude.{◌≤◌, ◌<◌, ◌+◌, ◌^◌, ℕ, List, [], length, map, Option, None}
use Rattle.std.specs.List.{All}
use Rattle.capture_io.specs.Capture.{Rec, first_place, view}
use Rattle.capture_io.specs.Limits.{IsPlaced, IsSmall}
use Rattle.capture_io.specs.declared.header.Place.{Place}
use Rattle.capture_io.specs.declared.header.ReadStop.{ReadStop}
use Rattle.capture_io.specs.declared.header.Record.{Record}

-- the records that wait, the number of the first, where the next is read, and why none is, if so
pub record Ahead : Type 0 where
  pub next : ℕ
  pub waiting : List Rec
  pub place : Place
  pub stop : Option ReadStop

-- nothing is read yet
abbrev pub fresh_window : Ahead
fresh_window = record { next = 0; waiting = []; place = first_place; stop = None }

-- none has a number beyond the records that were read, of which there are less than 2 ^ 32
pub record IsInRange (w : Ahead) : Type 0 where
  pub count : w.next + length w.waiting ≤ w.place.records
  pub range : w.place.records < 2 ^ 32

abbrev pub views : List Record → List Rec
views rs = map view rs

-- what holds of the records in memory, and of the place
pub record IsWellPlaced (place : Place) (waiting : List Record) (next : ℕ) : Type 0 where
  pub count : next + length waiting ≤ place.records
  pub range : place.records < 2 ^ 32
  pub at : IsPlaced place
  pub small : All IsSmall waiting
