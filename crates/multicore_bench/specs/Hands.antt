-- Hands of workers that have taken nothing yet.
use Rattle.std.specs.Prelude.{◌≡◌, ℕ, List, length}
use Rattle.atomic_table.specs.Seated.{TableId}
use Rattle.crypto_model.specs.Process.{Transform}
use Rattle.flight_table.specs.Note.{BookData}
use Rattle.flight_table.specs.Call.{Desk, hands_of}

-- they are the first hands of one table of so many slots, under these sessions
pub record AreNew (slots : ℕ) (sessions : List (List Transform)) (hands : List Desk) : Type 0 where
  pub table : TableId
  pub book : BookData
  pub under : book.sessions ≡ sessions
  pub hands_are : hands ≡ hands_of table slots book (length hands)
