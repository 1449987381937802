use Rattle.std.proofs.Common.{[], ◌∷◌}
use Rattle.flight_table.specs.Note.{drawn_of}
use Rattle.flight_table.proofs.book.Book.draw.Given as goal

abbrev pub ghosts-add : goal.ghosts-add
ghosts-add g a = record { adds = drawn_of a.op.now ∷ [] }
