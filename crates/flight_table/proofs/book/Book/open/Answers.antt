use Rattle.flight_table.proofs.Entries.{begins}
use Rattle.flight_table.proofs.book.Book.open.Goals as goal

pub of_words-requires : goal.of_words-requires
of_words-requires c = begins
