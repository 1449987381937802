use denote.Param.Send.{sendable}
use Rattle.std.proofs.Crossing.{crosses}
use Rattle.flight_table.proofs.Crosses.{book_send}
use Rattle.flight_table.proofs.threads.book.Goals as goal

pub moved-requires-send-X : goal.moved-requires-send-X
moved-requires-send-X c κs = search (sendable, crosses, book_send) depth 16
