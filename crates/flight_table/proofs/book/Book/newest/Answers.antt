use Rattle.std.proofs.Common.{arith, ap}
use Rattle.flight_table.proofs.Entries.{gives_as}
use Rattle.flight_table.proofs.book.Book.newest.Goals as goal

pub split_seat-requires : goal.split_seat-requires
split_seat-requires c = let i = c.self.invariant in
    (i.0, omega (arith, i.1), gives_as _ _ c.self.inside.owner.me.0.drawn (ap (λ m. m.0) i.2))
