use Rattle.std.proofs.Common.{ap, ◌<◌, ◌^◌, length, List, subst, sym, arith}
use Rattle.flight_table.specs.Note.{drawn_of}
use Rattle.flight_table.specs.declared.book.Drawn.{Drawn}
use Rattle.flight_table.proofs.Entries.{adds_as}
use Rattle.flight_table.proofs.book.Book.add.Goals as goal

pub fetch_add-requires : goal.fetch_add-requires
fetch_add-requires g c = let i = c.self.invariant in
    (i.0, omega (arith, i.1), adds_as _ _ _ (drawn_of c.args.op.now) c.self.inside.owner.me.0.drawn _ (subst (λ (l : List Drawn). length l < 2 ^ 58) (ap (λ b. b.drawn) (sym c.self.view_is)) c.requires.few) c.requires.adds i.2)
