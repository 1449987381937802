use Rattle.std.proofs.Common.{arith, ap, sym, ◌∙◌}
use Rattle.std.specs.Prelude.{slice_get}
use Rattle.flight_table.specs.Note.{first_entry, shown}
use Rattle.flight_table.proofs.Entries.{takes_in_as, checks_as, one_view}
use Rattle.flight_table.proofs.book.Book.meet.Goals as goal

pub join_seat-requires : goal.join_seat-requires
join_seat-requires c = let i = c.self.invariant in
    (i.0, c.into_seat-seat.ensures.0 ∙ ap (λ n. n.book) c.note.view_is ∙ c.requires ∙ ap (λ b. b.table) (sym c.self.view_is), c.into_seat-seat.ensures.3, omega (arith, i.1), takes_in_as _ _ c.self.inside.owner.me.0.drawn _ _ (ap (λ m. m.0) i.2))

pub load-requires : goal.load-requires
load-requires c = let i = c.self.invariant in let j = c.join_seat.ensures in
    (j.0 ∙ i.0, omega (arith, i.1), checks_as _ _ _ (shown c.self.inside.owner.me.0 c.into_seat-seat.result.me.0) (ap (λ m. m.0.owns) i.2) (j.2 ∙ ap (λ m. (shown c.self.inside.owner.me.0 c.into_seat-seat.result.me.0, m.1)) i.2))

pub returns-clause-met : goal.returns-clause-met
returns-clause-met c =
    let i = c.self.invariant in let j = c.join_seat.ensures in
    let e = c.note.invariant.1 in
    let views = c.note.invariant.2 in
    let u = one_view _ _ (sym c.into_seat-seat.ensures.2 ∙ views) in
    let m = j.2 ∙ ap (λ m. (shown c.self.inside.owner.me.0 c.into_seat-seat.result.me.0, m.1)) i.2 in
    let found = c.load.ensures.2.1 e (ap (λ m. m.0.entry) m ∙ ap (λ v. v.entry) u) in
    let at = ap (λ m. m.0.number) m ∙ ap (λ v. v.number) u ∙ ap (λ n. n.number) c.note.view_is in
    let d = ap (λ m. m.0.drawn) m ∙ ap (λ b. b.drawn) c.self.view_is in
    (λ k. slice_get (sym d k) (sym at k)) ∙ found ∙ sym (ap first_entry views) ∙ ap (λ n. n.entry) c.note.view_is
