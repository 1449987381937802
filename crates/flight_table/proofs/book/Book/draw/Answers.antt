use Rattle.std.proofs.Common.{rules, arith, ap, sym, ◌≡◌, ◌∙◌, ◌∷◌, [], ◌++◌, length}
use Rattle.flight_table.specs.Note.{drawn_of, newest, owner_of, note_of, first_entry}
use Rattle.flight_table.proofs.Entries.{new_note}
use Rattle.flight_table.proofs.book.Book.draw.Goals as goal

pub invariant_of-result : goal.invariant_of-result
invariant_of-result g c =
    let d = ap (λ b. b.drawn) c.add-number.ensures.drawn in
    let v = c.newest-badge.ensures.badge.1 ∙ ap (λ l. newest (owner_of l) ∷ []) d ∙ ap (λ x. x ∷ []) (new_note _ _) in
    let r = c.requires in
    (omega (arith, c.add-number.ensures.number, r), drawn_of c.args.op.now, v ∙ (λ i. note_of (sym c.add-number.ensures.number i) (Rattle.std.proofs.Common.Some (drawn_of c.args.op.now)) ∷ []))

pub returns-clause-book : goal.returns-clause-book
returns-clause-book g c = c.newest-badge.ensures.same ∙ c.add-number.ensures.drawn

pub returns-clause-note : goal.returns-clause-note
returns-clause-note g c =
    let d = ap (λ b. b.drawn) c.add-number.ensures.drawn in
    let v = c.newest-badge.ensures.badge.1 ∙ ap (λ l. newest (owner_of l) ∷ []) d ∙ ap (λ x. x ∷ []) (new_note _ _) in
    let t = c.newest-badge.ensures.badge.0 ∙ ap (λ b. b.table) c.add-number.ensures.drawn in
    (λ i. record { book = t i; number = c.add-number.ensures.number i; entry = first_entry (v i) })
