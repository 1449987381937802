use Rattle.std.proofs.Common.{arith, ap, sym, subst, ◌∙◌, ◌<◌}
use Rattle.atomic_table.specs.Seated.{TableId}
use Rattle.flight_table.proofs.Hands.{owner_splits}
use Rattle.flight_table.proofs.flight.next_hand.Goals as goal

pub split_seat-place-requires : goal.split_seat-place-requires
split_seat-place-requires c =
    let t = c.requires.seat.0 ∙ ap (λ d. d.shared.table_id) (sym c.deref-table.ensures) in
    let a = c.requires.seat.1 in let b = c.requires.seat.3 in
    (t, subst (λ (z : TableId). 0 < z.words) t (omega (arith, a, b)), owner_splits _ _ _ (ap (λ m. m.0.role) c.requires.view.0))
