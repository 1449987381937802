use Rattle.std.proofs.Common.{arith, ap, sym, subst, ◌∙◌, ◌<◌}
use Rattle.atomic_table.specs.Seated.{TableId}
use Rattle.flight_table.proofs.Steps.{hand_looks_as}
use Rattle.flight_table.proofs.hand.Hand.look.Goals as goal

pub load-requires : goal.load-requires
load-requires c =
    let i = c.self.invariant in
    let t = i.0 ∙ ap (λ d. d.shared.table_id) (sym c.deref-deck.ensures) in
    let n = ap (λ d. d.slots) c.self.view_is in
    let s = c.requires in
    (t, subst (λ (z : TableId). c.args.k < z.words) t (omega (arith, i.1, n, s)), hand_looks_as _ _ _ _ _ (subst (λ (z : TableId). c.args.k < z.slots) t (omega (arith, i.2, n, s))) _ (ap (λ l. (c.self.inside.seat.me.0, l)) i.3) i.4 i.5)
