use Rattle.std.proofs.Common.{arith, ap, sym, subst, ◌∙◌, ◌<◌, Some}
use Rattle.atomic_table.specs.Seated.{TableId}
use Rattle.flight_table.specs.View.{joined, look, times}
use Rattle.flight_table.proofs.Puts.{look_here}
use Rattle.flight_table.proofs.Owners.{owner_settles_as}
use Rattle.flight_table.proofs.Hands.{owner_joins}
use Rattle.flight_table.proofs.owner.Owner.join.Goals as goal

pub join_seat-requires : goal.join_seat-requires
join_seat-requires c =
    let i = c.self.invariant in
    let t = i.0 ∙ ap (λ d. d.shared.table_id) (sym c.deref-deck.ensures) in
    let s = i.6 in
    (t, ap (λ d. d.table) c.hand.view_is ∙ c.requires.hand ∙ ap (λ d. d.table) (sym c.self.view_is) ∙ t, c.hand.invariant.3, subst (λ (z : TableId). 0 < z.words) t (omega (arith, i.1, s)), owner_joins _ _ _ _ _ i.4 c.hand.invariant.4)

pub load-requires : goal.load-requires
load-requires c =
    let i = c.self.invariant in
    let j = c.join_seat.ensures in
    let t = i.0 ∙ ap (λ d. d.shared.table_id) (sym c.deref-deck.ensures) in
    let s = i.6 in
    let v = joined c.self.inside.seat.me.0 c.hand.inside.seat.me.0 in
    (j.0 ∙ t, subst (λ (z : TableId). 0 < z.words) t (omega (arith, i.1, s)), owner_settles_as _ _ _ _ v (subst (λ (z : TableId). 0 < z.slots) t (omega (arith, i.2, s))) _ (j.2 ∙ ap (λ l. (v, l)) i.3) i.4 i.5)

pub returns-clause-counts : goal.returns-clause-counts
returns-clause-counts c =
    let i = c.self.invariant in
    let j = c.join_seat.ensures.2 in
    let t = i.0 ∙ ap (λ d. d.shared.table_id) (sym c.deref-deck.ensures) in
    let n = ap (λ d. d.slots) c.self.view_is in
    let size = ap (λ (z : TableId). z.slots) (sym t) ∙ i.2 in
    let h = c.hand.inside.seat.me.0 in
    let w = h.worker in
    let at = ap (λ m. look m.0.gathered w) j ∙ look_here w (Some h.finished) c.self.inside.seat.me.0.gathered in
    let g = c.load.ensures.2.1 (λ k lt. ap (λ m. look m.0.given k) j ∙ ap (λ d. look d.view.given k) c.self.view_is ∙ c.requires.all k (omega (arith, lt, size, n))) w h.finished at in
    ap (λ d. d.view.finished) (sym c.hand.view_is) ∙ g ∙ ap (λ m. times w m.0.collected) j ∙ ap (λ d. times w d.view.collected) c.self.view_is ∙ ap (λ d. times d.view.worker c.args.self.now.view.collected) c.hand.view_is
