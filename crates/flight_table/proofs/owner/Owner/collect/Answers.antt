use Rattle.std.proofs.Common.{arith, ap, sym, refl, subst, ◌∙◌, ◌<◌, ◌∷◌, Some, None}
use Rattle.atomic_table.specs.Seated.{TableId}
use Rattle.atomic_table.specs.Table.{rest}
use Rattle.flight_table.specs.Word.{unpacked}
use Rattle.flight_table.specs.View.{looked, grabbed}
use Rattle.flight_table.proofs.Owners.{owner_finds_done_as, owner_gains}
use Rattle.flight_table.proofs.owner.Owner.collect.Goals as goal

pub load-requires : goal.load-requires
load-requires c =
    let i = c.self.invariant in
    let t = i.0 ∙ ap (λ d. d.shared.table_id) (sym c.deref-deck.ensures) in
    let n = ap (λ d. d.slots) c.self.view_is in
    let s = c.requires in
    (t, subst (λ (z : TableId). c.args.k < z.words) t (omega (arith, i.1, n, s)), owner_finds_done_as _ _ _ _ _ (subst (λ (z : TableId). c.args.k < z.slots) t (omega (arith, i.2, n, s))) _ (ap (λ l. (c.self.inside.seat.me.0, l)) i.3) i.4 i.5)

pub exchange-op-requires : goal.exchange-op-requires
exchange-op-requires c =
    let t = c.self.invariant.0 ∙ ap (λ d. d.shared.table_id) (sym c.deref-deck.ensures) in
    let l = c.load.ensures in
    let phase = ap (λ z. z.phase) (sym c.unpack-found.ensures) ∙ c.is.ensures.0 c.if-not-is.false in
    let hit = l.2.2 phase in
    (l.0 ∙ t, (Some hit.0, ap (λ m. m.1) hit.5 ∙ ap (λ r. (c.args.k, Some hit.0) ∷ r) (ap (λ m. rest m.1) (sym hit.5))))

pub store-requires : goal.store-requires
store-requires c =
    let i = c.self.invariant in
    let l = c.load.ensures in
    let e = c.exchange-op.ensures in
    let phase = ap (λ z. z.phase) (sym c.unpack-found.ensures) ∙ c.is.ensures.0 c.if-not-is.false in
    let hit = l.2.2 phase in
    let t = i.0 ∙ ap (λ d. d.shared.table_id) (sym c.deref-deck.ensures) in
    let n = ap (λ d. d.slots) c.self.view_is in
    let s = c.requires in
    let m = unpacked c.load.result in
    let k = c.args.k in
    let v = grabbed (looked c.self.inside.seat.me.0 k m) k m in
    let me = e.3 ∙ (λ j. ((hit.5 j).0, (k, None) ∷ ap (λ y. rest y.1) hit.5 j)) ∙ ap (λ r. (v, (k, None) ∷ r)) i.3 in (
      e.0 ∙ l.0 ∙ t,
      subst (λ (z : TableId). k < z.words) t (omega (arith, i.1, n, s)),
      owner_gains _ _ _ _ v (subst (λ (z : TableId). k < z.slots) t (omega (arith, i.2, n, s))) _ me i.4 refl phase,
    )
