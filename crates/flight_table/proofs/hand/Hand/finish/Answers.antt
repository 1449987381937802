use Rattle.std.proofs.Common.{arith, ap, sym, refl, subst, ◌∙◌, ◌<◌, ◌∷◌, Some, ℕ}
use Rattle.atomic_table.specs.Seated.{TableId}
use Rattle.atomic_table.specs.Table.{rest}
use Rattle.flight_table.specs.Note.{BookData}
use Rattle.flight_table.specs.Word.{word, packed, unpacked}
use Rattle.flight_table.specs.View.{look, grabbed}
use Rattle.flight_table.specs.Rule.{Finished}
use Rattle.flight_table.specs.declared.word.Phase.TheVariants.{Done}
use Rattle.flight_table.proofs.Steps.{hand_grabs_as, hand_finishes}
use Rattle.flight_table.proofs.hand.Hand.finish.Goals as goal

pub load-requires : goal.load-requires
load-requires c =
    let i = c.self.invariant in
    let t = i.0 ∙ ap (λ d. d.shared.table_id) (sym c.deref-deck.ensures) in
    let n = ap (λ d. d.slots) c.self.view_is in
    let s = c.requires.slot.0 in
    let few : c.self.inside.seat.me.0.worker < 8 = subst (λ (z : ℕ). z < 8) (sym i.6) i.7 in
    let lists = ap (λ d. look d.view.taken c.args.k) c.self.view_is ∙ c.requires.slot.1 in
    (t, subst (λ (z : TableId). c.args.k < z.words) t (omega (arith, i.1, n, s)), hand_grabs_as _ _ _ _ _ (subst (λ (z : TableId). c.args.k < z.slots) t (omega (arith, i.2, n, s))) _ (ap (λ l. (c.self.inside.seat.me.0, l)) i.3) c.args.op.cargo.number i.4 i.5 few lists)

pub store-requires : goal.store-requires
store-requires c =
    let i = c.self.invariant in
    let e = c.exchange.ensures in
    let l = c.load.ensures in
    let t = i.0 ∙ ap (λ d. d.shared.table_id) (sym c.deref-deck.ensures) in
    let n = ap (λ d. d.slots) c.self.view_is in
    let s = c.requires.slot.0 in
    let few : c.self.inside.seat.me.0.worker < 8 = subst (λ (z : ℕ). z < 8) (sym i.6) i.7 in
    let lists = ap (λ d. look d.view.taken c.args.k) c.self.view_is ∙ c.requires.slot.1 in
    let me = e.3 ∙ (λ j. ((l.2 j).0, (c.args.k, Some c.args.op) ∷ ap (λ m. rest m.1) l.2 j)) ∙ ap (λ r. (grabbed c.self.inside.seat.me.0 c.args.k (unpacked c.load.result), (c.args.k, Some c.args.op) ∷ r)) i.3 in
    let number = c.number.ensures.number ∙ ap (λ n. n.number) c.cargo.ensures in (
      e.0 ∙ l.0 ∙ t,
      subst (λ (z : TableId). c.args.k < z.words) t (omega (arith, i.1, n, s)),
      hand_finishes _ _ _ _ _ (subst (λ (z : TableId). c.args.k < z.slots) t (omega (arith, i.2, n, s))) c.args.op.cargo.number _ c.args.op _ me i.4 refl few lists
          (c.pack.ensures ∙ (λ j. packed (word Done (number j) (sym i.6 j))))
          (subst (λ (z : BookData). Finished z c.args.op.cargo.number c.args.op) (ap (λ d. d.view.about) (sym c.self.view_is)) c.requires.op),
    )
