use Rattle.std.proofs.Common.{arith, ap, sym, refl, subst, ◌∙◌, ◌<◌, ◌∷◌, Some, ℕ}
use Rattle.atomic_table.specs.Seated.{TableId}
use Rattle.atomic_table.specs.Table.{rest}
use Rattle.flight_table.specs.Note.{BookData}
use Rattle.flight_table.specs.Word.{word, packed, unpacked}
use Rattle.flight_table.specs.View.{look, grabbed}
use Rattle.flight_table.specs.Rule.{Waiting}
use Rattle.flight_table.specs.declared.word.Phase.TheVariants.{Ready}
use Rattle.flight_table.proofs.Owners.{owner_grabs_as, owner_publishes}
use Rattle.flight_table.proofs.owner.Owner.publish.Goals as goal

pub load-requires : goal.load-requires
load-requires c =
    let i = c.self.invariant in
    let t = i.0 ∙ ap (λ d. d.shared.table_id) (sym c.deref-deck.ensures) in
    let n = ap (λ d. d.slots) c.self.view_is in
    let s = c.requires.slot.0 in
    (t, subst (λ (z : TableId). c.args.k < z.words) t (omega (arith, i.1, n, s)), owner_grabs_as _ _ _ _ _ (subst (λ (z : TableId). c.args.k < z.slots) t (omega (arith, i.2, n, s))) _ (ap (λ l. (c.self.inside.seat.me.0, l)) i.3) i.4 i.5 (ap (λ d. look d.view.given c.args.k) c.self.view_is ∙ c.requires.slot.1))

pub store-requires : goal.store-requires
store-requires c =
    let i = c.self.invariant in
    let e = c.exchange.ensures in
    let l = c.load.ensures in
    let t = i.0 ∙ ap (λ d. d.shared.table_id) (sym c.deref-deck.ensures) in
    let n = ap (λ d. d.slots) c.self.view_is in
    let s = c.requires.slot.0 in
    let made = ap (λ d. d.view.made) c.self.view_is in
    let w = c.requires.worker in
    let me = e.3 ∙ (λ j. ((l.2 j).0, (c.args.k, Some c.args.op) ∷ ap (λ m. rest m.1) l.2 j)) ∙ ap (λ r. (grabbed c.self.inside.seat.me.0 c.args.k (unpacked c.load.result), (c.args.k, Some c.args.op) ∷ r)) i.3 in
    let number = c.number.ensures.number ∙ ap (λ n. n.number) c.cargo.ensures in (
      e.0 ∙ l.0 ∙ t,
      subst (λ (z : TableId). c.args.k < z.words) t (omega (arith, i.1, n, s)),
      owner_publishes _ _ _ _ _ (subst (λ (z : TableId). c.args.k < z.slots) t (omega (arith, i.2, n, s))) c.args.op.cargo.number _ c.args.w c.args.op _ me i.4 refl
          (ap (λ d. look d.view.given c.args.k) c.self.view_is ∙ c.requires.slot.1) (let few = i.7 in omega (arith, few, made, w)) (c.pack.ensures ∙ ap (λ (p : ℕ). packed (word Ready p c.args.w)) number)
          (subst (λ (z : BookData). Waiting z c.args.op.cargo.number c.args.op) (ap (λ d. d.view.about) (sym c.self.view_is)) c.requires.op),
    )

pub overflow_cast-word : goal.overflow_cast-word
overflow_cast-word c = let few = c.self.invariant.7 in let made = ap (λ d. d.view.made) c.self.view_is in let w = c.requires.worker in omega (arith, few, made, w)
