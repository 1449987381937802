use Rattle.std.proofs.Common.{arith, ap, sym, refl, subst, ◌∙◌, ◌≡◌, ◌<◌, ◌∷◌, Some, None, ℕ}
use Rattle.atomic_table.specs.Seated.{TableId}
use Rattle.atomic_table.specs.Table.{rest}
use Rattle.flight_table.specs.Word.{word, packed, unpacked}
use Rattle.flight_table.specs.View.{grabbed, looked, listed}
use Rattle.flight_table.specs.declared.word.Phase.TheVariants.{Taken}
use Rattle.flight_table.proofs.Puts.{look_here}
use Rattle.flight_table.proofs.Steps.{hand_looks_as, hand_takes_as, hand_rests}
use Rattle.flight_table.proofs.hand.Hand.take.Goals as goal

pub load-loaded-requires : goal.load-loaded-requires
load-loaded-requires c =
    let i = c.self.invariant in
    let t = i.0 ∙ ap (λ d. d.shared.table_id) (sym c.deref-deck.ensures) in
    let n = ap (λ d. d.slots) c.self.view_is in
    let s = c.requires in
    (t, subst (λ (z : TableId). c.args.k < z.words) t (omega (arith, i.1, n, s)), hand_looks_as _ _ _ _ _ (subst (λ (z : TableId). c.args.k < z.slots) t (omega (arith, i.2, n, s))) _ (ap (λ l. (c.self.inside.seat.me.0, l)) i.3) i.4 i.5)

pub compare_exchange-found-requires : goal.compare_exchange-found-requires
compare_exchange-found-requires c =
    let i = c.self.invariant in
    let l = c.load-loaded.ensures in
    let t = i.0 ∙ ap (λ d. d.shared.table_id) (sym c.deref-deck.ensures) in
    let n = ap (λ d. d.slots) c.self.view_is in
    let s = c.requires in
    let m = c.load-loaded.result in
    let v = looked c.self.inside.seat.me.0 c.args.k (unpacked m) in
    let is : v.worker ≡ c.self.inside.worker = i.6 in
    let few : v.worker < 8 = subst (λ (z : ℕ). z < 8) (sym i.6) i.7 in
    let read = c.unpack-first.ensures in
    let phase = ap (λ z. z.phase) (sym read) ∙ c.is.ensures.0 c.if-not-is.false in
    let mine = ap (λ z. z.worker) (sym read) ∙ c.if-first-self.false ∙ sym is in (
      l.0 ∙ t,
      subst (λ (z : TableId). c.args.k < z.words) t (omega (arith, i.1, n, s)),
      hand_takes_as _ _ _ _ v (subst (λ (z : TableId). c.args.k < z.slots) t (omega (arith, i.2, n, s))) _
          (l.2.0 ∙ ap (λ r. (v, r)) i.3) (unpacked m).number m _ i.4 i.5 few
          (l.2.1 ∙ (λ j. packed (word (phase j) (unpacked m).number (mine j))))
          (c.pack.ensures ∙ (λ j. packed (word Taken (read j).number ((c.if-first-self.false ∙ sym is) j)))),
    )

pub exchange-op-requires : goal.exchange-op-requires
exchange-op-requires c =
    let t = c.self.invariant.0 ∙ ap (λ d. d.shared.table_id) (sym c.deref-deck.ensures) in
    let x = c.compare_exchange-found.ensures in
    let hit = x.2.0 c.if-found-loaded.false in
    (x.0 ∙ c.load-loaded.ensures.0 ∙ t, (Some hit.0, ap (λ m. m.1) hit.1 ∙ ap (λ r. (c.args.k, Some hit.0) ∷ r) (ap (λ m. rest m.1) (sym hit.1))))

pub store-requires : goal.store-requires
store-requires c =
    let i = c.self.invariant in
    let l = c.load-loaded.ensures in
    let x = c.compare_exchange-found.ensures in
    let e = c.exchange-op.ensures in
    let hit = x.2.0 c.if-found-loaded.false in
    let t = i.0 ∙ ap (λ d. d.shared.table_id) (sym c.deref-deck.ensures) in
    let n = ap (λ d. d.slots) c.self.view_is in
    let s = c.requires in
    let m = unpacked c.load-loaded.result in
    let f = unpacked c.compare_exchange-found.result in
    let k = c.args.k in
    let is : c.self.inside.seat.me.0.worker ≡ c.self.inside.worker = i.6 in
    let few : c.self.inside.seat.me.0.worker < 8 = subst (λ (z : ℕ). z < 8) (sym i.6) i.7 in
    let read = c.unpack-first.ensures in
    let v = grabbed (listed (looked c.self.inside.seat.me.0 k m) k f.number) k f in
    let me = e.3 ∙ (λ j. ((hit.1 j).0, (k, None) ∷ ap (λ y. rest y.1) hit.1 j)) ∙ (λ j. (grabbed (listed (l.2.0 j).0 k f.number) k f, (k, None) ∷ (l.2.0 j).1)) ∙ ap (λ r. (v, (k, None) ∷ r)) i.3 in
    let number = ap (λ z. z.number) read ∙ ap (λ (z : ℕ). (unpacked z).number) (sym c.if-found-loaded.false) in (
      e.0 ∙ x.0 ∙ l.0 ∙ t,
      subst (λ (z : TableId). k < z.words) t (omega (arith, i.1, n, s)),
      hand_rests _ _ _ _ v (subst (λ (z : TableId). k < z.slots) t (omega (arith, i.2, n, s))) f.number _ _ me i.4 refl few (look_here k (Some f.number) c.self.inside.seat.me.0.taken)
          (c.pack-2.ensures ∙ (λ j. packed (word Taken (number j) ((c.if-first-self.false ∙ sym is) j)))),
    )
