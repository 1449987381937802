use Rattle.std.proofs.Common.{arith, ap, sym, refl, subst, inl, inr, ◌∙◌, ◌≡◌, ◌<◌, ◌∷◌, [], Some, None}
use Rattle.atomic_table.specs.Seated.{TableId}
use Rattle.atomic_table.specs.Table.{rest}
use Rattle.flight_table.specs.Word.{word, packed, unpacked}
use Rattle.flight_table.specs.View.{look, looked, grabbed, regained, at_home}
use Rattle.flight_table.specs.Rule.{Waiting, Flying}
use Rattle.flight_table.specs.Call.{desk, Recalled, NotRecalled, Shown, ShownAs}
use Rattle.flight_table.specs.declared.word.Phase.TheVariants.{Held}
use Rattle.flight_table.proofs.Owners.{owner_finds_back_as, owner_recalls_as, owner_rests}
use Rattle.flight_table.proofs.Recalls.{one_operation, was_given, not_ready, ready_word, isnt}
use Rattle.flight_table.proofs.owner.Owner.recall.Goals as goal

pub load-loaded-requires : goal.load-loaded-requires
load-loaded-requires c =
    let i = c.self.invariant in
    let t = i.0 ∙ ap (λ d. d.shared.table_id) (sym c.deref-deck.ensures) in
    let n = ap (λ d. d.slots) c.self.view_is in
    let s = c.requires in
    (t, subst (λ (z : TableId). c.args.k < z.words) t (omega (arith, i.1, n, s)), owner_finds_back_as _ _ _ _ _ (subst (λ (z : TableId). c.args.k < z.slots) t (omega (arith, i.2, n, s))) _ (ap (λ l. (c.self.inside.seat.me.0, l)) i.3) i.4 i.5)

pub returns-then-is-clause-ok : goal.returns-then-is-clause-ok
returns-then-is-clause-ok c =
    let l = c.load-loaded.ensures in
    let k = c.args.k in
    let v = c.self.inside.seat.me.0 in
    let m = unpacked c.load-loaded.result in
    let hit = l.2.2 (ap (λ z. z.phase) (sym c.unpack-first.ensures) ∙ c.is.ensures.0 c.if-is.true) in
    let r = c.regain.ensures in
    let same : hit.0 ≡ c.regain.result = one_operation k hit.0 c.regain.result _ [] (sym (ap (λ y. y.1) hit.5) ∙ r.op) in
    let view = ap (λ y. y.0) r.seat.2 ∙ ap (λ y. regained y.0 k) hit.5 in
    subst (λ d. Recalled d k c.regain.result (desk c.regain.new.seat.table_id c.self.inside.slots c.regain.new.seat.me.0)) c.self.view_is record {
      was = hit.1;
      given = hit.2;
      waiting = subst (λ (z : Flying). Waiting v.about hit.1.number z) same hit.4;
      found = looked v k m;
      looks = inr (inl (ap (looked v k) hit.3));
      after = λ j. desk ((r.seat.0 ∙ l.0) j) c.self.inside.slots (view j);
    }

pub returns-then-not-is-clause-err : goal.returns-then-not-is-clause-err
returns-then-not-is-clause-err c =
    let l = c.load-loaded.ensures in
    let k = c.args.k in
    let v = c.self.inside.seat.me.0 in
    let read = c.unpack-first.ensures in
    let first = c.unpack-first.result in
    let not_back = isnt c.is.result c.is.ensures.1 c.if-is.false in
    let miss = l.2.3 (λ e. not_back (ap (λ z. z.phase) read ∙ e)) in
    let view = ap (λ y. y.0) miss ∙ ap (looked v k) (sym read) in
    subst (λ d. NotRecalled d k first (desk c.load-loaded.new.seat.table_id c.self.inside.slots c.load-loaded.new.seat.me.0)) c.self.view_is record {
      phase = (isnt c.is-2.result c.is-2.ensures.1 c.if-not-is.true, not_back);
      shown = subst (Shown v k) (sym read) l.2.0;
      found = looked v k first;
      looks = inl refl;
      after = λ j. desk (l.0 j) c.self.inside.slots (view j);
    }

pub compare_exchange-found-requires : goal.compare_exchange-found-requires
compare_exchange-found-requires c =
    let i = c.self.invariant in
    let l = c.load-loaded.ensures in
    let t = i.0 ∙ ap (λ d. d.shared.table_id) (sym c.deref-deck.ensures) in
    let n = ap (λ d. d.slots) c.self.view_is in
    let s = c.requires in
    let read = c.unpack-first.ensures in
    let m = unpacked c.load-loaded.result in
    let miss = l.2.3 (λ e. isnt c.is.result c.is.ensures.1 c.if-is.false (ap (λ z. z.phase) read ∙ e)) in
    let ready = ap (λ z. z.phase) (sym read) ∙ c.is-2.ensures.0 c.if-not-is.false in
    let v = looked c.self.inside.seat.me.0 c.args.k m in (
      l.0 ∙ t,
      subst (λ (z : TableId). c.args.k < z.words) t (omega (arith, i.1, n, s)),
      owner_recalls_as _ _ _ _ v (subst (λ (z : TableId). c.args.k < z.slots) t (omega (arith, i.2, n, s))) _ (miss ∙ ap (λ r. (v, r)) i.3) m.number m.worker _ i.4 i.5 (omega arith)
          (l.2.1 ∙ (λ j. packed (word (ready j) m.number m.worker))),
    )

pub exchange-op-requires : goal.exchange-op-requires
exchange-op-requires c =
    let t = c.self.invariant.0 ∙ ap (λ d. d.shared.table_id) (sym c.deref-deck.ensures) in
    let x = c.compare_exchange-found.ensures in
    let hit = x.2.0 c.if-found-loaded.true in
    (x.0 ∙ c.load-loaded.ensures.0 ∙ t, (Some hit.0, ap (λ m. m.1) hit.4 ∙ ap (λ r. (c.args.k, Some hit.0) ∷ r) (ap (λ m. rest m.1) (sym hit.4))))

pub store-requires : goal.store-requires
store-requires c =
    let i = c.self.invariant in
    let l = c.load-loaded.ensures in
    let x = c.compare_exchange-found.ensures in
    let e = c.exchange-op.ensures in
    let t = i.0 ∙ ap (λ d. d.shared.table_id) (sym c.deref-deck.ensures) in
    let n = ap (λ d. d.slots) c.self.view_is in
    let s = c.requires in
    let k = c.args.k in
    let read = c.unpack-first.ensures in
    let m = unpacked c.load-loaded.result in
    let miss = l.2.3 (λ e. isnt c.is.result c.is.ensures.1 c.if-is.false (ap (λ z. z.phase) read ∙ e)) in
    let hit = x.2.0 c.if-found-loaded.true in
    let v = grabbed (regained (looked c.self.inside.seat.me.0 k m) k) k (word Held 0 0) in
    let me = e.3 ∙ (λ j. ((hit.4 j).0, (k, None) ∷ ap (λ y. rest y.1) hit.4 j)) ∙ (λ j. (grabbed (regained (miss j).0 k) k (word Held 0 0), (k, None) ∷ (miss j).1)) ∙ ap (λ r. (v, (k, None) ∷ r)) i.3 in (
      e.0 ∙ x.0 ∙ l.0 ∙ t,
      subst (λ (z : TableId). k < z.words) t (omega (arith, i.1, n, s)),
      owner_rests _ _ _ _ v (subst (λ (z : TableId). k < z.slots) t (omega (arith, i.2, n, s))) _ me i.4 refl refl,
    )

pub returns-then-found-loaded-clause-ok : goal.returns-then-found-loaded-clause-ok
returns-then-found-loaded-clause-ok c =
    let l = c.load-loaded.ensures in
    let x = c.compare_exchange-found.ensures in
    let e = c.exchange-op.ensures in
    let st = c.store.ensures in
    let k = c.args.k in
    let v = c.self.inside.seat.me.0 in
    let read = c.unpack-first.ensures in
    let m = unpacked c.load-loaded.result in
    let miss = l.2.3 (λ e. isnt c.is.result c.is.ensures.1 c.if-is.false (ap (λ z. z.phase) read ∙ e)) in
    let ready = ap (λ z. z.phase) (sym read) ∙ c.is-2.ensures.0 c.if-not-is.false in
    let hit = x.2.0 c.if-found-loaded.true in
    let given : look v.given k ≡ Some hit.1 = ap (λ y. look y.0.given k) (sym miss) ∙ hit.2 in
    let same : hit.0 ≡ c.some_op.result = one_operation k hit.0 c.some_op.result _ _ (sym (ap (λ m. m.1) hit.4) ∙ e.2 ∙ ap (λ o. (k, o) ∷ rest c.compare_exchange-found.new.seat.me.1) c.some_op.ensures) in
    let waits : Waiting v.about hit.1.number hit.0 = subst (λ y. Waiting y.0.about hit.1.number hit.0) miss hit.3 in
    let view = ap (λ y. y.0) st.2 ∙ ap (λ y. at_home y.0) e.3 ∙ ap (λ y. at_home y.0) hit.4 ∙ ap (λ y. regained y.0 k) miss in
    subst (λ d. Recalled d k c.some_op.result (desk c.store.new.seat.table_id c.self.inside.slots c.store.new.seat.me.0)) c.self.view_is record {
      was = hit.1;
      given = given;
      waiting = subst (λ (z : Flying). Waiting v.about hit.1.number z) same waits;
      found = looked v k m;
      looks = inl (ap (looked v k) (ready_word _ hit.1 m given l.2.0 ready));
      after = λ j. desk ((st.0 ∙ e.0 ∙ x.0 ∙ l.0) j) c.self.inside.slots (view j);
    }

pub returns-then-is-2-clause-ok : goal.returns-then-is-2-clause-ok
returns-then-is-2-clause-ok c =
    let l = c.load-loaded.ensures in
    let x = c.compare_exchange-found.ensures in
    let k = c.args.k in
    let v = c.self.inside.seat.me.0 in
    let read = c.unpack-first.ensures in
    let m = unpacked c.load-loaded.result in
    let m₂ = unpacked c.compare_exchange-found.result in
    let miss = l.2.3 (λ e. isnt c.is.result c.is.ensures.1 c.if-is.false (ap (λ z. z.phase) read ∙ e)) in
    let ready = ap (λ z. z.phase) (sym read) ∙ c.is-2.ensures.0 c.if-not-is.false in
    let hit = (x.2.1 c.if-found-loaded.false).2 (ap (λ z. z.phase) (sym c.unpack-word.ensures) ∙ c.is-3.ensures.0 c.if-is-2.true) in
    let r = c.regain-then-is-2.ensures in
    let given : look v.given k ≡ Some hit.1 = ap (λ y. look y.0.given k) (sym miss) ∙ hit.2 in
    let first = ready_word _ hit.1 m given l.2.0 ready in
    let same : hit.0 ≡ c.regain-then-is-2.result = one_operation k hit.0 c.regain-then-is-2.result _ [] (sym (ap (λ y. y.1) hit.5) ∙ r.op) in
    let waits : Waiting v.about hit.1.number hit.0 = subst (λ y. Waiting y.0.about hit.1.number hit.0) miss hit.4 in
    let view = ap (λ y. y.0) r.seat.2 ∙ ap (λ y. regained y.0 k) hit.5 ∙ ap (λ y. regained (looked y.0 k m₂) k) miss in
    subst (λ d. Recalled d k c.regain-then-is-2.result (desk c.regain-then-is-2.new.seat.table_id c.self.inside.slots c.regain-then-is-2.new.seat.me.0)) c.self.view_is record {
      was = hit.1;
      given = given;
      waiting = subst (λ (z : Flying). Waiting v.about hit.1.number z) same waits;
      found = looked (looked v k m) k m₂;
      looks = inr (inr (λ j. looked (looked v k (first j)) k (hit.3 j)));
      after = λ j. desk ((r.seat.0 ∙ x.0 ∙ l.0) j) c.self.inside.slots (view j);
    }

pub returns-clause-err : goal.returns-clause-err
returns-clause-err c =
    let l = c.load-loaded.ensures in
    let x = c.compare_exchange-found.ensures in
    let k = c.args.k in
    let v = c.self.inside.seat.me.0 in
    let read = c.unpack-first.ensures in
    let read₂ = c.unpack-word.ensures in
    let m = unpacked c.load-loaded.result in
    let m₂ = unpacked c.compare_exchange-found.result in
    let found = c.unpack-word.result in
    let miss = l.2.3 (λ e. isnt c.is.result c.is.ensures.1 c.if-is.false (ap (λ z. z.phase) read ∙ e)) in
    let ready = ap (λ z. z.phase) (sym read) ∙ c.is-2.ensures.0 c.if-not-is.false in
    let lift = x.2.1 c.if-found-loaded.false in
    let not_back = isnt c.is-3.result c.is-3.ensures.1 c.if-is-2.false in
    let miss₂ = lift.3 (λ e. not_back (ap (λ z. z.phase) read₂ ∙ e)) in
    let shown₂ : ShownAs (look v.given k) m₂ = subst (λ y. ShownAs (look y.0.given k) m₂) miss lift.0 in
    let first = was_given (look v.given k) m ready l.2.0 in
    let view = ap (λ y. y.0) miss₂ ∙ ap (λ y. looked y.0 k m₂) miss ∙ ap (looked (looked v k m) k) (sym read₂) in
    subst (λ d. NotRecalled d k found (desk c.compare_exchange-found.new.seat.table_id c.self.inside.slots c.compare_exchange-found.new.seat.me.0)) c.self.view_is record {
      phase = (λ e. not_ready (look v.given k) c.load-loaded.result c.compare_exchange-found.result ready l.2.0 l.2.1 shown₂ lift.1 c.if-found-loaded.false (ap (λ z. z.phase) (sym read₂) ∙ e), not_back);
      shown = subst (Shown v k) (sym read₂) shown₂;
      found = looked (looked v k m) k found;
      looks = inr (first.0, first.1, ap (λ z. looked (looked v k z) k found) first.2);
      after = λ j. desk ((x.0 ∙ l.0) j) c.self.inside.slots (view j);
    }
