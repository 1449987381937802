use Rattle.std.proofs.Common.{rules, arith, ap, sym, refl, subst, ◌∙◌, ◌≡◌, ◌≤◌, ◌-◌, ◌+◌, ◌%◌, ◌∷◌, [], ◌++◌, None, length, List, false, true≢false}
use Rattle.std.specs.Prelude.{slice_set, slice_get}
use Rattle.std.proofs.lemmas.List.{length-set}
use Rattle.std.proofs.lemmas.Option.{slice_get_within}
use Rattle.crypto_op.specs.Op.{IsDone}
use Rattle.flight_table.specs.declared.word.Phase.TheVariants.{Done}
use Rattle.flight_table.specs.Word.{word}
use Rattle.flight_table.specs.View.{look, looked, gained}
use Rattle.sched_multicore.specs.declared.place.Place.{Place}
use Rattle.sched_multicore.specs.declared.place.Place.TheVariants.{Away, Gone}
use Rattle.sched_multicore.specs.Queue.{Queue, Sound, collected_of}
use Rattle.sched_multicore.specs.Step.{Brought, Brings, LookedAt}
use Rattle.sched_multicore.proofs.Lists.{any_default}
use Rattle.sched_multicore.proofs.Tally.{collected_more}
use Rattle.sched_multicore.proofs.Looks.{awaited, is_out}
use Rattle.sched_multicore.proofs.Places.{done_as}
use Rattle.sched_multicore.proofs.Sounds.{away_at, entry_back, meets_at, sound_desk, sound_settled, sound_taken}
use Rattle.sched_multicore.proofs.Bags.{brought_answered}
use Rattle.sched_multicore.proofs.queue.McQp.collect_at.Goals as goal

pub invariant_of-self : goal.invariant_of-self
invariant_of-self g c =
    let i = c.self.invariant in
    let q = c.self.inside in
    let r = c.take_answered.ensures in
    let places = sym r.items in
    let s = sound_taken _ c.take_answered.result c.args.i i.0 (ap (λ z. z.ordering) c.self.view_is ∙ c.requires.unordered) r.was in (
      subst (λ (z : Queue g.row.C.Denot). Sound z) (λ j. record { book = q.book; desk = q.owner; places = places j; first = q.first; quota = q.quota; loads = q.loads.items; turn = q.turn; ordering = q.ordering; helped = q.helped }) s,
      i.1,
      subst (λ z. q.slots ≤ z) (sym r.sizes.1) i.2,
      r.sizes.0 ∙ i.3 ∙ sym (length-set q.places.items c.args.i Gone) ∙ ap (λ (l : List (Place g.row.C.Denot)). length l) places,
      i.4,
    )

pub returns-then-not-is_away-clause-ok : goal.returns-then-not-is_away-clause-ok
returns-then-not-is_away-clause-ok g c =
    let q = c.self.inside in
    let r = c.take_answered.ensures in
    let now : Queue g.row.C.Denot = record { book = q.book; desk = q.owner; places = c.take_answered.new.places.items; first = q.first; quota = q.quota; loads = q.loads.items; turn = q.turn; ordering = q.ordering; helped = q.helped } in
    subst (λ (z : Queue g.row.C.Denot). Brought z c.args.i c.take_answered.result now) c.self.view_is
    (brought_answered _ now c.take_answered.result c.args.i c.self.invariant.0 r.was (λ j. record { book = q.book; desk = q.owner; places = r.items j; first = q.first; quota = q.quota; loads = q.loads.items; turn = q.turn; ordering = q.ordering; helped = q.helped }))

pub invariant_of-self-in-Err : goal.invariant_of-self-in-Err
invariant_of-self-in-Err g c =
    let i = c.self.invariant in
    let after = c.in-Err.ensures.err.after in
    let slots = ap (λ d. d.slots) after in
    (sound_desk _ c.collect.new.self i.0 slots (ap (λ d. d.view.about) after, ap (λ d. d.view.given) after, ap (λ d. d.view.collected) after, ap (λ d. d.view.made) after), i.1 ∙ sym slots, i.2, i.3, i.4)

pub take_trip-cargo-requires : goal.take_trip-cargo-requires
take_trip-cargo-requires g c =
    let y = c.is_away.ensures.yes c.if-not-is_away.false in
    (slice_get_within c.self.inside.places.items c.args.i (Away y.0) y.1, y)

pub index_mut-requires : goal.index_mut-requires
index_mut-requires g c =
    let f = (away_at _ c.take_trip-cargo.result c.args.i c.self.invariant.0 c.take_trip-cargo.ensures.was).2 in
    search (rules, f)

pub overflow_sub-index_mut : goal.overflow_sub-index_mut
overflow_sub-index_mut g c =
    let t = c.take_trip-cargo.result in
    let f = away_at _ t c.args.i c.self.invariant.0 c.take_trip-cargo.ensures.was in
    let v = any_default c.self.inside.loads.items t.worker 0 c.index_mut.result.now f.2 ∙ sym c.index_mut.ensures.value in
    omega (arith, v, f.3)

pub invariant_of-self-in-Ok : goal.invariant_of-self-in-Ok
invariant_of-self-in-Ok g c =
    let i = c.self.invariant in
    let q = c.self.inside in
    let t = c.take_trip-cargo.result in
    let r = c.take_trip-cargo.ensures in
    let x = c.in-Ok.op in
    let f = away_at _ t c.args.i i.0 r.was in
    let ok = c.in-Ok.ensures.ok in
    let k = (q.first + c.args.i) % q.slots in
    let kk : k ≡ (q.first + c.args.i) % q.owner.slots = ap (λ z. (q.first + c.args.i) % z) i.1 in
    let v = gained (looked q.owner.view k (word Done ok.was.number ok.was.worker)) k ok.was.worker in
    let load = any_default q.loads.items t.worker 0 c.index_mut.result.now f.2 ∙ sym c.index_mut.ensures.value in
    let desk = sym ok.after in
    let book = sym c.meet.ensures.same in
    let places = sym r.items in
    let met : slice_get q.book.drawn x.cargo.number ≡ x.cargo.entry = subst (λ n. slice_get q.book.drawn n.number ≡ n.entry) c.with_cargo-op.ensures.before c.meet.ensures.met in
    let who : ok.was.worker ≡ t.worker = (meets_at _ t c.args.i x ok.was i.0 r.was (ap (λ z. look q.owner.view.given z) (sym kk) ∙ ok.given) ok.finished.0 met).1 in
    let sum = ap (λ w. collected_of (w ∷ q.owner.view.collected) (length q.loads.items)) who ∙ collected_more q.owner.view.collected t.worker (length q.loads.items) f.2 in
    let off : q.ordering ≡ false = ap (λ z. z.ordering) c.self.view_is ∙ c.requires.unordered in
    let s = sound_settled _ t c.args.i Gone v q.helped i.0 r.was refl refl (ap (λ z. (z, None) ∷ q.owner.view.given) kk) (λ g z. z) (λ w. refl) (λ u. absurd (true≢false (sym u ∙ off))) (omega (arith, sum)) in (
      subst (λ (z : Queue g.row.C.Denot). Sound z) (λ j. record { book = book j; desk = desk j; places = places j; first = q.first; quota = q.quota; loads = slice_set q.loads.items t.worker (load j - 1); turn = q.turn; ordering = q.ordering; helped = q.helped }) s,
      i.1 ∙ ap (λ d. d.slots) desk,
      subst (λ z. q.slots ≤ z) (sym r.sizes.1) i.2,
      r.sizes.0 ∙ i.3 ∙ sym (length-set q.places.items c.args.i Gone) ∙ ap (λ (l : List (Place g.row.C.Denot)). length l) places,
      i.4 ∙ ap (λ b. b.sessions) book,
    )

pub returns-in-Err-clause-err : goal.returns-in-Err-clause-err
returns-in-Err-clause-err g c =
    let i = c.self.invariant in
    let q = c.self.inside in
    let n = c.in-Err.n in
    let e = c.in-Err.ensures.err in
    let k = (q.first + c.args.i) % q.slots in
    let kk : k ≡ (q.first + c.args.i) % q.owner.slots = ap (λ z. (q.first + c.args.i) % z) i.1 in
    let y = c.is_away.ensures.yes c.if-not-is_away.false in
    let at = away_at _ y.0 c.args.i i.0 y.1 in
    let looks = ap (λ d. d.view.looks) e.after in
    let out = is_out q.owner.view k _ n (ap (λ z. look q.owner.view.given z) kk ∙ at.0) e.shown in (
      subst (λ (z : Queue g.row.C.Denot). LookedAt z c.args.i n (record { book = q.book; desk = c.collect.new.self; places = q.places.items; first = q.first; quota = q.quota; loads = q.loads.items; turn = q.turn; ordering = q.ordering; helped = q.helped })) c.self.view_is
          (record {
            same = refl;
            setting = λ j. record { book = q.book.table; sessions = q.book.sessions; table = ap (λ d. d.table) e.after j; slots = ap (λ d. d.slots) e.after j; workers = length q.loads.items; quota = q.quota; ordering = q.ordering };
            saw = ([], [], looks ∙ ap (λ z. q.owner.view.looks ++ (z, n) ∷ []) kk);
          }),
      awaited n.phase out e.phase,
      (y.0, ap (λ z. slice_get z.places c.args.i) (sym c.self.view_is) ∙ y.1),
    )

pub returns-in-Ok-clause-ok : goal.returns-in-Ok-clause-ok
returns-in-Ok-clause-ok g c =
    let i = c.self.invariant in
    let q = c.self.inside in
    let t = c.take_trip-cargo.result in
    let r = c.take_trip-cargo.ensures in
    let x = c.in-Ok.op in
    let ok = c.in-Ok.ensures.ok in
    let k = (q.first + c.args.i) % q.slots in
    let kk : k ≡ (q.first + c.args.i) % q.owner.slots = ap (λ z. (q.first + c.args.i) % z) i.1 in
    let w = c.with_cargo-op.ensures in
    let met : slice_get q.book.drawn x.cargo.number ≡ x.cargo.entry = subst (λ n. slice_get q.book.drawn n.number ≡ n.entry) w.before c.meet.ensures.met in
    let m = meets_at _ t c.args.i x ok.was i.0 r.was (ap (λ z. look q.owner.view.given z) (sym kk) ∙ ok.given) ok.finished.0 met in
    let op = c.with_cargo-op.result.0 in
    let done = done_as q.owner.view.about.sessions x op w.spec w.status w.chain w.made ok.finished.1 in
    subst (λ (z : Queue g.row.C.Denot). Brings z c.args.i op (record { book = c.meet.new.self; desk = c.collect.new.self; places = c.take_trip-cargo.new.places.items; first = q.first; quota = q.quota; loads = slice_set q.loads.items t.worker (c.index_mut.result.now - 1); turn = q.turn; ordering = q.ordering; helped = q.helped })) c.self.view_is
    (record {
      places = r.items;
      was = (Away t, r.was, ap (λ y. y ∷ []) (sym (entry_back x op t m.0 w.made w.spec w.cargo)));
      done = subst (λ z. IsDone z op) i.0.about.1 done;
      first = refl;
      looks = ((k, word Done ok.was.number ok.was.worker) ∷ [], ap (λ d. d.view.looks) ok.after);
      book = c.meet.ensures.same;
      setting = λ j. record {
        book = ap (λ b. b.table) c.meet.ensures.same j;
        sessions = ap (λ b. b.sessions) c.meet.ensures.same j;
        table = ap (λ d. d.table) ok.after j;
        slots = ap (λ d. d.slots) ok.after j;
        workers = length-set q.loads.items t.worker (c.index_mut.result.now - 1) j;
        quota = q.quota;
        ordering = q.ordering;
      };
      helped = refl;
      turn = refl;
    })
