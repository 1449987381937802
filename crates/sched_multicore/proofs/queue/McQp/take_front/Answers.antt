use Rattle.std.proofs.Common.{rules, arith, ap, sym, refl, subst, ◌∙◌, ◌≡◌, ◌≤◌, ◌-◌, ◌+◌, ◌%◌, ◌∷◌, [], ◌++◌, Some, None, length, List}
use Rattle.std.specs.Prelude.{slice_set, slice_get}
use Rattle.std.proofs.lemmas.List.{append-nil, length-set}
use Rattle.crypto_op.specs.Op.{IsDone}
use Rattle.flight_table.specs.declared.word.Phase.TheVariants.{Done}
use Rattle.flight_table.specs.Word.{word}
use Rattle.flight_table.specs.View.{look, looked, gained}
use Rattle.flight_table.proofs.Puts.{some_same}
use Rattle.sched_multicore.specs.declared.place.Place.{Place}
use Rattle.sched_multicore.specs.Place.{unreturned}
use Rattle.sched_multicore.specs.Queue.{Queue, Sound}
use Rattle.sched_multicore.specs.Step.{Returned, LookedAt}
use Rattle.sched_multicore.proofs.Lists.{any_default}
use Rattle.sched_multicore.proofs.Looks.{awaited, is_out}
use Rattle.sched_multicore.proofs.Places.{done_as}
use Rattle.sched_multicore.proofs.Sounds.{away_at, entry_back, front_done, meets_at, sound_away, sound_desk, sound_dropped}
use Rattle.sched_multicore.proofs.queue.McQp.take_front.Goals as goal

pub invariant_of-self : goal.invariant_of-self
invariant_of-self g c =
    let i = c.self.invariant in
    let r = c.in-Some-Answered.ensures in
    let e = r.items ∙ ap (λ x. x ∷ c.pop_front.new.self.items) c.in-Some-Answered.field-0-is in
    let l = ap (λ (l : List (Place g.row.C.Denot)). length l) e in
    (sound_dropped _ (Some c.in-Some-Answered.op) c.pop_front.new.self.items i.0 e, i.1, subst (λ z. c.self.inside.slots ≤ z) (sym r.capacity) i.2, omega (arith, r.cases, i.3, l), i.4)

pub invariant_of-self-in-Err : goal.invariant_of-self-in-Err
invariant_of-self-in-Err g c =
    let i = c.self.invariant in
    let q = c.self.inside in
    let r = c.in-Some-Away.ensures in
    let e = r.items ∙ ap (λ x. x ∷ c.pop_front.new.self.items) c.in-Some-Away.field-0-is in
    let p = c.push_front_reserved.ensures in
    let back = e ∙ sym p.items in
    let l = ap (λ (l : List (Place g.row.C.Denot)). length l) back in
    let after = c.in-Err.ensures.err.after in
    let slots = ap (λ d. d.slots) after in
    let s = sound_desk _ c.collect.new.self i.0 slots (ap (λ d. d.view.about) after, ap (λ d. d.view.given) after, ap (λ d. d.view.collected) after, ap (λ d. d.view.made) after) in (
      subst (λ (z : Queue g.row.C.Denot). Sound z) (λ j. record { book = q.book; desk = c.collect.new.self; places = back j; first = q.first; quota = q.quota; loads = q.loads.items; turn = q.turn; ordering = q.ordering; helped = q.helped }) s,
      i.1 ∙ sym slots,
      subst (λ z. q.slots ≤ z) (sym (p.capacity ∙ r.capacity)) i.2,
      omega (arith, r.cases, p.len, i.3, l),
      i.4,
    )

pub index_mut-requires : goal.index_mut-requires
index_mut-requires g c =
    let r = c.in-Some-Away.ensures in
    let e = r.items ∙ ap (λ x. x ∷ c.pop_front.new.self.items) c.in-Some-Away.field-0-is in
    let f = (away_at _ c.in-Some-Away.trip 0 c.self.invariant.0 (ap (λ l. slice_get l 0) e)).2 in
    search (rules, f)

pub overflow_sub-index_mut : goal.overflow_sub-index_mut
overflow_sub-index_mut g c =
    let r = c.in-Some-Away.ensures in
    let e = r.items ∙ ap (λ x. x ∷ c.pop_front.new.self.items) c.in-Some-Away.field-0-is in
    let f = away_at _ c.in-Some-Away.trip 0 c.self.invariant.0 (ap (λ l. slice_get l 0) e) in
    let v = any_default c.self.inside.loads.items c.in-Some-Away.trip.worker 0 c.index_mut.result.now f.2 ∙ sym c.index_mut.ensures.value in
    omega (arith, v, f.3)

pub invariant_of-self-in-Ok-1 : goal.invariant_of-self-in-Ok-1
invariant_of-self-in-Ok-1 g c =
    let i = c.self.invariant in
    let q = c.self.inside in
    let t = c.in-Some-Away.trip in
    let xs = c.pop_front.new.self.items in
    let r = c.in-Some-Away.ensures in
    let e = r.items ∙ ap (λ x. x ∷ xs) c.in-Some-Away.field-0-is in
    let l = ap (λ (l : List (Place g.row.C.Denot)). length l) e in
    let first = ap (λ l. slice_get l 0) e in
    let f = away_at _ t 0 i.0 first in
    let ok = c.in-Ok.ensures.ok in
    let k = q.first % q.slots in
    let kk : k ≡ q.first % q.owner.slots = ap (λ z. q.first % z) i.1 in
    let k0 : q.first % q.slots ≡ (q.first + 0) % q.owner.slots = kk ∙ ap (λ z. z % q.owner.slots) {x = q.first} {y = q.first + 0} (omega arith) in
    let v = gained (looked q.owner.view k (word Done ok.was.number ok.was.worker)) k ok.was.worker in
    let load = any_default q.loads.items t.worker 0 c.index_mut.result.now f.2 ∙ sym c.index_mut.ensures.value in
    let desk = sym ok.after in
    let book = sym c.meet.ensures.same in
    let who : ok.was.worker ≡ t.worker = ap (λ z. z.worker) (some_same _ _ (sym ok.given ∙ ap (λ z. look q.owner.view.given z) k0 ∙ f.0)) in
    let s = sound_away _ t xs v i.0 e refl refl (ap (λ z. (z, None) ∷ q.owner.view.given) kk) (ap (λ w. w ∷ q.owner.view.collected) who) in (
      subst (λ (z : Queue g.row.C.Denot). Sound z) (λ j. record { book = book j; desk = desk j; places = xs; first = q.first + 1; quota = q.quota; loads = slice_set q.loads.items t.worker (load j - 1); turn = q.turn; ordering = q.ordering; helped = q.helped }) s,
      i.1 ∙ ap (λ d. d.slots) desk,
      subst (λ z. q.slots ≤ z) (sym r.capacity) i.2,
      omega (arith, r.cases, i.3, l),
      i.4 ∙ ap (λ b. b.sessions) book,
    )

pub returns-in-Some-Answered-clause-ok : goal.returns-in-Some-Answered-clause-ok
returns-in-Some-Answered-clause-ok g c =
    let i = c.self.invariant in
    let q = c.self.inside in
    let op = c.in-Some-Answered.op in
    let xs = c.pop_front.new.self.items in
    let r = c.in-Some-Answered.ensures in
    let e = r.items ∙ ap (λ x. x ∷ xs) c.in-Some-Answered.field-0-is in
    subst (λ (z : Queue g.row.C.Denot). Returned z op (record { book = q.book; desk = q.owner; places = xs; first = q.first + 1; quota = q.quota; loads = q.loads.items; turn = q.turn; ordering = q.ordering; helped = q.helped })) c.self.view_is
    (record {
      pending = ap (λ l. unreturned l) e;
      done = front_done _ op xs i.0 e;
      looks = ([], sym (append-nil q.owner.view.looks));
      book = refl;
      setting = refl;
      helped = refl;
      turn = refl;
    })

pub returns-in-Err-clause-err : goal.returns-in-Err-clause-err
returns-in-Err-clause-err g c =
    let i = c.self.invariant in
    let q = c.self.inside in
    let n = c.in-Err.n in
    let t = c.in-Some-Away.trip in
    let xs = c.pop_front.new.self.items in
    let r = c.in-Some-Away.ensures in
    let e = r.items ∙ ap (λ x. x ∷ xs) c.in-Some-Away.field-0-is in
    let back = sym (e ∙ sym c.push_front_reserved.ensures.items) in
    let err = c.in-Err.ensures.err in
    let f = away_at _ t 0 i.0 (ap (λ l. slice_get l 0) e) in
    let k0 : q.first % q.slots ≡ (q.first + 0) % q.owner.slots = ap (λ z. q.first % z) i.1 ∙ ap (λ z. z % q.owner.slots) {x = q.first} {y = q.first + 0} (omega arith) in
    let looks = ap (λ d. d.view.looks) err.after in
    let now : Queue g.row.C.Denot = record { book = q.book; desk = c.collect.new.self; places = c.push_front_reserved.new.self.items; first = q.first; quota = q.quota; loads = q.loads.items; turn = q.turn; ordering = q.ordering; helped = q.helped } in
    let out = is_out q.owner.view (q.first % q.slots) _ n (ap (λ z. look q.owner.view.given z) k0 ∙ f.0) err.shown in (
      subst (λ (z : Queue g.row.C.Denot). LookedAt z 0 n now) c.self.view_is
          (record {
            same = λ j. record { book = q.book; desk = c.collect.new.self; places = back j; first = q.first; quota = q.quota; loads = q.loads.items; turn = q.turn; ordering = q.ordering; helped = q.helped };
            setting = λ j. record { book = q.book.table; sessions = q.book.sessions; table = ap (λ d. d.table) err.after j; slots = ap (λ d. d.slots) err.after j; workers = length q.loads.items; quota = q.quota; ordering = q.ordering };
            saw = ([], [], looks ∙ ap (λ z. q.owner.view.looks ++ (z, n) ∷ []) k0);
          }),
      awaited n.phase out err.phase,
    )

pub returns-in-Ok-clause-ok : goal.returns-in-Ok-clause-ok
returns-in-Ok-clause-ok g c =
    let i = c.self.invariant in
    let q = c.self.inside in
    let t = c.in-Some-Away.trip in
    let xs = c.pop_front.new.self.items in
    let x = c.in-Ok.op in
    let r = c.in-Some-Away.ensures in
    let e = r.items ∙ ap (λ x. x ∷ xs) c.in-Some-Away.field-0-is in
    let ok = c.in-Ok.ensures.ok in
    let k0 : q.first % q.slots ≡ (q.first + 0) % q.owner.slots = ap (λ z. q.first % z) i.1 ∙ ap (λ z. z % q.owner.slots) {x = q.first} {y = q.first + 0} (omega arith) in
    let w = c.with_cargo-op.ensures in
    let met : slice_get q.book.drawn x.cargo.number ≡ x.cargo.entry = subst (λ n. slice_get q.book.drawn n.number ≡ n.entry) w.before c.meet.ensures.met in
    let m = meets_at _ t 0 x ok.was i.0 (ap (λ l. slice_get l 0) e) (ap (λ z. look q.owner.view.given z) (sym k0) ∙ ok.given) ok.finished.0 met in
    let op = c.with_cargo-op.result.0 in
    let done = done_as q.owner.view.about.sessions x op w.spec w.status w.chain w.made ok.finished.1 in
    let now : Queue g.row.C.Denot = record { book = c.meet.new.self; desk = c.collect.new.self; places = xs; first = q.first + 1; quota = q.quota; loads = slice_set q.loads.items t.worker (c.index_mut.result.now - 1); turn = q.turn; ordering = q.ordering; helped = q.helped } in
    subst (λ (z : Queue g.row.C.Denot). Returned z op now) c.self.view_is
    (record {
      pending = ap (λ l. unreturned l) e ∙ ap (λ y. y ∷ unreturned xs) (sym (entry_back x op t m.0 w.made w.spec w.cargo));
      done = subst (λ z. IsDone z op) i.0.about.1 done;
      looks = ((q.first % q.slots, word Done ok.was.number ok.was.worker) ∷ [], ap (λ d. d.view.looks) ok.after);
      book = c.meet.ensures.same;
      setting = λ j. record {
        book = ap (λ b. b.table) c.meet.ensures.same j;
        sessions = ap (λ b. b.sessions) c.meet.ensures.same j;
        table = ap (λ d. d.table) ok.after j;
        slots = ap (λ d. d.slots) ok.after j;
        workers = length-set q.loads.items t.worker (c.index_mut.result.now - 1) j;
        quota = q.quota;
        ordering = q.ordering;
      };
      helped = refl;
      turn = refl;
    })
