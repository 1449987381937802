use Rattle.std.proofs.Common.{rules, arith, ap, sym, refl, subst, ◌∙◌, ◌≡◌, ◌≤◌, ◌-◌, ◌+◌, ◌%◌, ◌∷◌, [], ◌++◌, Some, None, length, List, true, true≢false}
use Rattle.std.specs.Prelude.{slice_set, slice_get}
use Rattle.std.proofs.lemmas.List.{length-set}
use Rattle.std.proofs.lemmas.Option.{slice_get_within}
use Rattle.crypto_op.specs.Op.{IsDone}
use Rattle.flight_table.specs.View.{look, regained}
use Rattle.sched_multicore.specs.declared.place.Place.{Place}
use Rattle.sched_multicore.specs.declared.place.Place.TheVariants.{Away, Answered, Gone}
use Rattle.sched_multicore.specs.Place.{IsAway, span, unreturned}
use Rattle.sched_multicore.specs.Queue.{Queue, Sound, collected_of}
use Rattle.sched_multicore.specs.Step.{Helped, IsIdle, LookedAt}
use Rattle.sched_multicore.proofs.Lists.{any_default, set_again, get_set, get_here}
use Rattle.sched_multicore.proofs.Looks.{AsBefore, open_as, busy_as, busy, is_out}
use Rattle.sched_multicore.proofs.Places.{unreturned_set, span_set}
use Rattle.sched_multicore.proofs.Sounds.{away_at, entry_back, meets_at, sound_desk, sound_settled}
use Rattle.sched_multicore.proofs.queue.McQp.help_at.Goals as goal

pub invariant_of-self : goal.invariant_of-self
invariant_of-self g c =
    let i = c.self.invariant in
    let q = c.self.inside in
    let e = c.in-Err.ensures.err in
    let k = (q.first + c.args.i) % q.slots in
    let f = busy_as q.owner.view e.found k c.in-Err.n e.looks in
    let slots = ap (λ d. d.slots) e.after in
    (sound_desk _ c.recall.new.self i.0 slots (subst (λ d. AsBefore q.owner.view d.view) (sym e.after) f.0), i.1 ∙ sym slots, i.2, i.3, i.4)

pub take_trip-cargo-requires : goal.take_trip-cargo-requires
take_trip-cargo-requires g c =
    let y = c.is_away.ensures.yes c.if-not-is_away.false in
    (slice_get_within c.self.inside.places.items c.args.i (Away y.0) y.1, y)

pub index_mut-requires : goal.index_mut-requires
index_mut-requires g c =
    let f = (away_at _ c.take_trip-cargo.result c.args.i c.self.invariant.0 c.take_trip-cargo.ensures.was).2 in
    search (rules, f)

pub overflow_sub-index_mut : goal.overflow_sub-index_mut
overflow_sub-index_mut g c =
    let t = c.take_trip-cargo.result in
    let f = away_at _ t c.args.i c.self.invariant.0 c.take_trip-cargo.ensures.was in
    let v = any_default c.self.inside.loads.items t.worker 0 c.index_mut.result.now f.2 ∙ sym c.index_mut.ensures.value in
    omega (arith, v, f.3)

pub put_answered-requires : goal.put_answered-requires
put_answered-requires g c =
    let p = c.take_trip-cargo.ensures in
    let xs = c.self.inside.places.items in
    let within = slice_get_within xs c.args.i (Away c.take_trip-cargo.result) p.was in
    let len = ap (λ (l : List (Place g.row.C.Denot)). length l) p.items ∙ length-set xs c.args.i Gone in
    (omega (arith, len, within), ap (λ (l : List (Place g.row.C.Denot)). slice_get l c.args.i) p.items ∙ get_here xs c.args.i Gone within)

pub invariant_of-self-in-Ok : goal.invariant_of-self-in-Ok
invariant_of-self-in-Ok g c =
    let i = c.self.invariant in
    let q = c.self.inside in
    let t = c.take_trip-cargo.result in
    let at = c.take_trip-cargo.ensures.was in
    let op = c.process.new.op in
    let f = away_at _ t c.args.i i.0 at in
    let ok = c.in-Ok.ensures.ok in
    let k = (q.first + c.args.i) % q.slots in
    let kk : k ≡ (q.first + c.args.i) % q.owner.slots = ap (λ z. (q.first + c.args.i) % z) i.1 in
    let b = (open_as q.owner.view ok.found k ok.was ok.looks).0 in
    let v = regained ok.found k in
    let load = any_default q.loads.items t.worker 0 c.index_mut.result.now f.2 ∙ sym c.index_mut.ensures.value in
    let desk = sym ok.after in
    let book = sym c.meet.ensures.same in
    let p = c.put_answered.ensures in
    let r = c.take_trip-cargo.ensures in
    let places = sym (p.items ∙ ap (λ (l : List (Place g.row.C.Denot)). slice_set l c.args.i (Answered op)) r.items ∙ set_again q.places.items c.args.i Gone (Answered op)) in
    let done = subst (λ z. IsDone z op) (c.deref.ensures ∙ i.4) c.process.ensures.done in
    let sum = ap (λ l. collected_of l (length q.loads.items)) b.2 in
    let s = sound_settled _ t c.args.i (Answered op) v (q.helped + 1) i.0 at b.0 b.3 (λ j. (kk j, None) ∷ b.1 j) (λ g z. (z, done)) (λ w. refl) (λ u. tt) (omega (arith, sum)) in (
      subst (λ (z : Queue g.row.C.Denot). Sound z) (λ j. record { book = book j; desk = desk j; places = places j; first = q.first; quota = q.quota; loads = slice_set q.loads.items t.worker (load j - 1); turn = q.turn; ordering = q.ordering; helped = q.helped + 1 }) s,
      i.1 ∙ ap (λ d. d.slots) desk,
      subst (λ z. q.slots ≤ z) (sym (p.sizes.1 ∙ r.sizes.1)) i.2,
      p.sizes.0 ∙ r.sizes.0 ∙ i.3 ∙ sym (length-set q.places.items c.args.i (Answered op)) ∙ ap (λ (l : List (Place g.row.C.Denot)). length l) places,
      i.4 ∙ ap (λ b. b.sessions) book,
    )

pub returns-in-Err-clause-err : goal.returns-in-Err-clause-err
returns-in-Err-clause-err g c =
    let i = c.self.invariant in
    let q = c.self.inside in
    let n = c.in-Err.n in
    let e = c.in-Err.ensures.err in
    let k = (q.first + c.args.i) % q.slots in
    let kk : k ≡ (q.first + c.args.i) % q.owner.slots = ap (λ z. (q.first + c.args.i) % z) i.1 in
    let f = (busy_as q.owner.view e.found k n e.looks).1 in
    let y = c.is_away.ensures.yes c.if-not-is_away.false in
    let at = away_at _ y.0 c.args.i i.0 y.1 in
    let looks = ap (λ d. d.view.looks) e.after ∙ f.1 in
    let out = is_out q.owner.view k _ n (ap (λ z. look q.owner.view.given z) kk ∙ at.0) e.shown in (
      subst (λ (z : Queue g.row.C.Denot). LookedAt z c.args.i n (record { book = q.book; desk = c.recall.new.self; places = q.places.items; first = q.first; quota = q.quota; loads = q.loads.items; turn = q.turn; ordering = q.ordering; helped = q.helped })) c.self.view_is
          (record {
            same = refl;
            setting = λ j. record { book = q.book.table; sessions = q.book.sessions; table = ap (λ d. d.table) e.after j; slots = ap (λ d. d.slots) e.after j; workers = length q.loads.items; quota = q.quota; ordering = q.ordering };
            saw = (f.0, [], looks ∙ ap (λ z. q.owner.view.looks ++ (f.0 ++ (z, n) ∷ [])) kk);
          }),
      busy n.phase out e.phase.0 e.phase.1,
    )

pub returns-in-Ok-clause-ok : goal.returns-in-Ok-clause-ok
returns-in-Ok-clause-ok g c =
    let i = c.self.invariant in
    let q = c.self.inside in
    let t = c.take_trip-cargo.result in
    let at = c.take_trip-cargo.ensures.was in
    let op = c.process.new.op in
    let x = c.in-Ok.op in
    let ok = c.in-Ok.ensures.ok in
    let k = (q.first + c.args.i) % q.slots in
    let kk : k ≡ (q.first + c.args.i) % q.owner.slots = ap (λ z. (q.first + c.args.i) % z) i.1 in
    let b = (open_as q.owner.view ok.found k ok.was ok.looks).1 in
    let looks = ap (λ d. d.view.looks) ok.after ∙ b.3 in
    let p = c.put_answered.ensures in
    let r = c.take_trip-cargo.ensures in
    let places = p.items ∙ ap (λ (l : List (Place g.row.C.Denot)). slice_set l c.args.i (Answered op)) r.items ∙ set_again q.places.items c.args.i Gone (Answered op) in
    let w = c.with_cargo-op.ensures in
    let met : slice_get q.book.drawn x.cargo.number ≡ x.cargo.entry = subst (λ n. slice_get q.book.drawn n.number ≡ n.entry) w.before c.meet.ensures.met in
    let m = meets_at _ t c.args.i x ok.was i.0 at (ap (λ z. look q.owner.view.given z) (sym kk) ∙ ok.given) ok.waiting.0 met in
    let same = sym (entry_back x c.with_cargo-op.result.0 t m.0 w.made w.spec w.cargo) ∙ sym c.process.ensures.entry in
    let within = slice_get_within q.places.items c.args.i (Away t) at in
    subst (λ (z : Queue g.row.C.Denot). Helped IsIdle z c.args.i true (record { book = c.meet.new.self; desk = c.recall.new.self; places = c.put_answered.new.places.items; first = q.first; quota = q.quota; loads = slice_set q.loads.items t.worker (c.index_mut.result.now - 1); turn = q.turn; ordering = q.ordering; helped = q.helped + 1 })) c.self.view_is
    (record {
      helps = record {
        pending = ap (λ l. unreturned l) places ∙ unreturned_set q.places.items c.args.i (Away t) (Answered op) at (ap (λ y. y ∷ []) same);
        span = ap (λ l. span l) places ∙ span_set q.places.items c.args.i t op at;
        places = ap (λ (l : List (Place g.row.C.Denot)). length l) places ∙ length-set q.places.items c.args.i (Answered op);
        first = refl;
        book = c.meet.ensures.same;
        helped = refl;
        looks = (b.2 ++ (k, b.0) ∷ [], looks);
        setting = λ j. record {
          book = ap (λ b. b.table) c.meet.ensures.same j;
          sessions = ap (λ b. b.sessions) c.meet.ensures.same j;
          table = ap (λ d. d.table) ok.after j;
          slots = ap (λ d. d.slots) ok.after j;
          workers = length-set q.loads.items t.worker (c.index_mut.result.now - 1) j;
          quota = q.quota;
          ordering = q.ordering;
        };
        turn = refl;
      };
      others = λ j ne. ap (λ (l : List (Place g.row.C.Denot)). slice_get l j) places ∙ get_set q.places.items c.args.i j (Answered op) ne;
      here = λ u s a.
          let z : Some (Answered op) ≡ Some u = sym (ap (λ (l : List (Place g.row.C.Denot)). slice_get l c.args.i) places ∙ get_here q.places.items c.args.i (Answered op) within) ∙ s in
          let e : Answered op ≡ u = cc in
          subst (λ y. IsAway y) (sym e) a;
      word = λ e. (b.0, b.1, (b.2, [], looks ∙ ap (λ z. q.owner.view.looks ++ (b.2 ++ (z, b.0) ∷ [])) kk));
      was = λ e. absurd (true≢false e);
    })
