use Rattle.std.proofs.Common.{arith, ap, sym, refl, subst, ◌∙◌, ◌≡◌, ◌<◌, ◌≤◌, ◌+◌, ◌%◌, ◌∷◌, [], ◌++◌, ◌^◌, None, length, List}
use Rattle.std.specs.Prelude.{slice_set, slice_index_or}
use Rattle.std.proofs.Math.Nat.{mod-lt}
use Rattle.std.proofs.lemmas.List.{length_push, length-set}
use Rattle.crypto_op.specs.Op.{made, entry_of}
use Rattle.flight_table.specs.Note.{drawn_of}
use Rattle.flight_table.specs.View.{published, sent, look}
use Rattle.flight_table.specs.Call.{with_view}
use Rattle.sched_multicore.specs.declared.place.Place.{Place}
use Rattle.sched_multicore.specs.declared.place.Trip.{Trip}
use Rattle.sched_multicore.specs.declared.place.Place.TheVariants.{Away}
use Rattle.sched_multicore.specs.Place.{BeginsPending, unreturned, trip_entry}
use Rattle.sched_multicore.specs.Queue.{Queue, Sound}
use Rattle.sched_multicore.specs.Step.{Accepted}
use Rattle.sched_multicore.proofs.Lists.{any_default}
use Rattle.sched_multicore.proofs.Places.{begins_push, unreturned_append}
use Rattle.sched_multicore.proofs.Sounds.{sound_adds, next_held}
use Rattle.sched_multicore.proofs.queue.McQp.accept.Goals as goal

pub publish-requires-clause-slot : goal.publish-requires-clause-slot
publish-requires-clause-slot g c =
    let h = c.self.invariant.0 in
    let v = c.self.view_is in
    let q = c.self.inside in
    let room : length q.places.items < q.owner.slots = subst (λ (q : Queue g.row.C.Denot). length q.places < q.desk.slots) (sym v) c.requires.room in
    let k : (q.first + length q.places.items) % q.owner.slots ≡ (q.first + c.len.result) % q.slots = λ i. (q.first + sym (c.len.ensures ∙ c.self.invariant.3) i) % sym c.self.invariant.1 i in
    (subst (λ z. z < q.owner.slots) k (mod-lt (q.first + length q.places.items) h.sizes.0), subst (λ z. look q.owner.view.given z ≡ None) k (next_held _ h room))

pub invariant_of-self : goal.invariant_of-self
invariant_of-self g c =
    let i = c.self.invariant in
    let h = i.0 in
    let v = c.self.view_is in
    let q = c.self.inside in
    let w = c.with_cargo-op.ensures in
    let t : Trip g.row.C.Denot = record { cargo = c.with_cargo-op.result.1; sent = c.of-sent.result; worker = c.args.w } in
    let room : length q.places.items < q.owner.slots = subst (λ (q : Queue g.row.C.Denot). length q.places < q.desk.slots) (sym v) c.requires.room in
    let few : length q.book.drawn < 2 ^ 58 = subst (λ (q : Queue g.row.C.Denot). length q.book.drawn < 2 ^ 58) (sym v) c.requires.few in
    let worker = subst (λ (q : Queue g.row.C.Denot). (c.args.w < length q.loads) × (slice_index_or q.loads c.args.w 0 < q.quota)) (sym v) c.requires.worker in
    let s = sound_adds _ t h room few worker.0 worker.1 in
    let same : drawn_of t.sent.value ≡ drawn_of c.args.op = ap drawn_of c.of-sent.ensures ∙ (λ j. record { request = w.made j; pos = ap (λ z. z.pos) w.spec j }) in
    let book : record { table = q.book.table; sessions = q.book.sessions; drawn = q.book.drawn ++ drawn_of t.sent.value ∷ [] } ≡ c.draw-note.new.self =
    (λ j. record { table = q.book.table; sessions = q.book.sessions; drawn = q.book.drawn ++ same j ∷ [] }) ∙ sym c.draw-note.ensures.book in
    let k : (q.first + length q.places.items) % q.owner.slots ≡ (q.first + c.len.result) % q.slots = λ j. (q.first + sym (c.len.ensures ∙ i.3) j) % sym i.1 j in
    let n : q.first + length q.places.items ≡ c.with_cargo-op.result.0.cargo.number = h.placing.all ∙ sym (ap (λ r. r.number) c.draw-note.ensures.note) ∙ sym (ap (λ r. r.number) w.cargo) in
    let desk : with_view q.owner (published q.owner.view ((q.first + length q.places.items) % q.owner.slots) (sent (q.first + length q.places.items) c.args.w)) ≡ c.publish.new.self =
    (λ j. with_view q.owner (published q.owner.view (k j) (sent (n j) c.args.w))) ∙ sym c.publish.ensures in
    let places : q.places.items ++ Away t ∷ [] ≡ c.push_back_reserved.new.self.items = sym c.push_back_reserved.ensures.items in
    let e : slice_index_or q.loads.items c.args.w 0 ≡ c.index_mut.result.now = any_default q.loads.items c.args.w 0 c.index_mut.result.now worker.0 ∙ sym c.index_mut.ensures.value in (
      subst (λ z. Sound z) (λ j. record { book = book j; desk = desk j; places = places j; first = q.first; quota = q.quota; loads = slice_set q.loads.items c.args.w (e j + 1); turn = q.turn; ordering = q.ordering; helped = q.helped }) s,
      i.1 ∙ ap (λ d. d.slots) desk,
      subst (λ z. q.slots ≤ z) (sym c.push_back_reserved.ensures.capacity) i.2,
      c.push_back_reserved.ensures.len ∙ ap (λ z. z + 1) i.3 ∙ sym (length_push q.places.items (Away t)) ∙ ap (λ l. length l) places,
      i.4 ∙ ap (λ b. b.sessions) book,
    )

pub returns : goal.returns
returns g c =
    let v = c.self.view_is in
    let q = c.self.inside in
    let w = c.with_cargo-op.ensures in
    let worker = subst (λ (q : Queue g.row.C.Denot). (c.args.w < length q.loads) × (slice_index_or q.loads c.args.w 0 < q.quota)) (sym v) c.requires.worker in
    let b = c.draw-note.ensures.book in
    let t : Trip g.row.C.Denot = record { cargo = c.with_cargo-op.result.1; sent = c.of-sent.result; worker = c.args.w } in
    let places : q.places.items ++ Away t ∷ [] ≡ c.push_back_reserved.new.self.items = sym c.push_back_reserved.ensures.items in
    let e : slice_index_or q.loads.items c.args.w 0 ≡ c.index_mut.result.now = any_default q.loads.items c.args.w 0 c.index_mut.result.now worker.0 ∙ sym c.index_mut.ensures.value in
    let entry : trip_entry t ≡ entry_of c.args.op = λ j. record { request = (ap made c.of-sent.ensures ∙ w.made) j; pos = (ap (λ z. z.spec.pos) c.of-sent.ensures ∙ ap (λ z. z.pos) w.spec) j; cargo = w.before j } in
    let now : Queue g.row.C.Denot = record { book = c.draw-note.new.self; desk = c.publish.new.self; places = c.push_back_reserved.new.self.items; first = q.first; quota = q.quota; loads = slice_set q.loads.items c.args.w (c.index_mut.result.now + 1); turn = q.turn; ordering = q.ordering; helped = q.helped } in
    subst (λ (z : Queue g.row.C.Denot). Accepted z c.args.op c.args.w now) v
    (record {
      pending = ap (λ l. unreturned l) (sym places) ∙ unreturned_append q.places.items (Away t ∷ []) ∙ ap (λ x. unreturned q.places.items ++ x ∷ []) entry;
      places = ap (λ l. length l) (sym places) ∙ length_push q.places.items (Away t) ∙ omega arith;
      begins = λ h. subst (λ (l : List (Place g.row.C.Denot)). BeginsPending l) places (begins_push q.places.items t h);
      drawn = ap (λ b. length b.drawn) b ∙ length_push q.book.drawn (drawn_of c.args.op) ∙ omega arith;
      loads = ap (λ x. slice_set q.loads.items c.args.w (x + 1)) (sym e);
      looks = ap (λ d. d.view.looks) c.publish.ensures;
      setting = λ j. record {
        book = ap (λ b. b.table) b j;
        sessions = ap (λ b. b.sessions) b j;
        table = ap (λ d. d.table) c.publish.ensures j;
        slots = ap (λ d. d.slots) c.publish.ensures j;
        workers = length-set q.loads.items c.args.w (c.index_mut.result.now + 1) j;
        quota = q.quota;
        ordering = q.ordering;
      };
      helped = refl;
      turn = refl;
    })
