-- A queue pair keeps what it must.
use Rattle.std.proofs.Common.{◌≡◌, ℕ, ◌+◌, ◌-◌, ◌%◌, ◌<◌, ◌≤◌, ◌^◌, List, [], ◌∷◌, ◌++◌, length, refl, sym, ap, ◌∙◌, subst, arith, Bool, true, false, true≢false, Option, Some, None}
use Rattle.std.specs.Prelude.{slice_get, slice_set, slice_index_or, replicate}
use Rattle.std.proofs.Math.Nat.{mod-lt}
use Rattle.std.proofs.lemmas.List.{length_push, length-set}
use Rattle.std.proofs.lemmas.Option.{slice_get_within}
use Rattle.atomic_table.specs.Seated.{TableId}
use Rattle.crypto_op.specs.declared.op.Op.{Op}
use Rattle.crypto_op.specs.Op.{IsDone, made, entry_of}
use Rattle.flight_table.specs.declared.rule.FlightView.{FlightView}
use Rattle.flight_table.specs.declared.rule.Sent.{Sent}
use Rattle.flight_table.specs.Note.{BookData, drawn_of}
use Rattle.flight_table.specs.View.{look, sent, published, opened}
use Rattle.flight_table.specs.Rule.{Flying, OfBook}
use Rattle.flight_table.specs.Call.{Desk, desk, with_view}
use Rattle.flight_table.proofs.Puts.{look_here, look_else, some_same}
use Rattle.sched_multicore.specs.declared.place.Trip.{Trip}
use Rattle.sched_multicore.specs.declared.place.Place.{Place}
use Rattle.sched_multicore.specs.declared.place.Place.TheVariants.{Away, Answered, Gone}
use Rattle.sched_multicore.specs.Place.{GivenList, trip_entry, IsPending, NoneGone, at_worker, Placed, Placing}
use Rattle.sched_multicore.specs.Queue.{Queue, Sound, Loaded, collected_of, total}
use Rattle.sched_multicore.specs.Step.{next, slot_at, answered_place}
use Rattle.sched_multicore.proofs.Lists.{far, set_split}
use Rattle.sched_multicore.proofs.Tally.{total_set, total_none, collected_more, collected_none, zeros_len, zeros_at}
use Rattle.sched_multicore.proofs.Looks.{AsBefore}
use Rattle.sched_multicore.proofs.Places.{place_push, place_pop, place_set, outstanding_last, outstanding_more, outstanding_set, loaded_set, at_other, at_own, none_push, none_set, held_at, none_with}

module _ {C : Type 0} where
  -- One operation more

  abbrev pub added_to : Queue C → Trip C → Queue C
  added_to q t = record {
    book = record { table = q.book.table; sessions = q.book.sessions; drawn = q.book.drawn ++ drawn_of t.sent.value ∷ [] };
    desk = with_view q.desk (published q.desk.view (next q % q.desk.slots) (sent (next q) t.worker));
    places = q.places ++ Away t ∷ [];
    first = q.first;
    quota = q.quota;
    loads = slice_set q.loads t.worker (slice_index_or q.loads t.worker 0 + 1);
    turn = q.turn;
    ordering = q.ordering;
    helped = q.helped;
  }

  pub sound_adds : (q : Queue C) (t : Trip C) → Sound q → length q.places < q.desk.slots → length q.book.drawn < 2 ^ 58 → t.worker < length q.loads
      → slice_index_or q.loads t.worker 0 < q.quota → Sound (added_to q t)
  sound_adds q t h room few small spare =
      let k = next q % q.desk.slots in
      let n = slice_index_or q.loads t.worker 0 + 1 in
      let ls = slice_set q.loads t.worker n in
      let g : GivenList = (k, Some (sent (next q) t.worker)) ∷ q.desk.view.given in
      let m = length_push q.book.drawn (drawn_of t.sent.value) in
      let len : length ls ≡ length q.loads = length-set q.loads t.worker n in
      let old = h.loaded t.worker small in
      let z = h.sizes in
      let p = place_push q.desk.slots q.first (length q.loads) q.book.sessions q.desk.view.given q.book.drawn q.places t h.placing room small in
      record {
        about = h.about;
        workers = len ∙ h.workers;
        sizes = (z.0, z.1, z.2, omega (arith, len, z.3), omega (arith, len, z.4), omega (arith, m, few));
        placing = subst (λ (w : ℕ). Placing q.desk.slots q.first w q.book.sessions g (q.book.drawn ++ drawn_of t.sent.value ∷ []) (q.places ++ Away t ∷ [])) (sym len) p;
        loaded = loaded_set q.quota q.loads q.places (q.places ++ Away t ∷ []) t.worker n h.loaded small (λ w ne. outstanding_last w q.places t ne)
            (ap (λ z. z + 1) old.0 ∙ sym (outstanding_more q.places t)) (omega (arith, spare));
        order = λ e. none_push q.places t (h.order e);
        tally =
            let s = total_set q.loads t.worker n small in
            let c : collected_of q.desk.view.collected (length ls) ≡ collected_of q.desk.view.collected (length q.loads) = ap (λ z. collected_of q.desk.view.collected z) len in
            omega (arith, s, c, h.tally, m);
      }

  -- the next slot is the owner's
  pub next_held : (q : Queue C) → Sound q → length q.places < q.desk.slots → look q.desk.view.given (next q % q.desk.slots) ≡ None
  next_held q h room = h.placing.others (next q % q.desk.slots) (mod-lt (next q) h.sizes.0) (λ i li. far q.desk.slots q.first i (length q.places) (omega (arith, li, room)) room (omega (arith, li)))

  -- The first place

  -- the first place goes, which no worker has
  pub sound_dropped : (q : Queue C) (o : Option (Op C)) (xs : List (Place C)) → Sound q → q.places ≡ answered_place o ∷ xs
      → Sound (record { book = q.book; desk = q.desk; places = xs; first = q.first + 1; quota = q.quota; loads = q.loads; turn = q.turn; ordering = q.ordering; helped = q.helped })
  sound_dropped q o xs h e =
      let p = subst (λ (l : List (Place C)). Placing q.desk.slots q.first (length q.loads) q.book.sessions q.desk.view.given q.book.drawn l) e h.placing in
      let z : look q.desk.view.given (q.first % q.desk.slots) ≡ None =
      held_at q.desk.slots q.desk.view.given q.book.drawn q.book.sessions (length q.loads) q.first o
      (subst (λ n. Placed q.desk.slots q.desk.view.given q.book.drawn q.book.sessions (length q.loads) n (answered_place o)) {x = q.first + 0} {y = q.first} (omega arith) (p.each 0 (answered_place o) refl)) in
      record {
        about = h.about;
        workers = h.workers;
        sizes = h.sizes;
        placing = place_pop q.desk.slots q.first (length q.loads) q.book.sessions q.desk.view.given q.desk.view.given q.book.drawn (answered_place o) xs p z (λ j ne. refl);
        loaded = λ w lt. let a = subst (λ (l : List (Place C)). Loaded q.quota q.loads l) e h.loaded w lt in let n = none_with w o in (omega (arith, a.0, n), a.1);
        order = λ a. (subst (λ (l : List (Place C)). NoneGone l) e (h.order a)).1;
        tally = h.tally;
      }

  pub front_done : (q : Queue C) (op : Op C) (xs : List (Place C)) → Sound q → q.places ≡ Answered op ∷ xs → IsDone q.book.sessions op
  front_done q op xs h e = (h.placing.each 0 (Answered op) (ap (λ l. slice_get l 0) e)).1

  -- A place whose operation a worker may have

  pub away_at : (q : Queue C) (t : Trip C) (i : ℕ) → Sound q → slice_get q.places i ≡ Some (Away t)
      → (look q.desk.view.given (slot_at q i) ≡ Some (sent (q.first + i) t.worker)) × (slice_get q.book.drawn (q.first + i) ≡ Some (drawn_of t.sent.value))
      × (t.worker < length q.loads) × (0 < slice_index_or q.loads t.worker 0)
  away_at q t i h e =
      let at = h.placing.each i (Away t) e in
      let o = h.loaded t.worker at.2 in
      let s = outstanding_set t.worker q.places i (Away t) Gone e in
      let one = at_own t in
      (at.0, at.1, at.2, omega (arith, o.0, s, one))

  -- the first place goes, whose operation came from its worker
  pub sound_away : (q : Queue C) (t : Trip C) (xs : List (Place C)) (v : FlightView) → Sound q → q.places ≡ Away t ∷ xs
      → v.about ≡ q.desk.view.about → v.made ≡ q.desk.view.made → v.given ≡ (q.first % q.desk.slots, None) ∷ q.desk.view.given → v.collected ≡ t.worker ∷ q.desk.view.collected
      → Sound (record { book = q.book; desk = with_view q.desk v; places = xs; first = q.first + 1; quota = q.quota; loads = slice_set q.loads t.worker (slice_index_or q.loads t.worker 0 - 1); turn = q.turn; ordering = q.ordering; helped = q.helped })
  sound_away q t xs v h e about made given collected =
      let k = q.first % q.desk.slots in
      let n = slice_index_or q.loads t.worker 0 - 1 in
      let g : GivenList = (k, None) ∷ q.desk.view.given in
      let p = subst (λ (l : List (Place C)). Placing q.desk.slots q.first (length q.loads) q.book.sessions q.desk.view.given q.book.drawn l) e h.placing in
      let l = subst (λ (l : List (Place C)). Loaded q.quota q.loads l) e h.loaded in
      let f = away_at q t 0 h (ap (λ l. slice_get l 0) e) in
      let o = l t.worker f.2 in
      let one = at_own t in
      let len : length (slice_set q.loads t.worker n) ≡ length q.loads = length-set q.loads t.worker n in
      let z = h.sizes in
      let done = place_pop q.desk.slots q.first (length q.loads) q.book.sessions q.desk.view.given g q.book.drawn (Away t) xs p (look_here k None q.desk.view.given) (λ j ne. look_else k None j q.desk.view.given ne) in
      record {
        about = (ap (λ a. a.table) about ∙ h.about.0, ap (λ a. a.sessions) about ∙ h.about.1);
        workers = len ∙ h.workers ∙ sym made;
        sizes = (z.0, z.1, z.2, omega (arith, len, z.3), omega (arith, len, z.4), z.5);
        placing = subst (λ (g : GivenList). Placing q.desk.slots (q.first + 1) (length (slice_set q.loads t.worker n)) q.book.sessions g q.book.drawn xs) (sym given)
            (subst (λ (w : ℕ). Placing q.desk.slots (q.first + 1) w q.book.sessions g q.book.drawn xs) (sym len) done);
        loaded = loaded_set q.quota q.loads (Away t ∷ xs) xs t.worker n l f.2 (λ w ne. let u = at_other w t ne in omega (arith, u)) (omega (arith, o.0, one)) (omega (arith, o.1));
        order = λ a. (subst (λ (l : List (Place C)). NoneGone l) e (h.order a)).1;
        tally =
            let s = total_set q.loads t.worker n f.2 in
            let c : collected_of v.collected (length (slice_set q.loads t.worker n)) ≡ collected_of (t.worker ∷ q.desk.view.collected) (length q.loads) = λ i. collected_of (collected i) (len i) in
            let m = collected_more q.desk.view.collected t.worker (length q.loads) f.2 in
            omega (arith, s, c, m, h.tally, f.3);
      }

  -- a place in the middle, whose operation the owner has back
  pub sound_settled : (q : Queue C) (t : Trip C) (i : ℕ) (y : Place C) (v : FlightView) (n : ℕ) → Sound q → slice_get q.places i ≡ Some (Away t)
      → v.about ≡ q.desk.view.about → v.made ≡ q.desk.view.made → v.given ≡ (slot_at q i, None) ∷ q.desk.view.given
      → ((g : GivenList) → look g (slot_at q i) ≡ None → Placed q.desk.slots g q.book.drawn q.book.sessions (length q.loads) (q.first + i) y)
      → ((w : ℕ) → at_worker w y ≡ 0) → (q.ordering ≡ true → IsPending y)
      → n + collected_of v.collected (length q.loads) ≡ q.helped + collected_of q.desk.view.collected (length q.loads) + 1
      → Sound (record { book = q.book; desk = with_view q.desk v; places = slice_set q.places i y; first = q.first; quota = q.quota; loads = slice_set q.loads t.worker (slice_index_or q.loads t.worker 0 - 1); turn = q.turn; ordering = q.ordering; helped = n })
  sound_settled q t i y v n h e about made given fits none pending sum =
      let k = slot_at q i in
      let m = slice_index_or q.loads t.worker 0 - 1 in
      let f = away_at q t i h e in
      let within = slice_get_within q.places i (Away t) e in
      let len : length (slice_set q.loads t.worker m) ≡ length q.loads = length-set q.loads t.worker m in
      let z = h.sizes in
      let g : GivenList = (k, None) ∷ q.desk.view.given in
      let p = place_set q.desk.slots q.first (length q.loads) q.book.sessions q.desk.view.given g q.book.drawn q.places (slice_set q.places i y) i y h.placing within
      (λ j ne. look_else k None j q.desk.view.given ne) (fits g (look_here k None q.desk.view.given)) (length-set q.places i y) (λ j x at. set_split q.places i y j x at) in
      let o = h.loaded t.worker f.2 in
      let one = at_own t in
      let a = outstanding_set t.worker q.places i (Away t) y e in
      record {
        about = (ap (λ a. a.table) about ∙ h.about.0, ap (λ a. a.sessions) about ∙ h.about.1);
        workers = len ∙ h.workers ∙ sym made;
        sizes = (z.0, z.1, z.2, omega (arith, len, z.3), omega (arith, len, z.4), z.5);
        placing = subst (λ (g : GivenList). Placing q.desk.slots q.first (length (slice_set q.loads t.worker m)) q.book.sessions g q.book.drawn (slice_set q.places i y)) (sym given)
            (subst (λ (w : ℕ). Placing q.desk.slots q.first w q.book.sessions g q.book.drawn (slice_set q.places i y)) (sym len) p);
        loaded = loaded_set q.quota q.loads q.places (slice_set q.places i y) t.worker m h.loaded f.2
            (λ w ne. let u = at_other w t ne in let s = outstanding_set w q.places i (Away t) y e in let n = none w in omega (arith, u, s, n))
            (let n = none t.worker in omega (arith, o.0, a, one, n)) (omega (arith, o.1));
        order = λ u. none_set q.places i y (pending u) (h.order u);
        tally =
            let s = total_set q.loads t.worker m f.2 in
            let c : collected_of v.collected (length (slice_set q.loads t.worker m)) ≡ collected_of v.collected (length q.loads) = ap (λ z. collected_of v.collected z) len in
            omega (arith, s, c, sum, h.tally, f.3);
      }

  -- what came back from a slot is what was accepted there
  pub meets_at : (q : Queue C) (t : Trip C) (i : ℕ) (x : Flying) (was : Sent) → Sound q → slice_get q.places i ≡ Some (Away t) → look q.desk.view.given (slot_at q i) ≡ Some was
      → OfBook q.desk.view.about was.number x → slice_get q.book.drawn x.cargo.number ≡ x.cargo.entry
      → (drawn_of x ≡ drawn_of t.sent.value) × (was.worker ≡ t.worker) × (x.cargo.book ≡ q.book.table)
  meets_at q t i x was h e given of met =
      let f = away_at q t i h e in
      let s : was ≡ sent (q.first + i) t.worker = some_same was (sent (q.first + i) t.worker) (sym given ∙ f.0) in
      let n : x.cargo.number ≡ q.first + i = of.1 ∙ ap (λ z. z.number) s in
      (some_same (drawn_of x) (drawn_of t.sent.value) (sym of.2 ∙ sym met ∙ ap (λ z. slice_get q.book.drawn z) n ∙ f.1), ap (λ z. z.worker) s, of.0 ∙ h.about.0)

  pub entry_back : (x : Flying) (op : Op C) (t : Trip C) → drawn_of x ≡ drawn_of t.sent.value → made op ≡ made x → op.spec ≡ x.spec → op.cargo ≡ t.cargo → entry_of op ≡ trip_entry t
  entry_back x op t d m s c = λ i. record { request = (m ∙ ap (λ u. u.request) d) i; pos = (ap (λ u. u.pos) s ∙ ap (λ u. u.pos) d) i; cargo = c i }

  -- Nothing but the desk, or a place without operation, changes

  -- the owner looked
  pub sound_desk : (q : Queue C) (d : Desk) → Sound q → d.slots ≡ q.desk.slots → AsBefore q.desk.view d.view
      → Sound (record { book = q.book; desk = d; places = q.places; first = q.first; quota = q.quota; loads = q.loads; turn = q.turn; ordering = q.ordering; helped = q.helped })
  sound_desk q d h slots b = record {
    about = (ap (λ a. a.table) b.0 ∙ h.about.0, ap (λ a. a.sessions) b.0 ∙ h.about.1);
    workers = h.workers ∙ sym b.3;
    sizes = (subst (λ z. 0 < z) (sym slots) h.sizes.0, subst (λ z. z ≤ 4096) (sym slots) h.sizes.1, h.sizes.2, h.sizes.3, h.sizes.4, h.sizes.5);
    placing = subst (λ (z : ℕ). Placing z q.first (length q.loads) q.book.sessions d.view.given q.book.drawn q.places) (sym slots)
        (subst (λ (g : GivenList). Placing q.desk.slots q.first (length q.loads) q.book.sessions g q.book.drawn q.places) (sym b.1) h.placing);
    loaded = h.loaded;
    order = h.order;
    tally = ap (λ c. q.helped + collected_of c (length q.loads) + total q.loads) b.2 ∙ h.tally;
  }

  -- what lay where no worker has it is gone
  pub sound_taken : (q : Queue C) (o : Option (Op C)) (i : ℕ) → Sound q → q.ordering ≡ false → slice_get q.places i ≡ Some (answered_place o)
      → Sound (record { book = q.book; desk = q.desk; places = slice_set q.places i Gone; first = q.first; quota = q.quota; loads = q.loads; turn = q.turn; ordering = q.ordering; helped = q.helped })
  sound_taken q o i h any at = record {
    about = h.about;
    workers = h.workers;
    sizes = h.sizes;
    placing = place_set q.desk.slots q.first (length q.loads) q.book.sessions q.desk.view.given q.desk.view.given q.book.drawn q.places (slice_set q.places i Gone) i Gone h.placing
        (slice_get_within q.places i (answered_place o) at) (λ j ne. refl)
        (held_at q.desk.slots q.desk.view.given q.book.drawn q.book.sessions (length q.loads) (q.first + i) o (h.placing.each i (answered_place o) at))
        (length-set q.places i Gone) (λ j x e. set_split q.places i Gone j x e);
    loaded = λ w lt. let l = h.loaded w lt in let s = outstanding_set w q.places i (answered_place o) Gone at in let z = none_with w o in (omega (arith, l.0, s, z), l.1);
    order = λ e. absurd (true≢false (sym e ∙ any));
    tally = h.tally;
  }

  pub sound_open : (t : TableId) (b : BookData) (workers quota slots : ℕ) (ordering : Bool) (loads : List ℕ) → 0 < workers → workers ≤ 8 → quota ≤ 4096 → 0 < slots → slots ≤ 4096
      → b.drawn ≡ [] → loads ≡ replicate workers 0
      → Sound {C = C} (record { book = b; desk = desk t slots (opened b workers); places = []; first = 0; quota = quota; loads = loads; turn = 0; ordering = ordering; helped = 0 })
  sound_open t b workers quota slots ordering loads pos few small some less none zeros =
      let d = ap (λ l. length l) none in
      let len : length loads ≡ workers = ap (λ (l : List ℕ). length l) zeros ∙ zeros_len workers in
      let each : (w : ℕ) → slice_index_or loads w 0 ≡ 0 = λ w. ap (λ (l : List ℕ). slice_index_or l w 0) zeros ∙ zeros_at workers w in
      record {
        about = (refl, refl);
        workers = len;
        sizes = (some, less, small, omega (arith, len, few), omega (arith, len, pos), omega (arith, d));
        placing = record { all = omega (arith, d); fits = omega arith; each = λ i x e. absurd (cc); others = λ k lt off. refl };
        loaded = λ w lt. (each w, let z = each w in omega (arith, z));
        order = λ e. tt;
        tally = let c = collected_none (length loads) in let n = total_none loads (λ w lt. each w) in omega (arith, c, n, d);
      }
