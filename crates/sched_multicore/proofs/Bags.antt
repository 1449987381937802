-- Dequeues step by step.
use Rattle.std.proofs.Common.{◌≡◌, ◌≢◌, ℕ, zero, suc, ◌+◌, ◌<◌, List, [], ◌∷◌, ◌++◌, length, drop, refl, sym, ap, ◌∙◌, subst, arith, Some, None, Option, true, true≢false}
use Rattle.std.specs.Prelude.{slice_get, slice_set, MatchOption, map}
use Rattle.std.specs.List.{All}
use Rattle.std.specs.List.Sorted.{IsPermutation}
use Rattle.std.proofs.lemmas.List.Elements.{All-nil, All-push, All-append, All-same}
use Rattle.std.proofs.lemmas.List.Sorted.{IsPermutation-refl, IsPermutation-trans, IsPermutation-append_right, IsPermutation-middle, length_permutation}
use Rattle.std.proofs.lemmas.List.{length_push, append_assoc, append-nil, length-set, length-append, map-append, length-map}
use Rattle.std.proofs.Math.Seq.{drop-append_seam}
use native.Mathlib.Decide.{ℕ_discrete}
use Rattle.crypto_op.specs.declared.op.Op.{Op}
use Rattle.crypto_op.specs.Op.{Entry, entry_of, IsDone}
use Rattle.crypto_op.specs.Burst.{Burst}
use Rattle.dev_core.specs.Burst.{added}
use Rattle.flight_table.specs.declared.word.Word.{Word}
use Rattle.sched_multicore.specs.declared.place.Trip.{Trip}
use Rattle.sched_multicore.specs.declared.place.Place.{Place}
use Rattle.sched_multicore.specs.declared.place.Place.TheVariants.{Away, Answered, Gone}
use Rattle.sched_multicore.specs.declared.dequeue.McStop.TheVariants.{NotYet}
use Rattle.sched_multicore.specs.Place.{unreturned, entries_at, IsPending, NoneGone}
use Rattle.sched_multicore.specs.Queue.{Queue, Sound, setting}
use Rattle.sched_multicore.specs.Step.{IsAwaited, Saw, Longer, Gave, Dequeued, Bagged, FirstAwaits, FirstWord, Ends, Returned, LookedAt, Brings, Brought, answered_place, slot_at}
use Rattle.sched_multicore.proofs.Lists.{behind_next, get_set, get_here, set_same}
use Rattle.sched_multicore.proofs.Helps.{longer_on, saw_on, saw_after, saw_longer, Stays, slot_same, looked_stays}

pub empty_of : {X : Type 0} (xs : List X) → length xs ≡ 0 → xs ≡ []
empty_of [] e = refl
empty_of (x ∷ xs) e = absurd (omega (arith, e))

module _ {C : Type 0} where
  -- What every step of a dequeue keeps

  abbrev pub Goes : Queue C → Queue C → Type 0
  Goes r s = Longer r s × (length s.book.drawn ≡ length r.book.drawn) × (setting s ≡ setting r) × (s.helped ≡ r.helped) × (s.turn ≡ r.turn)

  pub goes_returned : (r s : Queue C) (op : Op C) → Returned r op s → Goes r s
  goes_returned r s op a = (a.looks, ap (λ b. length b.drawn) a.book, a.setting, a.helped, a.turn)

  pub goes_brings : (r s : Queue C) (i : ℕ) (op : Op C) → Brings r i op s → Goes r s
  goes_brings r s i op a = (a.looks, ap (λ b. length b.drawn) a.book, a.setting, a.helped, a.turn)

  pub goes_looked : (r s : Queue C) (i : ℕ) (w : Word) → LookedAt r i w s → Goes r s
  goes_looked r s i w a = (saw_longer r s (slot_at r i) w a.saw, ap (λ z. length z.book.drawn) a.same, a.setting, ap (λ z. z.helped) a.same, ap (λ z. z.turn) a.same)

  pub added_none : (o : Burst (Op C)) → added o o ≡ []
  added_none o = ap (λ l. drop (length o.ops) l) (sym (append-nil o.ops)) ∙ drop-append_seam o.ops []

  pub gave_none : (q : Queue C) (o : Burst (Op C)) → Gave q o 0 q o
  gave_none q o =
      let none = added_none o in
      record {
        kept = λ i. record { cap = o.cap; ops = (sym (append-nil o.ops) ∙ ap (λ l. o.ops ++ l) (sym none)) i };
        count = omega arith;
        done = All-same (IsDone q.book.sessions) (added o o) [] none (All-nil (IsDone q.book.sessions));
        looks = ([], sym (append-nil q.desk.view.looks));
        drawn = refl;
        setting = refl;
        helped = refl;
        turn = refl;
      }

  abbrev pub pushed : Burst (Op C) → Op C → Burst (Op C)
  pushed p op = record { cap = p.cap; ops = p.ops ++ op ∷ [] }

  pub added_next : (q r : Queue C) (o p p' : Burst (Op C)) (n : ℕ) (op : Op C) → Gave q o n r p → p' ≡ pushed p op → added o p' ≡ added o p ++ op ∷ []
  added_next q r o p p' n op a e = ap (λ y. drop (length o.ops) y.ops) e ∙ behind_next o.ops p.ops n op a.count

  pub gave_next : (q r s : Queue C) (o p p' : Burst (Op C)) (n : ℕ) (op : Op C) → Gave q o n r p → Goes r s → IsDone r.book.sessions op → p' ≡ pushed p op → Gave q o (n + 1) s p'
  gave_next q r s o p p' n op a b done e =
      let t = added_next q r o p p' n op a e in
      let l = length_push p.ops op in
      let l' = ap (λ y. length y.ops) e in
      let cap = ap (λ y. y.cap) a.kept in
      let ops : p.ops ≡ o.ops ++ added o p = ap (λ y. y.ops) a.kept in
      let sessions : r.book.sessions ≡ q.book.sessions = ap (λ z. z.sessions) a.setting in
      record {
        kept = e ∙ (λ i. record { cap = cap i; ops = (ap (λ l. l ++ op ∷ []) ops ∙ append_assoc o.ops (added o p) (op ∷ []) ∙ ap (λ l. o.ops ++ l) (sym t)) i });
        count = omega (arith, l, l', a.count);
        done = All-same (IsDone q.book.sessions) (added o p') (added o p ++ op ∷ []) t (All-push (IsDone q.book.sessions) (added o p) op a.done (subst (λ z. IsDone z op) sessions done));
        looks = longer_on q r s a.looks b.0;
        drawn = b.1 ∙ a.drawn;
        setting = b.2 ∙ a.setting;
        helped = b.3 ∙ a.helped;
        turn = b.4 ∙ a.turn;
      }

  pub gave_goes : (q r s : Queue C) (o p : Burst (Op C)) (n : ℕ) → Gave q o n r p → Goes r s → Gave q o n s p
  gave_goes q r s o p n a b = record { kept = a.kept; count = a.count; done = a.done; looks = longer_on q r s a.looks b.0; drawn = b.1 ∙ a.drawn; setting = b.2 ∙ a.setting; helped = b.3 ∙ a.helped; turn = b.4 ∙ a.turn }

  -- One dequeue after another

  added_on : (q r : Queue C) (o p u : Burst (Op C)) (n m : ℕ) (s : Queue C) → Gave q o n r p → Gave r p m s u → added o u ≡ added o p ++ added p u
  added_on q r o p u n m s a b =
      ap (λ l. drop (length o.ops) l) (ap (λ y. y.ops) b.kept ∙ ap (λ y. y.ops ++ added p u) a.kept ∙ append_assoc o.ops (added o p) (added p u)) ∙ drop-append_seam o.ops (added o p ++ added p u)

  gave_on : (q r s : Queue C) (o p u : Burst (Op C)) (n m : ℕ) → Gave q o n r p → Gave r p m s u → Gave q o (n + m) s u
  gave_on q r s o p u n m a b =
      let t = added_on q r o p u n m s a b in
      let sessions : r.book.sessions ≡ q.book.sessions = ap (λ z. z.sessions) a.setting in
      record {
        kept = b.kept ∙ (λ i. record { cap = ap (λ y. y.cap) a.kept i; ops = (ap (λ y. y.ops ++ added p u) a.kept ∙ append_assoc o.ops (added o p) (added p u) ∙ ap (λ l. o.ops ++ l) (sym t)) i });
        count = omega (arith, a.count, b.count);
        done = All-same (IsDone q.book.sessions) (added o u) (added o p ++ added p u) t (All-append (IsDone q.book.sessions) (added o p) (added p u) a.done (subst (λ z. All (IsDone z) (added p u)) sessions b.done));
        looks = longer_on q r s a.looks b.looks;
        drawn = b.drawn ∙ a.drawn;
        setting = b.setting ∙ a.setting;
        helped = b.helped ∙ a.helped;
        turn = b.turn ∙ a.turn;
      }

  both : (xs ys : List (Op C)) (es : List (Entry C)) (zs : List (Op C)) → zs ≡ xs ++ ys → map entry_of xs ++ (map entry_of ys ++ es) ≡ map entry_of zs ++ es
  both xs ys es zs t = sym (append_assoc (map entry_of xs) (map entry_of ys) es) ∙ ap (λ l. l ++ es) (sym (map-append entry_of xs ys)) ∙ ap (λ l. map entry_of l ++ es) (sym t)

  -- In order

  pub dequeued_none : (q : Queue C) (o : Burst (Op C)) → Dequeued q o 0 q o
  dequeued_none q o = record { pending = ap (λ l. map entry_of l ++ unreturned q.places) (sym (added_none o)); gave = gave_none q o }

  pub dequeued_next : (q r s : Queue C) (o p p' : Burst (Op C)) (n : ℕ) (op : Op C) → Dequeued q o n r p → Returned r op s → p' ≡ pushed p op → Dequeued q o (n + 1) s p'
  dequeued_next q r s o p p' n op a b e = record {
    pending = a.pending ∙ ap (λ l. map entry_of (added o p) ++ l) b.pending ∙ both (added o p) (op ∷ []) (unreturned s.places) (added o p') (added_next q r o p p' n op a.gave e);
    gave = gave_next q r s o p p' n op a.gave (goes_returned r s op b) b.done e;
  }

  pub dequeued_looked : (q r s : Queue C) (o p : Burst (Op C)) (n i : ℕ) (w : Word) → Dequeued q o n r p → LookedAt r i w s → Dequeued q o n s p
  dequeued_looked q r s o p n i w a b = record {
    pending = a.pending ∙ ap (λ z. map entry_of (added o p) ++ unreturned z.places) (sym b.same);
    gave = gave_goes q r s o p n a.gave (goes_looked r s i w b);
  }

  pub dequeued_on : (q r s : Queue C) (o p u : Burst (Op C)) (n m : ℕ) → Dequeued q o n r p → Dequeued r p m s u → Dequeued q o (n + m) s u
  dequeued_on q r s o p u n m a b = record {
    pending = a.pending ∙ ap (λ l. map entry_of (added o p) ++ l) b.pending ∙ both (added o p) (added p u) (unreturned s.places) (added o u) (added_on q r o p u n m s a.gave b.gave);
    gave = gave_on q r s o p u n m a.gave b.gave;
  }

  -- the word of the first place, where none is gone
  pub first_awaits : (q r s : Queue C) (w : Word) → NoneGone r.places → 0 < length r.places → Longer q r → LookedAt r 0 w s → IsAwaited w.phase → FirstAwaits q s w
  first_awaits q r s w none some l a good = go r.places refl none some
    where
      saw : Saw q s (slot_at s 0) w
      saw = subst (λ k. Saw q s k w) (slot_same r s 0 (looked_stays r s 0 w a)) (saw_after q r s (slot_at r 0) w l a.saw)

      go : (xs : List (Place C)) → r.places ≡ xs → NoneGone xs → 0 < length r.places → FirstAwaits q s w
      go [] e h pos = let z = ap (λ l. length l) e in absurd (omega (arith, z, pos))
      go (x ∷ xs) e h pos = record {
        place = 0;
        what = x;
        before = λ j lt. absurd (omega (arith, lt));
        there = ap (λ z. slice_get z.places 0) a.same ∙ ap (λ l. slice_get l 0) e;
        pending = h.0;
        phase = good;
        saw = saw;
      }

  pub ends_ordered : (q s : Queue C) (most n : ℕ) (w : Word) → q.ordering ≡ true → n < most → FirstAwaits q s w → Ends most n q s (NotYet w)
  ends_ordered q s most n w on lt f = (lt, f, λ off. absurd (true≢false (sym on ∙ off)))

  -- In any order

  -- what is returned from the middle
  out_of : (xs : List (Place C)) (i : ℕ) (x : Place C) (t : Entry C) → slice_get xs i ≡ Some x → entries_at x ≡ t ∷ [] → IsPermutation (unreturned xs) (t ∷ unreturned (slice_set xs i Gone))
  out_of [] i x t e o = absurd (cc)
  out_of (z ∷ zs) zero x t e o =
      let s : z ≡ x = cc in
      subst (λ l. IsPermutation (l ++ unreturned zs) (t ∷ unreturned zs)) (sym o ∙ ap (λ u. entries_at u) (sym s)) (IsPermutation-refl (t ∷ unreturned zs))
  out_of (z ∷ zs) (suc i) x t e o =
      IsPermutation-trans _ _ _ (IsPermutation-append_right (entries_at z) _ _ (out_of zs i x t e o)) (IsPermutation-middle (entries_at z) t (unreturned (slice_set zs i Gone)))

  pub bagged_none : (q : Queue C) (o : Burst (Op C)) → Bagged q o 0 q o
  bagged_none q o = record {
    pending = subst (λ l. IsPermutation (unreturned q.places) (map entry_of l ++ unreturned q.places)) (sym (added_none o)) (IsPermutation-refl (unreturned q.places));
    gave = gave_none q o;
  }

  pub bagged_next : (q r s : Queue C) (o p p' : Burst (Op C)) (n i : ℕ) (op : Op C) → Bagged q o n r p → Brings r i op s → p' ≡ pushed p op → Bagged q o (n + 1) s p'
  bagged_next q r s o p p' n i op a b e =
      let out = subst (λ l. IsPermutation (unreturned r.places) (entry_of op ∷ unreturned l)) (sym b.places) (out_of r.places i b.was.0 (entry_of op) b.was.1 b.was.2) in
      record {
        pending = subst (λ l. IsPermutation (unreturned q.places) l) (both (added o p) (op ∷ []) (unreturned s.places) (added o p') (added_next q r o p p' n op a.gave e))
            (IsPermutation-trans _ _ _ a.pending (IsPermutation-append_right (map entry_of (added o p)) _ _ out));
        gave = gave_next q r s o p p' n op a.gave (goes_brings r s i op b) b.done e;
      }

  pub bagged_looked : (q r s : Queue C) (o p : Burst (Op C)) (n i : ℕ) (w : Word) → Bagged q o n r p → LookedAt r i w s → Bagged q o n s p
  bagged_looked q r s o p n i w a b = record {
    pending = subst (λ z. IsPermutation (unreturned q.places) (map entry_of (added o p) ++ unreturned z.places)) (sym b.same) a.pending;
    gave = gave_goes q r s o p n a.gave (goes_looked r s i w b);
  }

  pub bagged_on : (q r s : Queue C) (o p u : Burst (Op C)) (n m : ℕ) → Bagged q o n r p → Bagged r p m s u → Bagged q o (n + m) s u
  bagged_on q r s o p u n m a b = record {
    pending = subst (λ l. IsPermutation (unreturned q.places) l) (both (added o p) (added p u) (unreturned s.places) (added o u) (added_on q r o p u n m s a.gave b.gave))
        (IsPermutation-trans _ _ _ a.pending (IsPermutation-append_right (map entry_of (added o p)) _ _ b.pending));
    gave = gave_on q r s o p u n m a.gave b.gave;
  }

  -- a dequeue after which nothing is pending returned all that was
  pub bagged_all : (q r : Queue C) (o p : Burst (Op C)) (n : ℕ) → Bagged q o n r p → unreturned r.places ≡ [] → n ≡ length (unreturned q.places)
  bagged_all q r o p n a none =
      let l = length_permutation (unreturned q.places) (map entry_of (added o p) ++ unreturned r.places) a.pending in
      let x = length-append (map entry_of (added o p)) (unreturned r.places) in
      let y : length (map entry_of (added o p)) ≡ length (added o p) = length-map (added o p) entry_of in
      let z = ap (λ l. length l) none in
      let u = ap (λ y. length y.ops) a.gave.kept ∙ length-append o.ops (added o p) in
      omega (arith, l, x, y, z, u, a.gave.count)

  pub brought_answered : (q r : Queue C) (o : Option (Op C)) (i : ℕ) → Sound q → slice_get q.places i ≡ Some (answered_place o)
      → r ≡ record { book = q.book; desk = q.desk; places = slice_set q.places i Gone; first = q.first; quota = q.quota; loads = q.loads; turn = q.turn; ordering = q.ordering; helped = q.helped } → Brought q i o r
  brought_answered q r (Some op) i h at e = record {
    places = ap (λ z. z.places) e;
    was = (Answered op, at, refl);
    done = (h.placing.each i (Answered op) at).1;
    first = ap (λ z. z.first) e;
    looks = ([], ap (λ z. z.desk.view.looks) e ∙ sym (append-nil q.desk.view.looks));
    book = ap (λ z. z.book) e;
    setting = ap (λ z. setting z) e;
    helped = ap (λ z. z.helped) e;
    turn = ap (λ z. z.turn) e;
  }
  brought_answered q r None i h at e =
      (e ∙ (λ j. record { book = q.book; desk = q.desk; places = set_same q.places i Gone at j; first = q.first; quota = q.quota; loads = q.loads; turn = q.turn; ordering = q.ordering; helped = q.helped }), at)

  pub brings_stays : (r s : Queue C) (i : ℕ) (op : Op C) → Brings r i op s → Stays r s
  brings_stays r s i op a = (a.first, ap (λ z. z.slots) a.setting, a.looks)

  pub brings_others : (r s : Queue C) (i : ℕ) (op : Op C) → Brings r i op s → (j : ℕ) → j ≢ i → slice_get s.places j ≡ slice_get r.places j
  brings_others r s i op a j ne = ap (λ l. slice_get l j) a.places ∙ get_set r.places i j Gone ne

  pub brings_gone : (r s : Queue C) (i : ℕ) (op : Op C) → i < length r.places → Brings r i op s → slice_get s.places i ≡ Some Gone
  brings_gone r s i op lt a = ap (λ l. slice_get l i) a.places ∙ get_here r.places i Gone lt

  pub brings_length : (r s : Queue C) (i : ℕ) (op : Op C) → Brings r i op s → length s.places ≡ length r.places
  brings_length r s i op a = ap (λ l. length l) a.places ∙ length-set r.places i Gone

  pub gone_not : (r : Queue C) (i : ℕ) → slice_get r.places i ≡ Some Gone → (x : Place C) → slice_get r.places i ≡ Some x → IsPending x → ⊥
  gone_not r i e x at a = let s : Gone ≡ x = let z = sym e ∙ at in cc in subst (λ y. IsPending y) (sym s) a

  -- the i-th place is gone now
  pub first_gone : (q r s : Queue C) (i : ℕ) (word : Option Word) → FirstWord q r i word → Stays r s → ((j : ℕ) → j ≢ i → slice_get s.places j ≡ slice_get r.places j) → slice_get s.places i ≡ Some Gone → FirstWord q s (i + 1) word
  first_gone q r s i None h t others gone = λ j lt. go j lt (ℕ_discrete j i)
    where
      go : (j : ℕ) → j < i + 1 → Dec (j ≡ i) → slice_get s.places j ≡ Some Gone
      go j lt (yes e) = ap (λ z. slice_get s.places z) e ∙ gone
      go j lt (no ne) = others j ne ∙ h j (omega (arith, lt, ne))
  first_gone q r s i (Some w) h t others gone =
      let f = h.0 in (
        record {
          place = f.place;
          what = f.what;
          before = λ j lt. others j (λ e. omega (arith, e, lt, h.1)) ∙ f.before j lt;
          there = others f.place (λ e. omega (arith, e, h.1)) ∙ f.there;
          pending = f.pending;
          phase = f.phase;
          saw = subst (λ k. Saw q s k w) (slot_same r s f.place t) (saw_on q r s (slot_at r f.place) w f.saw t.2);
        },
        omega (arith, h.1),
      )

  -- a word was found for the i-th place
  pub first_looked : (q r s : Queue C) (i : ℕ) (w v : Word) (t : Trip C) (word : Option Word) → FirstWord q r i word → Longer q r → LookedAt r i w s → IsAwaited w.phase → slice_get r.places i ≡ Some (Away t)
      → MatchOption word (v ≡ w) (λ u. v ≡ u) → FirstWord q s (i + 1) (Some v)
  first_looked q r s i w v t None h l b good at e =
      let saw = subst (λ k. Saw q s k w) (slot_same r s i (looked_stays r s i w b)) (saw_after q r s (slot_at r i) w l b.saw) in
      subst (λ z. FirstWord q s (i + 1) (Some z)) (sym e) (
        record {
          place = i;
          what = Away t;
          before = λ j lt. ap (λ z. slice_get z.places j) b.same ∙ h j lt;
          there = ap (λ z. slice_get z.places i) b.same ∙ at;
          pending = tt;
          phase = good;
          saw = saw;
        },
        omega arith,
      )
  first_looked q r s i w v t (Some u) h l b good at e =
      let f = h.0 in
      let k = looked_stays r s i w b in
      subst (λ z. FirstWord q s (i + 1) (Some z)) (sym e) (
        record {
          place = f.place;
          what = f.what;
          before = λ j lt. ap (λ z. slice_get z.places j) b.same ∙ f.before j lt;
          there = ap (λ z. slice_get z.places f.place) b.same ∙ f.there;
          pending = f.pending;
          phase = f.phase;
          saw = subst (λ k. Saw q s k u) (slot_same r s f.place k) (saw_on q r s (slot_at r f.place) u f.saw k.2);
        },
        omega (arith, h.1),
      )
