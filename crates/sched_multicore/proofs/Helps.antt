-- Calls that look at one place after the other.
use Rattle.std.proofs.Common.{◌≡◌, ℕ, ◌+◌, ◌%◌, ◌<◌, ◌≤◌, [], ◌∷◌, ◌++◌, length, refl, sym, ap, ◌∙◌, subst, arith, Some, Bool, true, false}
use Rattle.std.specs.Prelude.{slice_get}
use native.Mathlib.Decide.{ℕ_discrete}
use Rattle.std.proofs.lemmas.List.{append_assoc, append-nil}
use Rattle.flight_table.specs.declared.word.Phase.{Phase}
use Rattle.flight_table.specs.declared.word.Word.{Word}
use Rattle.sched_multicore.specs.declared.place.Place.{Place}
use Rattle.sched_multicore.specs.Place.{IsAway, span, unreturned}
use Rattle.sched_multicore.specs.Queue.{Queue}
use Rattle.sched_multicore.specs.Step.{Saw, Longer, EachSaw, EachTurned, Helps, Others, Helped, LookedAt, slot_at, as_count}

module _ {C : Type 0} where
  pub longer_on : (q r s : Queue C) → Longer q r → Longer r s → Longer q s
  longer_on q r s a b = (a.0 ++ b.0, b.1 ∙ ap (λ l. l ++ b.0) a.1 ∙ append_assoc q.desk.view.looks a.0 b.0)

  -- what was seen stays seen
  pub saw_on : (q r s : Queue C) (k : ℕ) (w : Word) → Saw q r k w → Longer r s → Saw q s k w
  saw_on q r s k w a b =
      (a.0, a.1 ++ b.0, b.1 ∙ ap (λ l. l ++ b.0) a.2 ∙ append_assoc q.desk.view.looks (a.0 ++ (k, w) ∷ a.1) b.0 ∙ ap (λ l. q.desk.view.looks ++ l) (append_assoc a.0 ((k, w) ∷ a.1) b.0))

  pub saw_after : (q r s : Queue C) (k : ℕ) (w : Word) → Longer q r → Saw r s k w → Saw q s k w
  saw_after q r s k w a b =
      (a.0 ++ b.0, b.1, b.2 ∙ ap (λ l. l ++ (b.0 ++ (k, w) ∷ b.1)) a.1 ∙ append_assoc q.desk.view.looks a.0 (b.0 ++ (k, w) ∷ b.1) ∙ ap (λ l. q.desk.view.looks ++ l) (sym (append_assoc a.0 b.0 ((k, w) ∷ b.1))))

  pub saw_longer : (q r : Queue C) (k : ℕ) (w : Word) → Saw q r k w → Longer q r
  saw_longer q r k w a = (a.0 ++ (k, w) ∷ a.1, a.2)

  -- the numbers of places and the slots are as they were
  abbrev pub Stays : Queue C → Queue C → Type 0
  Stays r s = (s.first ≡ r.first) × (s.desk.slots ≡ r.desk.slots) × Longer r s

  pub slot_same : (r s : Queue C) (j : ℕ) → Stays r s → slot_at r j ≡ slot_at s j
  slot_same r s j t = λ y. (sym t.0 y + j) % sym t.1 y

  pub looked_stays : (r s : Queue C) (i : ℕ) (w : Word) → LookedAt r i w s → Stays r s
  looked_stays r s i w a = (ap (λ z. z.first) a.same, ap (λ z. z.slots) a.setting, saw_longer r s (slot_at r i) w a.saw)

  pub same_stays : (r s : Queue C) → s ≡ r → Stays r s
  same_stays r s e = (ap (λ z. z.first) e, ap (λ z. z.desk.slots) e, ([], ap (λ z. z.desk.view.looks) e ∙ sym (append-nil r.desk.view.looks)))

  pub same_others : (r s : Queue C) (i : ℕ) → s ≡ r → Others r i s
  same_others r s i e j ne = ap (λ z. slice_get z.places j) e

  -- one place more, which isn't of kind A
  pub each_kept : (A : Place C → Type 0) (P : Phase → Type 0) (q r s : Queue C) (i : ℕ) → EachSaw A P q r i → Stays r s → Others r i s
      → ((x : Place C) → slice_get s.places i ≡ Some x → A x → ⊥) → EachSaw A P q s (i + 1)
  each_kept A P q r s i h t others none j x lt at a = go (ℕ_discrete j i)
    where
      go : Dec (j ≡ i) → (w : Word) × P w.phase × Saw q s (slot_at s j) w
      go (yes e) = absurd (none x (subst (λ z. slice_get s.places z ≡ Some x) e at) a)
      go (no ne) =
          let o = h j x (omega (arith, lt, ne)) (sym (others j ne) ∙ at) a in
          (o.0, o.1, subst (λ k. Saw q s k o.0) (slot_same r s j t) (saw_on q r s (slot_at r j) o.0 o.2 t.2))

  -- one place more, for which a word with phase P was found
  pub each_saw : (A : Place C → Type 0) (P : Phase → Type 0) (q r s : Queue C) (i : ℕ) (n : Word) → EachSaw A P q r i → Longer q r → LookedAt r i n s → P n.phase → EachSaw A P q s (i + 1)
  each_saw A P q r s i n h l b good j x lt at a = go (ℕ_discrete j i)
    where
      t : Stays r s
      t = looked_stays r s i n b

      go : Dec (j ≡ i) → (w : Word) × P w.phase × Saw q s (slot_at s j) w
      go (yes e) = (n, good, subst (λ z. Saw q s z n) (slot_same r s i t ∙ ap (λ m. slot_at s m) (sym e)) (saw_after q r s (slot_at r i) n l b.saw))
      go (no ne) =
          let o = h j x (omega (arith, lt, ne)) (ap (λ z. slice_get z.places j) (sym b.same) ∙ at) a in
          (o.0, o.1, subst (λ z. Saw q s z o.0) (slot_same r s j t) (saw_on q r s (slot_at r j) o.0 o.2 t.2))

  -- Helping

  pub helps_none : (q : Queue C) → Helps q 0 q
  helps_none q = record { pending = refl; span = refl; places = refl; first = refl; book = refl; helped = omega arith; looks = ([], sym (append-nil q.desk.view.looks)); setting = refl; turn = refl }

  pub helps_on : (q r s : Queue C) (n m : ℕ) → Helps q n r → Helps r m s → Helps q (n + m) s
  helps_on q r s n m a b = record {
    pending = b.pending ∙ a.pending;
    span = b.span ∙ a.span;
    places = b.places ∙ a.places;
    first = b.first ∙ a.first;
    book = b.book ∙ a.book;
    helped = omega (arith, a.helped, b.helped);
    looks = longer_on q r s a.looks b.looks;
    setting = b.setting ∙ a.setting;
    turn = b.turn ∙ a.turn;
  }

  pub helps_looked : (q r : Queue C) (i : ℕ) (w : Word) → LookedAt q i w r → Helps q 0 r
  helps_looked q r i w a = record {
    pending = ap (λ z. unreturned z.places) a.same;
    span = ap (λ z. span z.places) a.same;
    places = ap (λ z. length z.places) a.same;
    first = ap (λ z. z.first) a.same;
    book = ap (λ z. z.book) a.same;
    helped = ap (λ z. z.helped) a.same ∙ omega arith;
    looks = saw_longer q r (slot_at q i) w a.saw;
    setting = a.setting;
    turn = ap (λ z. z.turn) a.same;
  }

  pub helps_stays : (q r : Queue C) (n : ℕ) → Helps q n r → Stays q r
  helps_stays q r n a = (a.first, ap (λ z. z.slots) a.setting, a.looks)

  -- the places from i on are as they were
  abbrev pub Ahead : Queue C → Queue C → ℕ → Type 0
  Ahead q r i = (j : ℕ) → i ≤ j → slice_get r.places j ≡ slice_get q.places j

  -- what is known within a loop that helps
  pub record Helping (P Q : Phase → Type 0) (q r : Queue C) (n i : ℕ) : Type 0 where
    pub helps : Helps q n r
    pub turned : EachTurned P q r i
    pub saw : EachSaw IsAway Q q r i
    pub ahead : Ahead q r i

  pub helping_none : (P Q : Phase → Type 0) (q : Queue C) → Helping P Q q q 0 0
  helping_none P Q q = record {
    helps = helps_none q;
    turned = λ i x y lt. absurd (omega (arith, lt));
    saw = λ i x lt. absurd (omega (arith, lt));
    ahead = λ j le. refl;
  }

  -- the next place was answered, or isn't away
  pub helping_helped : (P Q : Phase → Type 0) (q r s : Queue C) (n i : ℕ) (b : Bool) → Helping P Q q r n i → Helped P r i b s → Helping P Q q s (n + as_count b) (i + 1)
  helping_helped P Q q r s n i b a h = record {
    helps = helps_on q r s n (as_count b) a.helps h.helps;
    turned = λ j x y lt at away now gone. one j x y lt at away now gone (ℕ_discrete j i);
    saw = each_kept IsAway Q q r s i a.saw t h.others h.here;
    ahead = λ j le. h.others j (λ e. omega (arith, e, le)) ∙ a.ahead j (omega (arith, le));
  }
    where
      t : Stays r s
      t = helps_stays r s (as_count b) h.helps

      here : (b : Bool) → Helped P r i b s → (x : Place C) → slice_get r.places i ≡ Some x → IsAway x → (w : Word) × P w.phase × Saw r s (slot_at r i) w
      here true h x at away = h.word refl
      here false h x at away = absurd (h.was refl x at away)

      one : (j : ℕ) (x y : Place C) → j < i + 1 → slice_get q.places j ≡ Some x → IsAway x → slice_get s.places j ≡ Some y → (IsAway y → ⊥) → Dec (j ≡ i) → (w : Word) × P w.phase × Saw q s (slot_at s j) w
      one j x y lt at away now gone (yes e) =
          let there : slice_get r.places i ≡ Some x = a.ahead i (omega arith) ∙ ap (λ m. slice_get q.places m) (sym e) ∙ at in
          let f = here b h x there away in
          (f.0, f.1, subst (λ k. Saw q s k f.0) (slot_same r s i t ∙ ap (λ m. slot_at s m) (sym e)) (saw_after q r s (slot_at r i) f.0 a.helps.looks f.2))
      one j x y lt at away now gone (no ne) =
          let o = a.turned j x y (omega (arith, lt, ne)) at away (sym (h.others j ne) ∙ now) gone in
          (o.0, o.1, subst (λ k. Saw q s k o.0) (slot_same r s j t) (saw_on q r s (slot_at r j) o.0 o.2 t.2))

  -- a word was found for the next place
  pub helping_looked : (P Q : Phase → Type 0) (q r s : Queue C) (n i : ℕ) (w : Word) → Helping P Q q r n i → LookedAt r i w s → Q w.phase → Helping P Q q s n (i + 1)
  helping_looked P Q q r s n i w a h good = record {
    helps = subst (λ m. Helps q m s) {x = n + 0} {y = n} (omega arith) (helps_on q r s n 0 a.helps (helps_looked r s i w h));
    turned = λ j x y lt at away now gone. one j x y lt at away (same j ∙ now) gone (ℕ_discrete j i);
    saw = each_saw IsAway Q q r s i w a.saw a.helps.looks h good;
    ahead = λ j le. sym (same j) ∙ a.ahead j (omega (arith, le));
  }
    where
      t : Stays r s
      t = looked_stays r s i w h

      same : (j : ℕ) → slice_get r.places j ≡ slice_get s.places j
      same j = ap (λ z. slice_get z.places j) (sym h.same)

      one : (j : ℕ) (x y : Place C) → j < i + 1 → slice_get q.places j ≡ Some x → IsAway x → slice_get r.places j ≡ Some y → (IsAway y → ⊥) → Dec (j ≡ i) → (u : Word) × P u.phase × Saw q s (slot_at s j) u
      one j x y lt at away now gone (yes e) =
          let z : Some x ≡ Some y = sym at ∙ sym (a.ahead j (omega (arith, e))) ∙ now in
          let k : x ≡ y = cc in
          absurd (gone (subst (λ p. IsAway p) k away))
      one j x y lt at away now gone (no ne) =
          let o = a.turned j x y (omega (arith, lt, ne)) at away now gone in
          (o.0, o.1, subst (λ k. Saw q s k o.0) (slot_same r s j t) (saw_on q r s (slot_at r j) o.0 o.2 t.2))

  -- A look and then a try

  pub looked_after : (q r s : Queue C) (i : ℕ) (n m : Word) → LookedAt q i n r → LookedAt r i m s → LookedAt q i m s
  looked_after q r s i n m a h = record {
    same = h.same ∙ (λ j. record { book = (a.same j).book; desk = s.desk; places = (a.same j).places; first = (a.same j).first; quota = (a.same j).quota; loads = (a.same j).loads; turn = (a.same j).turn; ordering = (a.same j).ordering; helped = (a.same j).helped });
    setting = h.setting ∙ a.setting;
    saw = subst (λ k. Saw q s k m) (sym (slot_same q r i (looked_stays q r i n a))) (saw_after q r s (slot_at r i) m (saw_longer q r (slot_at q i) n a.saw) h.saw);
  }

  -- an operation that was answered has the word that was found first
  pub helped_after : (P Q : Phase → Type 0) (q r s : Queue C) (i : ℕ) (n : Word) (b : Bool) → LookedAt q i n r → Q n.phase → Helped P r i b s → Helped Q q i b s
  helped_after P Q q r s i n b a good h = record {
    helps = subst (λ m. Helps q m s) {x = 0 + as_count b} {y = as_count b} (omega arith) (helps_on q r s 0 (as_count b) (helps_looked q r i n a) h.helps);
    others = λ j ne. h.others j ne ∙ ap (λ z. slice_get z.places j) a.same;
    here = h.here;
    word = λ e. (n, good, saw_on q r s (slot_at q i) n a.saw h.helps.looks);
    was = λ e x at away. h.was e x (ap (λ z. slice_get z.places i) a.same ∙ at) away;
  }
