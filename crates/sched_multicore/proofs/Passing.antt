-- What a worker's hands saw, call by call.
use Rattle.std.proofs.Common.{arith, ◌≡◌, ◌≢◌, ℕ, zero, suc, List, [], ◌∷◌, ◌++◌, ◌⊎◌, inl, inr, ⊎_elim, refl, ap, sym, ◌∙◌, ◌%◌, ◌/◌, ◌+◌, ◌<◌, ◌≤◌, subst, Some, None}
use Rattle.std.specs.Prelude.{slice_get, slice_set}
use Rattle.std.proofs.lemmas.List.{append_assoc, append-nil, length-set}
use Rattle.std.proofs.lemmas.Option.{slice_get_within}
use Rattle.flight_table.specs.Call.{Desk, Missed, ReadyFor, took, with_view}
use Rattle.flight_table.specs.View.{ended, unlisted}
use Rattle.flight_table.specs.Word.{word}
use Rattle.flight_table.specs.declared.word.Phase.TheVariants.{Ready}
use Rattle.flight_table.specs.declared.word.Word.{Word}
use Rattle.sched_multicore.specs.Sweep.{FoundAt, FoundBy, IsLater, PassedAt, PassedBy, SameHands, Swept}
use Rattle.sched_multicore.proofs.Carrying.{Lists, get_some, hand_split, same_hand}

pub later_self : (d : Desk) → IsLater d d
later_self d = record { table = refl; slots = refl; worker = refl; about = refl; looks = ([], sym (append-nil d.view.looks)) }

pub later_on : (d e f : Desk) → IsLater d e → IsLater e f → IsLater d f
later_on d e f a b = record {
  table = b.table ∙ a.table;
  slots = b.slots ∙ a.slots;
  worker = b.worker ∙ a.worker;
  about = b.about ∙ a.about;
  looks = (a.looks.0 ++ b.looks.0, b.looks.1 ∙ ap (λ l. l ++ b.looks.0) a.looks.1 ∙ append_assoc d.view.looks a.looks.0 b.looks.0);
}

pub hands_on : (ds es fs : List Desk) → SameHands ds es → SameHands es fs → SameHands ds fs
hands_on ds es fs a b = record {
  len = b.len ∙ a.len;
  each = λ h d f x y.
      let m = get_some es h (subst (λ n. h < n) (sym a.len) (slice_get_within ds h d x)) in
      later_on d m.0 f (a.each h d m.0 x m.1) (b.each h m.0 f m.1 y);
}

pub hands_set : (ds : List Desk) (h : ℕ) (d e : Desk) → slice_get ds h ≡ Some d → IsLater d e → SameHands ds (slice_set ds h e)
hands_set ds h d e at l = record {
  len = length-set ds h e;
  each = λ i x y a b. ⊎_elim
      (λ old. subst (λ z. IsLater x z) (same_hand ds i x y a old.0) (later_self x))
      (λ new. subst (λ z. IsLater x z) (sym new.0) (subst (λ z. IsLater z e) (same_hand ds h d x at (ap (λ z. slice_get ds z) (sym new.1) ∙ a)) l))
      (hand_split ds h e i y b);
}

-- What a hand's calls did

-- a take that failed
pub record Looked (k : ℕ) (d e : Desk) : Type 0 where
  pub later : IsLater d e
  pub passed : PassedBy k d e
  pub taken : e.view.taken ≡ d.view.taken
  pub finished : e.view.finished ≡ d.view.finished

pub looked_only : (d e : Desk) (k : ℕ) (n : Word) → e ≡ with_view d e.view → Missed d.view k n e.view → Looked k d e
looked_only d e k n same (inl a) = record {
  later = record { table = ap (λ (z : Desk). z.table) same; slots = ap (λ (z : Desk). z.slots) same; worker = ap (λ v. v.worker) a.1; about = ap (λ v. v.about) a.1; looks = ((k, n) ∷ [], ap (λ v. v.looks) a.1) };
  passed = record { first = []; word = n; last = []; looks = ap (λ v. v.looks) a.1; missed = inl a.0 };
  taken = ap (λ v. v.taken) a.1;
  finished = ap (λ v. v.finished) a.1;
}
looked_only d e k n same (inr a) =
    let looks = ap (λ v. v.looks) a.3 ∙ append_assoc d.view.looks ((k, a.0) ∷ []) ((k, n) ∷ []) in
    record {
      later = record { table = ap (λ (z : Desk). z.table) same; slots = ap (λ (z : Desk). z.slots) same; worker = ap (λ v. v.worker) a.3; about = ap (λ v. v.about) a.3; looks = ((k, a.0) ∷ (k, n) ∷ [], looks) };
      passed = record { first = []; word = a.0; last = (k, n) ∷ []; looks = looks; missed = inr (n, [], refl, a.2) };
      taken = ap (λ v. v.taken) a.3;
      finished = ap (λ v. v.finished) a.3;
    }

pub took_later : (d e : Desk) (k p : ℕ) → e ≡ with_view d (took d.view k p) → IsLater d e × Lists k (Some p) d e × (e.view.finished ≡ d.view.finished)
took_later d e k p same = (
  record { table = ap (λ (z : Desk). z.table) same; slots = ap (λ (z : Desk). z.slots) same; worker = ap (λ (z : Desk). z.view.worker) same; about = ap (λ (z : Desk). z.view.about) same; looks = ((k, word Ready p d.view.worker) ∷ [], ap (λ (z : Desk). z.view.looks) same) },
  record { slots = ap (λ (z : Desk). z.slots) same; worker = ap (λ (z : Desk). z.view.worker) same; about = ap (λ (z : Desk). z.view.about) same; taken = ap (λ (z : Desk). z.view.taken) same },
  ap (λ (z : Desk). z.view.finished) same,
)

pub unlisted_later : (d e : Desk) (k : ℕ) → e ≡ with_view d (unlisted d.view k) → IsLater d e × Lists k None d e × (e.view.finished ≡ d.view.finished)
unlisted_later d e k same = (
  record { table = ap (λ (z : Desk). z.table) same; slots = ap (λ (z : Desk). z.slots) same; worker = ap (λ (z : Desk). z.view.worker) same; about = ap (λ (z : Desk). z.view.about) same; looks = ([], ap (λ (z : Desk). z.view.looks) same ∙ sym (append-nil d.view.looks)) },
  record { slots = ap (λ (z : Desk). z.slots) same; worker = ap (λ (z : Desk). z.view.worker) same; about = ap (λ (z : Desk). z.view.about) same; taken = ap (λ (z : Desk). z.view.taken) same },
  ap (λ (z : Desk). z.view.finished) same,
)

pub ended_later : (d e : Desk) (k : ℕ) → e ≡ with_view d (ended d.view k) → IsLater d e × Lists k None d e × (e.view.finished ≡ d.view.finished + 1)
ended_later d e k same = (
  record { table = ap (λ (z : Desk). z.table) same; slots = ap (λ (z : Desk). z.slots) same; worker = ap (λ (z : Desk). z.view.worker) same; about = ap (λ (z : Desk). z.view.about) same; looks = ([], ap (λ (z : Desk). z.view.looks) same ∙ sym (append-nil d.view.looks)) },
  record { slots = ap (λ (z : Desk). z.slots) same; worker = ap (λ (z : Desk). z.view.worker) same; about = ap (λ (z : Desk). z.view.about) same; taken = ap (λ (z : Desk). z.view.taken) same },
  ap (λ (z : Desk). z.view.finished) same,
)

-- A sweep

-- what was passed by stays so
passed_on : (d e f : Desk) (k : ℕ) → PassedBy k d e → IsLater e f → PassedBy k d f
passed_on d e f k a b = record {
  first = a.first;
  word = a.word;
  last = a.last ++ b.looks.0;
  looks = b.looks.1 ∙ ap (λ l. l ++ b.looks.0) a.looks ∙ append_assoc d.view.looks (a.first ++ (k, a.word) ∷ a.last) b.looks.0 ∙ ap (λ l. d.view.looks ++ l) (append_assoc a.first ((k, a.word) ∷ a.last) b.looks.0);
  missed = cause a.missed;
}
  where
    cause : (ReadyFor d.view.worker a.word → ⊥) ⊎ ((m : Word) × (rest : List (ℕ × Word)) × (a.last ≡ (k, m) ∷ rest) × (m ≢ a.word))
        → (ReadyFor d.view.worker a.word → ⊥) ⊎ ((m : Word) × (rest : List (ℕ × Word)) × (a.last ++ b.looks.0 ≡ (k, m) ∷ rest) × (m ≢ a.word))
    cause (inl u) = inl u
    cause (inr u) = inr (u.0, u.1 ++ b.looks.0, ap (λ l. l ++ b.looks.0) u.2, u.3)

passed_after : (d e f : Desk) (k : ℕ) → IsLater d e → PassedBy k e f → PassedBy k d f
passed_after d e f k b a = record {
  first = b.looks.0 ++ a.first;
  word = a.word;
  last = a.last;
  looks = a.looks ∙ ap (λ l. l ++ (a.first ++ (k, a.word) ∷ a.last)) b.looks.1 ∙ append_assoc d.view.looks b.looks.0 (a.first ++ (k, a.word) ∷ a.last)
      ∙ ap (λ l. d.view.looks ++ l) (sym (append_assoc b.looks.0 a.first ((k, a.word) ∷ a.last)));
  missed = subst (λ w. (ReadyFor w a.word → ⊥) ⊎ ((m : Word) × (rest : List (ℕ × Word)) × (a.last ≡ (k, m) ∷ rest) × (m ≢ a.word))) b.worker a.missed;
}

found_on : (d e f : Desk) (k : ℕ) → FoundBy k d e → IsLater e f → FoundBy k d f
found_on d e f k a b = record {
  first = a.first;
  word = a.word;
  last = a.last ++ b.looks.0;
  looks = b.looks.1 ∙ ap (λ l. l ++ b.looks.0) a.looks ∙ append_assoc d.view.looks (a.first ++ (k, a.word) ∷ a.last) b.looks.0 ∙ ap (λ l. d.view.looks ++ l) (append_assoc a.first ((k, a.word) ∷ a.last) b.looks.0);
  ready = a.ready;
}

found_after : (d e f : Desk) (k : ℕ) → IsLater d e → FoundBy k e f → FoundBy k d f
found_after d e f k b a = record {
  first = b.looks.0 ++ a.first;
  word = a.word;
  last = a.last;
  looks = a.looks ∙ ap (λ l. l ++ (a.first ++ (k, a.word) ∷ a.last)) b.looks.1 ∙ append_assoc d.view.looks b.looks.0 (a.first ++ (k, a.word) ∷ a.last)
      ∙ ap (λ l. d.view.looks ++ l) (sym (append_assoc b.looks.0 a.first ((k, a.word) ∷ a.last)));
  ready = subst (λ w. ReadyFor w a.word) b.worker a.ready;
}

-- what is so of a slot stays so while the hands go on, or went on before
at_on : (P : ℕ → Desk → Desk → Type 0) → ((d e f : Desk) (k : ℕ) → P k d e → IsLater e f → P k d f) → (slots c : ℕ) (ds es fs : List Desk) → SameHands ds es → SameHands es fs
    → ((d e : Desk) → slice_get ds (c / slots) ≡ Some d → slice_get es (c / slots) ≡ Some e → P (c % slots) d e)
    → (d f : Desk) → slice_get ds (c / slots) ≡ Some d → slice_get fs (c / slots) ≡ Some f → P (c % slots) d f
at_on P on slots c ds es fs a b p d f x y =
    let m = get_some es (c / slots) (subst (λ n. c / slots < n) (sym a.len) (slice_get_within ds (c / slots) d x)) in
    on d m.0 f (c % slots) (p d m.0 x m.1) (b.each (c / slots) m.0 f m.1 y)

at_after : (P : ℕ → Desk → Desk → Type 0) → ((d e f : Desk) (k : ℕ) → IsLater d e → P k e f → P k d f) → (slots c : ℕ) (ds es fs : List Desk) → SameHands ds es
    → ((d e : Desk) → slice_get es (c / slots) ≡ Some d → slice_get fs (c / slots) ≡ Some e → P (c % slots) d e)
    → (d f : Desk) → slice_get ds (c / slots) ≡ Some d → slice_get fs (c / slots) ≡ Some f → P (c % slots) d f
at_after P after slots c ds es fs a p d f x y =
    let m = get_some es (c / slots) (subst (λ n. c / slots < n) (sym a.len) (slice_get_within ds (c / slots) d x)) in
    after d m.0 f (c % slots) (a.each (c / slots) d m.0 x m.1) (p m.0 f m.1 y)

-- the hands went on
pub swept_on : (slots n : ℕ) (ds es fs : List Desk) (taken : ℕ) → SameHands ds es → SameHands es fs → Swept slots n ds es taken → Swept slots n ds fs taken
swept_on slots zero ds es fs taken a b s = s
swept_on slots (suc n) ds es fs taken a b (inl s) = inl (at_on PassedBy passed_on slots n ds es fs a b s.0, swept_on slots n ds es fs taken a b s.1)
swept_on slots (suc n) ds es fs taken a b (inr s) = inr (s.0, s.1, at_on FoundBy found_on slots n ds es fs a b s.2, swept_on slots n ds es fs s.0 a b s.3)

-- one slot more, which was taken or passed by
pub swept_more : (slots n : ℕ) (ds es fs : List Desk) (taken more : ℕ) → SameHands ds es → SameHands es fs → more ≤ 1 → (more ≡ 0 → PassedAt slots n es fs) → (0 < more → FoundAt slots n es fs)
    → Swept slots n ds es taken → Swept slots (suc n) ds fs (taken + more)
swept_more slots n ds es fs taken zero a b few p q s =
    let same : taken ≡ taken + 0 = omega arith in
    subst (λ t. Swept slots (suc n) ds fs t) same (inl (at_after PassedBy passed_after slots n ds es fs a (p refl), swept_on slots n ds es fs taken a b s))
swept_more slots n ds es fs taken (suc more) a b few p q s =
    inr (taken, omega (arith, few), at_after FoundBy found_after slots n ds es fs a (q (omega arith)), swept_on slots n ds es fs taken a b s)

-- a hand that took an operation found it
pub took_found : (d e : Desk) (k p : ℕ) → e ≡ with_view d (took d.view k p) → FoundBy k d e
took_found d e k p same = record { first = []; word = word Ready p d.view.worker; last = []; looks = ap (λ (z : Desk). z.view.looks) same; ready = (refl, refl) }
