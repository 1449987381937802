-- One operation more that is dealt by its size.
use Rattle.std.proofs.Common.{◌≡◌, ◌≢◌, ℕ, zero, suc, ◌+◌, ◌-◌, ◌<◌, ◌≤◌, List, [], ◌∷◌, ◌++◌, length, get_or, map, take, drop, Option, None, Some, option_map, inl, inr, refl, ap, ◌∙◌, sym, subst, arith, take-add}
use Rattle.std.specs.Prelude.{slice_get}
use Rattle.std.specs.List.{All}
use Rattle.std.specs.List.Sorted.{IsPermutation}
use Rattle.std.proofs.lemmas.Bool.Decides.{eqb_tells}
use Rattle.std.proofs.lemmas.List.{append-nil, length-map, length-take, map-append, take-take}
use Rattle.std.proofs.lemmas.List.Elements.{All-same, All-take}
use Rattle.std.proofs.lemmas.List.Sorted.{IsPermutation-refl}
use Rattle.crypto_op.specs.declared.op.Op.{Op}
use Rattle.crypto_op.specs.Op.{data_len_of}
use Rattle.crypto_op.specs.Burst.{Burst}
use Rattle.dev_core.specs.Burst.{front, front_log, lens, offered, rest_of}
use Rattle.dev_core.specs.declared.driver.Driver.{Ghosts}
use Rattle.dev_core.specs.declared.driver.LogEntry.{LogEntry}
use Rattle.sched_core.specs.declared.ring.Slot.{Slot}
use Rattle.sched_core.specs.Pending.{InOrder}
use Rattle.sched_core.specs.Ring.{Ring}
use Rattle.sched_modes.specs.Crew.{Grew, Places, free, of_size, only_for, share, size_worker, told}
use Rattle.sched_modes.specs.Laws.{order_kept, went_same, went_two}
use Rattle.sched_modes.specs.Pool.{WentOn, pending_in}
use Rattle.sched_modes.specs.Sizing.{DealtBySize}
use Rattle.sched_modes.specs.Workers.{Goes, SameBut, places}
use Rattle.sched_modes.specs.declared.pool.Pool.{Pool}
use Rattle.sched_modes.proofs.Bursts.{free_le, length_front_log, length_told}
use Rattle.sched_modes.proofs.Sizes.{first_entry, first_length, of_size-append, of_size-one, share-append, share-else, share-here}
use Rattle.sched_modes.proofs.Two.{fresh_rest, front_two, grew_two, order_two, pending_two, rest_two, told_two}

went_as : {C D : Type 0} {m : Ghosts D C} (f g : ℕ → List LogEntry) (p q : Pool C D m) → ((k : ℕ) → f k ≡ g k) → WentOn f p q → WentOn g p q
went_as {m = m} f g p q e w = record {
  workers = w.workers;
  threshold = w.threshold;
  sessions = w.sessions;
  cap = w.cap;
  devs = record { len = w.devs.len; others = w.devs.others; each = λ k d. subst (λ (ops : List LogEntry). Goes m ops (get_or p.devs.items k d) (get_or q.devs.items k d)) (e k) (w.devs.each k d) };
}

grew_none : {C : Type 0} (ring : Option (Ring (Slot C))) → Grew 0 (places ring) (places ring)
grew_none None = refl
grew_none (Some r) = (refl, omega arith, omega arith)

lens_two : {C : Type 0} (m n : ℕ) (a b : Burst (Op C)) → b ≡ rest_of m a → lens (m + n) a ≡ lens m a ++ lens n b
lens_two m n a b e = rw e (ap (map (λ (o : Op _). data_len_of o.spec)) (take-add m n a.ops) ∙ map-append (λ (o : Op _). data_len_of o.spec) (take m a.ops) (take n (drop m a.ops)))

-- what a worker's room is behind the next operation, for worker j
room_next : {D : Type 0} (room : D → Option ℕ) (devs1 devs2 : List D) (j i k r s x : ℕ) (d : D) → (k ≡ j → x ≡ i) → (k ≢ j → x ≡ 0) → (s ≤ r) × (room (get_or devs1 k d) ≡ Some (r - s)) → ((y : D) → room (get_or devs2 j y) ≡ option_map (λ q. q - i) (room (get_or devs1 j y))) → ((y : D) (q : ℕ) → room (get_or devs1 j y) ≡ Some q → i ≤ q) → SameBut j devs1 devs2 → (s + x ≤ r) × (room (get_or devs2 k d) ≡ Some (r - (s + x)))
room_next room devs1 devs2 j i k r s x d here else before told within same = elim (eqb_tells k j) [
  | inl e ↦
      let is = here e.1 in
      let now : room (get_or devs1 j d) ≡ Some (r - s) = subst (λ t. room (get_or devs1 t d) ≡ Some (r - s)) e.1 before.1 in
      let most = within d (r - s) now in
      let left : (r - s) - i ≡ r - (s + x) = omega (arith, is, before.0) in (
        omega (arith, is, most, before.0),
        subst (λ t. room (get_or devs2 t d) ≡ Some (r - (s + x))) (sym e.1) (told d ∙ (ap (option_map (λ q. q - i)) now ∙ ap Some left)),
      )
  | inr f ↦
      let is = else f.1 in
      let left : r - s ≡ r - (s + x) = omega (arith, is) in
      (omega (arith, is, before.0), ap room (same k d f.1) ∙ (before.1 ∙ ap Some left))
]

none_told : (o : Option Places) (t k : ℕ) → [] ≡ of_size t k (told o [])
none_told None t k = refl
none_told (Some p) t k = refl

pub none_dealt : {C D : Type 0} {m : Ghosts D C} → ((a : D) → m.follows a a) → (p : Pool C D m) (b : Burst (Op C)) → DealtBySize p b 0 p b
none_dealt same p b = record {
  rest = refl;
  pending = rw (append-nil (pending_in p)) (IsPermutation-refl (pending_in p));
  in_order = λ o. sym (append-nil (pending_in p));
  ring = grew_none p.ring;
  went = went_as (λ k. []) (λ k. of_size p.threshold k (told (places p.ring) [])) p p (λ k. none_told (places p.ring) p.threshold k) (went_same same p);
  rooms = λ k r d e. (omega arith, e ∙ ap Some (let z : r ≡ r - 0 = omega arith in z));
  stats = refl;
}

pub dealt_more : {C D : Type 0} {m : Ghosts D C} → ((a b c : D) → m.follows a b → m.follows b c → m.follows a c) → (p0 p1 p2 : Pool C D m) (b0 b1 b2 : Burst (Op C)) (n i j : ℕ) (op : Op C) → n ≤ length b0.ops → i ≤ 1 → 0 < length b1.ops → op ≡ get_or b1.ops 0 op → j ≡ size_worker p0.threshold (data_len_of op.spec) → i ≤ length b1.ops
    → DealtBySize p0 b0 n p1 b1 → b2 ≡ rest_of i b1 → IsPermutation (pending_in p1 ++ front i b1) (pending_in p2) → (InOrder p1.ring → pending_in p2 ≡ pending_in p1 ++ front i b1) → Grew i (places p1.ring) (places p2.ring)
    → WentOn (only_for j (told (places p1.ring) (front_log i b1))) p1 p2 → ((d : D) → m.room (get_or p2.devs.items j d) ≡ option_map (λ q. q - i) (m.room (get_or p1.devs.items j d))) → ((d : D) (q : ℕ) → m.room (get_or p1.devs.items j d) ≡ Some q → i ≤ q) → SameBut j p1.devs.items p2.devs.items → p2.stats ≡ p1.stats
    → DealtBySize p0 b0 (n + i) p2 b2
dealt_more {m = m} on p0 p1 p2 b0 b1 b2 n i j op few one some first size enough s rest pending order ring went room within same stats =
    let t = p0.threshold in
    let o0 = places p0.ring in let o1 = places p1.ring in
    let ys : List LogEntry = told o1 (front_log i b1) in
    let ys_is : length ys ≤ 1 = (let a = length_told o1 (front_log i b1) in let b = length_front_log i b1 in omega (arith, a, b, one)) in
    let both = told_two n i o0 o1 b0 b1 s.rest few s.ring in
    let sized = λ (e : LogEntry) (f : ys ≡ e ∷ []). ap (size_worker t) (first_entry i o1 b1 op one some first e f) ∙ sym size in
    let ls = lens i b1 in
    let ls_is : length ls ≡ i = length-map (take i b1.ops) (λ (o : Op _). data_len_of o.spec) ∙ (length-take i b1.ops ∙ omega (arith, enough)) in
    let measured = λ (l : ℕ) (f : ls ≡ l ∷ []). ap (size_worker t) (first_length i b1 op one some first l f) ∙ sym size in
    record {
      rest = rest_two n i b0 b1 b2 s.rest rest;
      pending = pending_two (pending_in p0) (pending_in p1) (pending_in p2) (front n b0) (front i b1) (front (n + i) b0) (front_two n i b0 b1 s.rest) s.pending pending;
      in_order = λ o. order_two (pending_in p0) (pending_in p1) (pending_in p2) (front n b0) (front i b1) (front (n + i) b0) (front_two n i b0 b1 s.rest) (s.in_order o) (order (order_kept p0.ring p1.ring s.went.cap o));
      ring = grew_two n i o0 o1 (places p2.ring) s.ring ring;
      went = went_as (λ k. of_size t k (told o0 (front_log n b0)) ++ only_for j ys k) (λ k. of_size t k (told o0 (front_log (n + i) b0))) p0 p2
          (λ k. ap (λ l. of_size t k (told o0 (front_log n b0)) ++ l) (sym (of_size-one t j k ys ys_is sized)) ∙ (sym (of_size-append t k (told o0 (front_log n b0)) ys) ∙ ap (of_size t k) (sym both)))
          (went_two on (λ k. of_size t k (told o0 (front_log n b0))) (only_for j ys) p0 p1 p2 s.went went);
      rooms = λ k r d e.
          let x : share t k (lens (n + i) b0) ≡ share t k (lens n b0) + share t k ls = ap (share t k) (lens_two n i b0 b1 s.rest) ∙ share-append t k (lens n b0) ls in
          subst (λ (y : ℕ). (y ≤ r) × (m.room (get_or p2.devs.items k d) ≡ Some (r - y))) (sym x)
          (room_next m.room p1.devs.items p2.devs.items j i k r (share t k (lens n b0)) (share t k ls) d
          (λ q. share-here t k ls (omega (arith, ls_is, one)) (λ l f. measured l f ∙ sym q) ∙ ls_is)
          (λ q. share-else t j k ls (omega (arith, ls_is, one)) measured q)
          (s.rooms k r d e) room within same);
      stats = stats ∙ s.stats;
    }

pub fresh_next : {X : Type 0} (P : X → Type 0) (most n : ℕ) (a b : Burst X) → n < most → b ≡ rest_of n a → All P (take most a.ops) → All P (take 1 b.ops)
fresh_next P most n a b h e f =
    let g = fresh_rest P most n a.ops (omega (arith, h)) f in
    let one : 1 ≤ most - n = omega (arith, h) in
    rw e (All-same P (take 1 (drop n a.ops)) (take 1 (take (most - n) (drop n a.ops))) (sym (take-take 1 (most - n) (drop n a.ops) one)) (All-take P 1 (take (most - n) (drop n a.ops)) g))

-- of one operation offered at most one is taken, and one only where there is one
pub free_one : {X : Type 0} (o : Option Places) (b : Burst X) → (free o (offered 1 b) ≤ 1) × (free o (offered 1 b) ≤ length b.ops)
free_one o b = let f = free_le o (offered 1 b) in (omega (arith, f), omega (arith, f))

pub next_is : {X : Type 0} (n : ℕ) (xs : List X) (x y : X) → n < length xs → slice_get xs n ≡ Some y → x ≡ get_or (drop n xs) 0 x → x ≡ y
next_is n [] x y h e f = absurd (omega (arith, h))
next_is zero (z ∷ xs) x y h e f = cc
next_is (suc n) (z ∷ xs) x y h e f = next_is n xs x y (omega (arith, h)) e f

some_same : (a b : ℕ) → Some a ≡ Some b → a ≡ b
some_same a b e = cc

pub told_again : (o : Option ℕ) (n s : ℕ) → n ≡ 0 → option_map (λ r. r - n) o ≡ Some s → o ≡ Some s
told_again None n s z e = cc
told_again (Some r) n s z e = let k : r - n ≡ s = some_same (r - n) s e in ap Some ((let q : r ≡ s = omega (arith, k, z) in q))

pub free_some : (a b : ℕ) (o : Option Places) → 0 < a → 0 < free o b → 0 < free o a
free_some a b None h k = h
free_some a b (Some r) h k = omega (arith, h, k)

pub free_mono : (a b : ℕ) (o : Option Places) → a ≤ b → free o a ≤ free o b
free_mono a b None h = h
free_mono a b (Some r) h = omega (arith, h)

first_dropped : {X : Type 0} (n : ℕ) (xs : List X) (x : X) → slice_get xs n ≡ Some x → slice_get (drop n xs) 0 ≡ Some x
first_dropped zero xs x e = e
first_dropped (suc n) [] x e = e
first_dropped (suc n) (y ∷ xs) x e = first_dropped n xs x e

-- the first operation that is left
pub first_left : {X : Type 0} (n : ℕ) (a b : Burst X) (x : X) → b ≡ rest_of n a → slice_get a.ops n ≡ Some x → slice_get b.ops 0 ≡ Some x
first_left n a b x e h = rw e (first_dropped n a.ops x h)
