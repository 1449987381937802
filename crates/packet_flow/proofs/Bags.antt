-- Entries that move between a burst, a driver and those that came back.
use Rattle.std.proofs.Common.{◌≡◌, ◌≤◌, ◌+◌, ◌==◌, ℕ, Bool, List, [], ◌∷◌, ◌++◌, length, map, take, drop, cond, count_by, zero, suc, inl, inr, refl, ap, sym, subst, true≢false, ◌∙◌, arith, append_assoc, length-append, length-take}
use Rattle.std.specs.Prelude.{Option, None, IsSome, ◌↔◌, ◌<◌, ◌⊎◌, Result, Ok, Err, OnOk, OnErr}
use Rattle.crypto_model.specs.Counts.{Rose}
use Rattle.std.specs.List.Sorted.{IsPermutation}
use Rattle.std.proofs.lemmas.List.Sums.{sum_by-append}
use Rattle.std.proofs.lemmas.List.{length-map, map-append, take-append-drop}
use Rattle.std.proofs.lemmas.List.Sorted.{sum_by-IsPermutation, All-permutation, IsPermutation-append_left, IsPermutation-sym, length_permutation}
use Rattle.crypto_op.specs.declared.spec.Card.{Card}
use Rattle.crypto_op.specs.Burst.{Burst}
use Rattle.crypto_op.specs.Op.{Entry}
use Rattle.dev_core.specs.Burst.{with_ops}
use Rattle.session_file.specs.declared.plan.Plan.{Plan}
use Rattle.packet_flow.specs.Seats.{Seat}
use Rattle.packet_flow.specs.Numbered.{Numbered}
use Rattle.packet_flow.specs.Slots.{StandFor, IsFor}

pub count-append : {X : Type 0} (p : X → Bool) (xs ys : List X) → count_by p (xs ++ ys) ≡ count_by p xs + count_by p ys
count-append p xs ys = sum_by-append (λ y. cond (p y) 1 0) xs ys

count-permutation : {X : Type 0} (p : X → Bool) (xs ys : List X) → IsPermutation xs ys → count_by p ys ≡ count_by p xs
count-permutation p xs ys h = sum_by-IsPermutation (λ y. cond (p y) 1 0) xs ys h

-- the entries in another order
pub stand_moved : (plan : Plan) (ps : List Numbered) (ss : List Seat) (xs ys : List (Entry Card)) → IsPermutation xs ys
    → StandFor plan ps ss xs → StandFor plan ps ss ys
stand_moved plan ps ss xs ys h b = record {
  slots = b.slots;
  rising = b.rising;
  made = All-permutation (IsFor plan ps) xs ys h b.made;
  waits = λ n. count-permutation (λ (e : Entry Card). e.cargo.packet == n) xs ys h ∙ b.waits n;
}

-- some of what was held came back
pub came_back : (plan : Plan) (ps : List Numbered) (ss : List Seat) (back held held' rest : List (Entry Card)) → IsPermutation (back ++ held') held
    → StandFor plan ps ss (held ++ rest) → StandFor plan ps ss (back ++ (held' ++ rest))
came_back plan ps ss back held held' rest h b =
    subst (StandFor plan ps ss) (append_assoc back held' rest)
    (stand_moved plan ps ss (held ++ rest) ((back ++ held') ++ rest) (IsPermutation-append_left rest held (back ++ held') (IsPermutation-sym (back ++ held') held h)) b)

-- the first of those that were offered are held too
pub went_in : {X : Type 0} (f : X → Entry Card) (plan : Plan) (ps : List Numbered) (n : ℕ) (ss : List Seat) (held held' : List (Entry Card)) (offered : List X)
    → IsPermutation (held ++ map f (take n offered)) held' → StandFor plan ps ss (held ++ map f offered) → StandFor plan ps ss (held' ++ map f (drop n offered))
went_in f plan ps n ss held held' offered h b =
    let split : held ++ map f offered ≡ (held ++ map f (take n offered)) ++ map f (drop n offered) =
    ap (λ (l : List (Entry Card)). held ++ l) (ap (map f) (sym (take-append-drop n offered)) ∙ map-append f (take n offered) (drop n offered))
    ∙ sym (append_assoc held (map f (take n offered)) (map f (drop n offered))) in
    stand_moved plan ps ss ((held ++ map f (take n offered)) ++ map f (drop n offered)) (held' ++ map f (drop n offered))
    (IsPermutation-append_left (map f (drop n offered)) (held ++ map f (take n offered)) held' h) (subst (StandFor plan ps ss) split b)

-- how many are held
pub fewer_held : {X E : Type 0} (f : X → E) (xs : List X) (held held' : List E) (n : ℕ) → IsPermutation (map f xs ++ held') held → length xs ≡ n → n + length held' ≡ length held
fewer_held f xs held held' n h count =
    omega (arith, length_permutation (map f xs ++ held') held h, length-append (map f xs) held', length-map xs f)

pub more_held : {X E : Type 0} (f : X → E) (xs : List X) (held held' : List E) (n : ℕ) → IsPermutation (held ++ map f (take n xs)) held' → n ≤ length xs → length held' ≡ length held + n
more_held f xs held held' n h within =
    omega (arith, length_permutation (held ++ map f (take n xs)) held' h, length-append held (map f (take n xs)), length-map (take n xs) f, length-take n xs)

-- where the burst was empty, all that it has came back
pub all_back : {X E : Type 0} (f : X → E) (old new : List X) (held' held : List E) → old ≡ [] → IsPermutation (map f (drop (length old) new) ++ held') held → IsPermutation (map f new ++ held') held
all_back f old new held' held none h = subst (λ (l : List _). IsPermutation (map f (drop (length l) new) ++ held') held) none h

-- nothing was there to take
pub none_left : {X : Type 0} (o : Option X) (xs : List X) → o ≡ None → (IsSome o ↔ (0 < length xs)) → xs ≡ []
none_left o [] is found = refl
none_left o (x ∷ xs) is found = absurd (true≢false (sym (subst IsSome is (found.1 (omega arith)))))

-- the burst is as it was before, once it is emptied
pub same_back : {X : Type 0} (first old out : Burst X) (ops : List X) → first.ops ≡ [] → old ≡ first → out ≡ with_ops ops old → record { cap = out.cap; ops = [] } ≡ first
same_back first old out ops none same kept =
    let cap : out.cap ≡ first.cap = ap (λ (b : Burst _). b.cap) kept ∙ ap (λ (b : Burst _). b.cap) same in
    ap (λ (n : ℕ). record { cap = n; ops = [] }) cap ∙ ap (λ (l : List _). record { cap = first.cap; ops = l }) (sym none)

pub on_err_from : {T E : Type 0} (r : Result T E) (P : Type 0) → P → OnErr r P
on_err_from (Ok x) P p = tt
on_err_from (Err e) P p = p

pub on_ok_from : {T E : Type 0} (r : Result T E) (P : Type 0) → P → OnOk r P
on_ok_from (Ok x) P p = p
on_ok_from (Err e) P p = tt

-- ---- a turn that moves nothing

still_rose : (s0 s1 s2 : ℕ) → s0 ≤ s1 → s1 ≤ s2 → Rose s0 s1 ⊎ Rose s1 s2 → Rose s0 s2
still_rose s0 s1 s2 up more (inl rose) = omega (arith, rose)
still_rose s0 s1 s2 up more (inr rose) = omega (arith, rose)

by_room : (a n h h1 m s0 s1 s2 : ℕ) → n ≡ 0 → m ≡ 0 → h1 ≡ h + n → (n < a → Rose s0 s1) → (a ≡ 0 → 0 < h) → (m ≡ 0 → 0 < h1 → Rose s1 s2) → Rose s0 s1 ⊎ Rose s1 s2
by_room zero n h h1 m s0 s1 s2 n0 m0 held enqueue idle drain = inr (drain m0 (let some : 0 < h = idle refl in omega (arith, some, held)))
by_room (suc a) n h h1 m s0 s1 s2 n0 m0 held enqueue idle drain = inl (enqueue (omega (arith, n0)))

-- n were accepted of k, m came back, and h were held
pub nothing_moved : (k n m h h1 s0 s1 s2 : ℕ) → n + m ≡ 0 → 0 < h + k → h1 ≡ h + n → s0 ≤ s1 → s1 ≤ s2
    → (0 < k → (a : ℕ) × (n < a → Rose s0 s1) × (a ≡ 0 → 0 < h)) → (m ≡ 0 → 0 < h1 → Rose s1 s2) → Rose s0 s2
nothing_moved zero n m h h1 s0 s1 s2 none some held up more enqueue drain =
    still_rose s0 s1 s2 up more (inr (drain (omega (arith, none)) (omega (arith, some, held))))
nothing_moved (suc k) n m h h1 s0 s1 s2 none some held up more enqueue drain =
    let told = enqueue (omega arith) in
    still_rose s0 s1 s2 up more (by_room told.0 n h h1 m s0 s1 s2 (omega (arith, none)) (omega (arith, none)) held told.1 told.2 drain)
