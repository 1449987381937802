-- What workers hold, and the ring's open slots.
use Rattle.std.proofs.Common.{◌≡◌, ℕ, suc, ◌+◌, ◌%◌, ◌^◌, ◌==◌, ◌≤◌, cond, List, [], ◌∷◌, ◌++◌, length, map, refl, ap, ◌∙◌, sym, arith, length-append, inl, inr, Some}
use Rattle.std.specs.List.{count_by}
use Rattle.std.specs.List.Sorted.{IsPermutation}
use Rattle.std.proofs.lemmas.List.{append_assoc, append-nil, map-append}
use Rattle.std.proofs.lemmas.List.Sorted.{sum_by-IsPermutation}
use Rattle.crypto_op.specs.declared.op.Op.{Op}
use Rattle.crypto_op.specs.Op.{Entry}
use Rattle.sched_core.specs.declared.ring.Slot.{Slot}
use Rattle.sched_core.specs.declared.ring.Slot.TheVariants.{Open, Settled}
use Rattle.sched_core.specs.Ring.{Ring}
use Rattle.sched_core.specs.Pending.{pending_from, open_numbers, times, HoldsOpen, IsRingSound}
use Rattle.sched_core.proofs.Lookup.{IsIn, one, count-cons, count-append, is_one}
use Rattle.sched_core.proofs.PendingMore.{pending-same, exactly}
use Rattle.sched_core.proofs.Settling.{listed}
use Rattle.sched_modes.specs.Workers.{Taken}

split : (n : ℕ) (xs : List ℕ) → IsIn n xs → (pre : List ℕ) × (post : List ℕ) × (xs ≡ pre ++ n ∷ post)
split n [] i = absurd i
split n (x ∷ xs) (inl h) = ([], xs, ap (λ y. y ∷ xs) h)
split n (x ∷ xs) (inr i) = let r = split n xs i in (x ∷ r.0, r.1, ap (λ l. x ∷ l) r.2)

-- lists in which each number stands as often are as long
same_length : (xs ys : List ℕ) → ((n : ℕ) → times n xs ≡ times n ys) → length xs ≡ length ys
same_length [] [] h = refl
same_length [] (y ∷ ys) h = let c = count-cons (λ z. z == y) y ys in let o = is_one y y refl in let k = h y in absurd (omega (arith, c, o, k))
same_length (x ∷ xs) ys h =
    let c = count-cons (λ z. z == x) x xs in let o = is_one x x refl in let k = h x in
    let s = split x ys (listed x ys (omega (arith, c, o, k))) in
    let r = same_length xs (s.0 ++ s.1) (λ n.
    let a = count-cons (λ z. z == n) x xs in let b = count-append (λ z. z == n) s.0 (x ∷ s.1) in let d = count-cons (λ z. z == n) x s.1 in
    let e = count-append (λ z. z == n) s.0 s.1 in let f = h n in let g : times n ys ≡ times n (s.0 ++ x ∷ s.1) = ap (times n) s.2 in
    omega (arith, a, b, d, e, f, g)) in
    omega (arith, r, ap length s.2, length-append s.0 (x ∷ s.1), length-append s.0 s.1)

length_open : {C : Type 0} (a : ℕ) (slots : List (Slot C)) → length (open_numbers a slots) ≤ length slots
length_open a [] = omega arith
length_open a (Open saved ∷ slots) = let r = length_open (a + 1) slots in omega (arith, r)
length_open a (Settled op ∷ slots) = let r = length_open (a + 1) slots in omega (arith, r)

abbrev pub positions : {C : Type 0} → List (Entry C) → List ℕ
positions [] = []
positions (e ∷ es) = e.pos ∷ positions es

length_positions : {C : Type 0} (es : List (Entry C)) → length (positions es) ≡ length es
length_positions [] = refl
length_positions (e ∷ es) = ap suc (length_positions es)

count_positions : {C : Type 0} (n : ℕ) (es : List (Entry C)) → count_by (λ (e : Entry C). e.pos == n) es ≡ times n (positions es)
count_positions n [] = refl
count_positions n (e ∷ es) = count-cons (λ x. x.pos == n) e es ∙ (ap (λ k. one (e.pos == n) + k) (count_positions n es) ∙ sym (count-cons (λ x. x == n) e.pos (positions es)))

-- the devices hold no more than the ring has slots
pub length_held : {C : Type 0} (r : Ring (Slot C)) (es : List (Entry C)) → HoldsOpen r es → length es ≤ length r.slots
length_held r es h =
    let s = same_length (positions es) (open_numbers r.first r.slots) (λ n. sym (count_positions n es) ∙ h n) in
    omega (arith, s, length_positions es, length_open r.first r.slots)

pub sound_moved : {C : Type 0} (r : Ring (Slot C)) (es fs : List (Entry C)) → IsPermutation es fs → IsRingSound (Some r) fs → IsRingSound (Some r) es
sound_moved r es fs p s = (λ n. sym (sum_by-IsPermutation (λ y. cond (y.pos == n) 1 0) es fs p) ∙ s.0 n, s.1, s.2, s.3)

pub pending_moved : {C : Type 0} (r : Ring (Slot C)) (es fs : List (Entry C)) → IsPermutation es fs → IsRingSound (Some r) fs → pending_from r.first r.slots es ≡ pending_from r.first r.slots fs
pending_moved r es fs p s =
    let t = sound_moved r es fs p s in
    let q : IsPermutation (es ++ []) fs = rw (append-nil es) p in
    sym (pending-same r.first r.slots es [] fs q (λ n i. let x = exactly n r.first r.slots (omega (arith, s.1, s.2)) i in (t.0 n ∙ x, s.0 n ∙ x)))

pub taken_more : {C : Type 0} (r0 r s : Ring (Slot C)) (ops : List (Op C)) (op : Op C) → Taken r0 r ops → r.slots ≡ Settled op ∷ s.slots → s ≡ record r { first = (r.first + 1) % 2 ^ 64; slots = s.slots } → Taken r0 s (ops ++ op ∷ [])
taken_more r0 r s ops op t e f =
    let slots : r0.slots ≡ map Settled (ops ++ op ∷ []) ++ s.slots =
    t.0 ∙ (ap (λ l. map Settled ops ++ l) e ∙ (sym (append_assoc (map Settled ops) (Settled op ∷ []) s.slots) ∙ ap (λ l. l ++ s.slots) (sym (map-append Settled ops (op ∷ []))))) in
    (slots, ap (λ (x : Ring _). x.cap) f ∙ t.1, omega (arith, ap (λ (x : Ring _). x.first) f, t.2, length-append ops (op ∷ [])))
