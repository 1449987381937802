-- What is pending after an operation comes back.
use Rattle.std.proofs.Common.{◌≡◌, ◌≢◌, ◌⊎◌, ℕ, zero, suc, ◌+◌, ◌-◌, ◌%◌, ◌^◌, ◌==◌, ◌<◌, ◌≤◌, Bool, true, false, cond, List, [], ◌∷◌, ◌++◌, length, map, refl, ap, ◌∙◌, sym, arith, rules, length-append, inl, inr, add-zero, zero-add, Some}
use Rattle.std.specs.List.{filter, count_by}
use Rattle.std.specs.List.Sorted.{IsPermutation}
use Rattle.crypto_op.specs.declared.op.Op.{Op}
use Rattle.crypto_op.specs.Op.{moved_to}
use Rattle.crypto_op.specs.Op.{Entry, entry_of}
use Rattle.sched_core.specs.declared.ring.Slot.{Slot}
use Rattle.sched_core.specs.declared.ring.Slot.TheVariants.{Open, Settled}
use Rattle.sched_core.specs.Ring.{Ring, IsOpenAt, settled, settled_at, place}
use Rattle.std.specs.List.{All}
use Rattle.std.proofs.lemmas.List.Elements.{All-cons, All-head, All-tail}
use Rattle.crypto_model.specs.Process.{Transform}
use Rattle.crypto_op.specs.Op.{IsDone}
use Rattle.sched_core.specs.Pending.{SlotDone, with_pos, held_as, pending_from, open_numbers, times, HoldsOpen, IsRingSound}
use Rattle.sched_core.proofs.Lookup.{IsIn, one, count-cons, count-append, counted, only, same_found, count_more, far, apart, is_one, not_one, is_in-right, is_in-permutation}
use Rattle.sched_core.proofs.Slots.{open_below}
use Rattle.sched_core.proofs.PendingMore.{pending-same, eqb_refl, exactly}
use Rattle.std.proofs.lemmas.List.{append-nil}
use Rattle.std.proofs.lemmas.Bool.Decides.{eqb_tells}
use Rattle.std.proofs.lemmas.List.Sorted.{IsPermutation-trans, IsPermutation-sym, IsPermutation-to_front, IsPermutation-middle}

-- an open number has a place
pub open_place : {C : Type 0} (a p : ℕ) (slots : List (Slot C)) → IsIn p (open_numbers a slots) → (i : ℕ) × IsOpenAt slots i × (p ≡ (a + i) % 2 ^ 64) × (i < length slots)
open_place a p [] i = absurd i
open_place a p (Open saved ∷ slots) (inl h) = (0, tt, sym h ∙ ap (λ b. b % 2 ^ 64) (sym (add-zero a)), omega arith)
open_place a p (Open saved ∷ slots) (inr i) =
    let r = open_place (a + 1) p slots i in let l = r.3 in let s : (a + 1) + r.0 ≡ a + suc r.0 = omega arith in
    (suc r.0, r.1, r.2 ∙ ap (λ b. b % 2 ^ 64) s, omega arith)
open_place a p (Settled op ∷ slots) i =
    let r = open_place (a + 1) p slots i in let l = r.3 in let s : (a + 1) + r.0 ≡ a + suc r.0 = omega arith in
    (suc r.0, r.1, r.2 ∙ ap (λ b. b % 2 ^ 64) s, omega arith)

pub place_is : (first i : ℕ) → first < 2 ^ 64 → i < 2 ^ 64 → ((first + i) % 2 ^ 64 + (2 ^ 64 - first)) % 2 ^ 64 ≡ i
place_is first i h k = omega arith

count_one : {C : Type 0} (n : ℕ) (e : Entry C) → count_by (λ (x : Entry C). x.pos == n) (e ∷ []) ≡ one (e.pos == n)
count_one n e = zero-add (one (e.pos == n))

-- a number that isn't e's is held as often without e
count_without : {C : Type 0} (n : ℕ) (rest fs : List (Entry C)) (e : Entry C) → IsPermutation (rest ++ e ∷ []) fs → e.pos ≢ n → count_by (λ (x : Entry C). x.pos == n) rest ≡ count_by (λ (x : Entry C). x.pos == n) fs
count_without n rest fs e p h =
    let c = count_more (λ x. x.pos == n) rest (e ∷ []) fs p in
    let o = not_one e.pos n h in
    let t = count_one n e in
    omega (arith, c, o, t)

tail_apart : {C : Type 0} (a n : ℕ) (slots : List (Slot C)) → length slots < 2 ^ 64 → IsIn n (open_numbers (a + 1) slots) → a % 2 ^ 64 ≢ n
tail_apart a n slots h i e =
    let r = far n (a + 1) slots (λ i k f. let s : (a + 1) + i ≡ a + suc i = omega arith in apart a (suc i) (omega arith) (omega arith) (ap (λ b. b % 2 ^ 64) (sym s) ∙ (f ∙ sym e))) in
    let o = counted (λ x. x == n) (open_numbers (a + 1) slots) n i (eqb_refl n) in
    omega (arith, r, o)

-- what is pending stays
pub pending-settled : {C : Type 0} (a : ℕ) (slots : List (Slot C)) (i : ℕ) (op : Op C) (rest fs : List (Entry C)) → IsPermutation (rest ++ entry_of op ∷ []) fs → op.spec.pos ≡ (a + i) % 2 ^ 64 → IsOpenAt slots i → length slots ≤ 2 ^ 64 → ((n : ℕ) → IsIn n (open_numbers a slots) → count_by (λ (e : Entry C). e.pos == n) fs ≡ 1) → pending_from a (settled_at slots i op) rest ≡ pending_from a slots fs
pending-settled a [] i op rest fs p at o l h = absurd o
pending-settled a (Settled k ∷ slots) zero op rest fs p at o l h = absurd o
pending-settled a (Open saved ∷ slots) zero op rest fs p at o l h =
    let n = a % 2 ^ 64 in
    let e = entry_of op in
    let is : op.spec.pos ≡ n = at ∙ ap (λ b. b % 2 ^ 64) (add-zero a) in
    let test : (op.spec.pos == n) ≡ true = ap (λ b. b == n) is ∙ eqb_refl n in
    let f = only (λ x. x.pos == n) fs e (h n (inl refl)) (is_in-permutation e (rest ++ e ∷ []) fs p (is_in-right e rest (e ∷ []) (inl refl))) test in
    let tail = pending-same (a + 1) slots rest (e ∷ []) fs p (λ m j.
    let d : op.spec.pos ≢ m = λ q. tail_apart a m slots (omega arith) j (sym is ∙ q) in
    (count_without m rest fs e p d ∙ h m (inr j), h m (inr j))) in
    ap (λ l. entry_of (moved_to saved op) ∷ l) (sym tail) ∙ sym (ap (λ l. map (with_pos saved) l ++ pending_from (a + 1) slots fs) f)
pending-settled a (Open saved ∷ slots) (suc i) op rest fs p at o l h =
    let n = a % 2 ^ 64 in
    let e = entry_of op in
    let s : a + suc i ≡ (a + 1) + i = omega arith in
    let below : suc i < 2 ^ 64 = let b = open_below slots i o in omega arith in
    let d : op.spec.pos ≢ n = λ q. apart a (suc i) (omega arith) below (sym at ∙ q) in
    let f = same_found (λ x. x.pos == n) rest (e ∷ []) fs p (count_without n rest fs e p d ∙ h n (inl refl)) (h n (inl refl)) in
    let r = pending-settled (a + 1) slots i op rest fs p (at ∙ ap (λ b. b % 2 ^ 64) s) o (omega arith) (λ m j. h m (inr j)) in
    ap (λ l. map (with_pos saved) l ++ pending_from (a + 1) (settled_at slots i op) rest) (sym f) ∙ ap (λ l. held_as n saved fs ++ l) r
pending-settled a (Settled k ∷ slots) (suc i) op rest fs p at o l h =
    let s : a + suc i ≡ (a + 1) + i = omega arith in
    ap (λ l. entry_of k ∷ l) (pending-settled (a + 1) slots i op rest fs p (at ∙ ap (λ b. b % 2 ^ 64) s) o (omega arith) h)

pub times-settled : {C : Type 0} (n a : ℕ) (slots : List (Slot C)) (i : ℕ) (op : Op C) → IsOpenAt slots i → times n (open_numbers a slots) ≡ times n (open_numbers a (settled_at slots i op)) + one ((a + i) % 2 ^ 64 == n)
times-settled n a [] i op o = absurd o
times-settled n a (Settled k ∷ slots) zero op o = absurd o
times-settled n a (Open saved ∷ slots) zero op o =
    let c = count-cons (λ x. x == n) (a % 2 ^ 64) (open_numbers (a + 1) slots) in
    let z : one ((a + 0) % 2 ^ 64 == n) ≡ one (a % 2 ^ 64 == n) = ap (λ b. one (b % 2 ^ 64 == n)) (add-zero a) in
    omega (arith, c, z)
times-settled n a (Open saved ∷ slots) (suc i) op o =
    let s : (a + 1) + i ≡ a + suc i = omega arith in
    let r = times-settled n (a + 1) slots i op o in
    let c = count-cons (λ x. x == n) (a % 2 ^ 64) (open_numbers (a + 1) slots) in
    let d = count-cons (λ x. x == n) (a % 2 ^ 64) (open_numbers (a + 1) (settled_at slots i op)) in
    let z : one (((a + 1) + i) % 2 ^ 64 == n) ≡ one ((a + suc i) % 2 ^ 64 == n) = ap (λ b. one (b % 2 ^ 64 == n)) s in
    omega (arith, r, c, d, z)
times-settled n a (Settled k ∷ slots) (suc i) op o =
    let s : (a + 1) + i ≡ a + suc i = omega arith in
    times-settled n (a + 1) slots i op o ∙ ap (λ b. times n (open_numbers (a + 1) (settled_at slots i op)) + one (b % 2 ^ 64 == n)) s

pub holds-settled : {C : Type 0} (r : Ring (Slot C)) (i : ℕ) (op : Op C) (rest fs : List (Entry C)) → IsPermutation (rest ++ entry_of op ∷ []) fs → op.spec.pos ≡ (r.first + i) % 2 ^ 64 → IsOpenAt r.slots i → HoldsOpen r fs → HoldsOpen (record r { slots = settled_at r.slots i op }) rest
holds-settled r i op rest fs p at o h n =
    let c = count_more (λ x. x.pos == n) rest (entry_of op ∷ []) fs p in
    let one_more : count_by (λ (x : Entry _). x.pos == n) (entry_of op ∷ []) ≡ one ((r.first + i) % 2 ^ 64 == n) = count_one n (entry_of op) ∙ ap (λ b. one (b == n)) at in
    let t = times-settled n r.first r.slots i op o in
    let k = h n in
    omega (arith, c, one_more, t, k)

pub listed : (n : ℕ) (xs : List ℕ) → 1 ≤ times n xs → IsIn n xs
listed n [] h = absurd (omega arith)
listed n (x ∷ xs) h = elim (eqb_tells x n) [
  | inl t ↦ inl t.1
  | inr f ↦ inr (listed n xs (let c = count-cons (λ y. y == n) x xs in let o = not_one x n f.1 in omega (arith, c, o, h)))
]

pub length-settled_at : {C : Type 0} (slots : List (Slot C)) (i : ℕ) (op : Op C) → length (settled_at slots i op) ≡ length slots
length-settled_at [] i op = refl
length-settled_at (s ∷ slots) zero op = refl
length-settled_at (s ∷ slots) (suc i) op = ap suc (length-settled_at slots i op)

-- one operation that came back, of those that did
pub record Settles {C : Type 0} (r : Ring (Slot C)) (op : Op C) (held : List (Entry C)) (all rest : List (Op C)) : Type 0 where
  pub is_open : IsOpenAt r.slots (place r op.spec.pos)
  pub sound : IsRingSound (Some (record r { slots = settled_at r.slots (place r op.spec.pos) op })) (held ++ map entry_of rest)
  pub pending : pending_from r.first (settled_at r.slots (place r op.spec.pos) op) (held ++ map entry_of rest) ≡ pending_from r.first r.slots (held ++ map entry_of all)

settle_at : {C : Type 0} (r : Ring (Slot C)) (held : List (Entry C)) (op : Op C) (rest : List (Op C)) → IsRingSound (Some r) (held ++ entry_of op ∷ map entry_of rest) → Settles r op held (op ∷ rest) rest
settle_at r held op rest s =
    let e = entry_of op in
    let fs = held ++ e ∷ map entry_of rest in
    let es = held ++ map entry_of rest in
    let perm : IsPermutation (es ++ e ∷ []) fs = IsPermutation-trans (es ++ e ∷ []) (e ∷ es) fs (IsPermutation-to_front es e) (IsPermutation-sym fs (e ∷ es) (IsPermutation-middle held e (map entry_of rest))) in
    let in_fs = is_in-permutation e (es ++ e ∷ []) fs perm (is_in-right e es (e ∷ []) (inl refl)) in
    let k = counted (λ x. x.pos == op.spec.pos) fs e in_fs (eqb_refl op.spec.pos) in
    let h = s.0 op.spec.pos in
    let o = open_place r.first op.spec.pos r.slots (listed op.spec.pos (open_numbers r.first r.slots) (omega (arith, k, h))) in
    let i : o.0 < 2 ^ 64 = omega (arith, o.3, s.1, s.2) in
    let p : place r op.spec.pos ≡ o.0 = ap (λ a. (a + (2 ^ 64 - r.first)) % 2 ^ 64) o.2 ∙ place_is r.first o.0 s.3 i in
    record {
      is_open = rw p o.1;
      sound = rw p (holds-settled r o.0 op es fs perm o.2 o.1 s.0, omega (arith, length-settled_at r.slots o.0 op, s.1), s.2, s.3);
      pending = rw p (pending-settled r.first r.slots o.0 op es fs perm o.2 o.1 (omega (arith, s.1, s.2)) (λ n j. s.0 n ∙ exactly n r.first r.slots (omega (arith, s.1, s.2)) j));
    }

pub settle_step : {C : Type 0} (r : Ring (Slot C)) (held : List (Entry C)) (all : List (Op C)) (op : Op C) (rest : List (Op C)) → all ≡ op ∷ rest → IsRingSound (Some r) (held ++ map entry_of all) → Settles r op held all rest
settle_step r held all op rest e s = rw e (settle_at r held op rest (rw e at s))

pub none_behind : {C : Type 0} (held : List (Entry C)) (ops : List (Op C)) → length ops ≡ 0 → held ++ map entry_of ops ≡ held
none_behind held [] h = append-nil held
none_behind held (op ∷ ops) h = absurd (omega (arith, h))

done_moved : {C : Type 0} (sessions : List (List Transform)) (saved : ℕ) (op : Op C) → IsDone sessions op → IsDone sessions (moved_to saved op)
done_moved sessions saved op d = record { status = d.status; present = d.present }

slot_settled : {C : Type 0} (sessions : List (List Transform)) (s : Slot C) (op : Op C) → SlotDone sessions s → IsDone sessions op → SlotDone sessions (settled s op)
slot_settled sessions (Open saved) op h d = done_moved sessions saved op d
slot_settled sessions (Settled k) op h d = h

pub done_settled : {C : Type 0} (sessions : List (List Transform)) (slots : List (Slot C)) (i : ℕ) (op : Op C) → All (SlotDone sessions) slots → IsDone sessions op → All (SlotDone sessions) (settled_at slots i op)
done_settled sessions [] i op h d = h
done_settled sessions (s ∷ slots) zero op h d = All-cons (SlotDone sessions) (settled s op) slots (slot_settled sessions s op (All-head (SlotDone sessions) s slots h) d) (All-tail (SlotDone sessions) s slots h)
done_settled sessions (s ∷ slots) (suc i) op h d = All-cons (SlotDone sessions) s (settled_at slots i op) (All-head (SlotDone sessions) s slots h) (done_settled sessions slots i op (All-tail (SlotDone sessions) s slots h) d)

pub done_first : {C : Type 0} (sessions : List (List Transform)) (all : List (Op C)) (op : Op C) (rest : List (Op C)) → all ≡ op ∷ rest → All (IsDone sessions) all → IsDone sessions op × All (IsDone sessions) rest
done_first sessions all op rest e h = let k : All (IsDone sessions) (op ∷ rest) = rw e at h in (All-head (IsDone sessions) op rest k, All-tail (IsDone sessions) op rest k)
