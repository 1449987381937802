-- What is taken from the front of a ring.
use Rattle.std.proofs.Common.{◌≡◌, ℕ, zero, suc, ◌+◌, ◌%◌, ◌^◌, ◌==◌, ◌<◌, ◌≤◌, Bool, true, false, cond, List, [], ◌∷◌, ◌++◌, length, get_or, take, map, refl, ap, ◌∙◌, sym, subst, arith, length-append, inl, inr, Some, None, Option, add-zero}
use Rattle.std.specs.List.{flat_map, count_by, All, filter}
use Rattle.std.proofs.lemmas.List.{length-map}
use Rattle.std.proofs.lemmas.List.Elements.{All-cons, All-head, All-tail, All-nil}
use Rattle.crypto_model.specs.Process.{Transform}
use Rattle.crypto_op.specs.declared.op.Op.{Op}
use Rattle.crypto_op.specs.declared.burst.TheConstants.{MAX_OPS}
use Rattle.crypto_op.specs.Op.{Entry, IsDone, entry_of}
use Rattle.sched_core.specs.declared.ring.Slot.{Slot}
use Rattle.sched_core.specs.declared.ring.Slot.TheVariants.{Open, Settled}
use Rattle.sched_core.specs.declared.ring.Front.TheVariants as Front
use Rattle.sched_core.specs.Ring.{Ring, front_of}
use Rattle.sched_core.specs.Pending.{pending_from, pending_of, open_numbers, held_as, with_pos, times, IsRingSound, SlotDone, RingDone}
use Rattle.sched_core.proofs.Lookup.{IsIn, count-cons, is_one}
use Rattle.sched_core.proofs.PendingMore.{exactly}
use Rattle.sched_modes.specs.Workers.{Taken, NotReady, FrontOpen, IsNewRing, RingFits, ring_cap}

next_mod : (a b : ℕ) → a % 2 ^ 64 ≡ b % 2 ^ 64 → (a + 1) % 2 ^ 64 ≡ (b + 1) % 2 ^ 64
next_mod a b h = omega (arith, h)

-- numbers count by their rest alone
pub pending-mod : {C : Type 0} (a b : ℕ) (slots : List (Slot C)) (es : List (Entry C)) → a % 2 ^ 64 ≡ b % 2 ^ 64 → pending_from a slots es ≡ pending_from b slots es
pending-mod a b [] es h = refl
pending-mod a b (Open saved ∷ slots) es h = ap (λ n. held_as n saved es ++ pending_from (a + 1) slots es) h ∙ ap (λ l. held_as (b % 2 ^ 64) saved es ++ l) (pending-mod (a + 1) (b + 1) slots es (next_mod a b h))
pending-mod a b (Settled op ∷ slots) es h = ap (λ l. entry_of op ∷ l) (pending-mod (a + 1) (b + 1) slots es (next_mod a b h))

pub open-mod : {C : Type 0} (a b : ℕ) (slots : List (Slot C)) → a % 2 ^ 64 ≡ b % 2 ^ 64 → open_numbers a slots ≡ open_numbers b slots
open-mod a b [] h = refl
open-mod a b (Open saved ∷ slots) h = ap (λ n. n ∷ open_numbers (a + 1) slots) h ∙ ap (λ l. b % 2 ^ 64 ∷ l) (open-mod (a + 1) (b + 1) slots (next_mod a b h))
open-mod a b (Settled op ∷ slots) h = open-mod (a + 1) (b + 1) slots (next_mod a b h)

pending-front : {C : Type 0} (a : ℕ) (ops : List (Op C)) (slots : List (Slot C)) (es : List (Entry C)) → pending_from a (map Settled ops ++ slots) es ≡ map entry_of ops ++ pending_from (a + length ops) slots es
pending-front a [] slots es = ap (λ b. pending_from b slots es) (sym (add-zero a))
pending-front a (op ∷ ops) slots es =
    let s : (a + 1) + length ops ≡ a + suc (length ops) = omega arith in
    ap (λ l. entry_of op ∷ l) (pending-front (a + 1) ops slots es ∙ ap (λ b. map entry_of ops ++ pending_from b slots es) s)

open-front : {C : Type 0} (a : ℕ) (ops : List (Op C)) (slots : List (Slot C)) → open_numbers a (map Settled ops ++ slots) ≡ open_numbers (a + length ops) slots
open-front a [] slots = ap (λ b. open_numbers b slots) (sym (add-zero a))
open-front a (op ∷ ops) slots =
    let s : (a + 1) + length ops ≡ a + suc (length ops) = omega arith in
    open-front (a + 1) ops slots ∙ ap (λ b. open_numbers b slots) s

done-front : {C : Type 0} (t : List (List Transform)) (ops : List (Op C)) (slots : List (Slot C)) → All (SlotDone t) (map Settled ops ++ slots) → All (IsDone t) ops × All (SlotDone t) slots
done-front t [] slots h = (All-nil (IsDone t), h)
done-front t (op ∷ ops) slots h =
    let r = done-front t ops slots (All-tail (SlotDone t) (Settled op) (map Settled ops ++ slots) h) in
    (All-cons (IsDone t) op ops (All-head (SlotDone t) (Settled op) (map Settled ops ++ slots) h) r.0, r.1)

mod_mod : (a b : ℕ) → b ≡ a % 2 ^ 64 → a % 2 ^ 64 ≡ b % 2 ^ 64
mod_mod a b e = omega (arith, e)

-- what is taken is the front of what is pending
pub taken_pending : {C : Type 0} (r s : Ring (Slot C)) (ops : List (Op C)) (es : List (Entry C)) → Taken r s ops → pending_from r.first r.slots es ≡ map entry_of ops ++ pending_from s.first s.slots es
taken_pending r s ops es t =
    ap (λ l. pending_from r.first l es) t.0 ∙ (pending-front r.first ops s.slots es ∙ ap (λ l. map entry_of ops ++ l) (pending-mod (r.first + length ops) s.first s.slots es (mod_mod (r.first + length ops) s.first t.2)))

pub taken_sound : {C : Type 0} (r s : Ring (Slot C)) (ops : List (Op C)) (es : List (Entry C)) → Taken r s ops → IsRingSound (Some r) es → IsRingSound (Some s) es
taken_sound r s ops es t k =
    let o : open_numbers r.first r.slots ≡ open_numbers s.first s.slots = ap (open_numbers r.first) t.0 ∙ (open-front r.first ops s.slots ∙ open-mod (r.first + length ops) s.first s.slots (mod_mod (r.first + length ops) s.first t.2)) in
    (λ n. k.0 n ∙ ap (times n) o, omega (arith, ap length t.0, length-append (map Settled ops) s.slots, k.1, t.1), omega (arith, k.2, t.1), omega (arith, t.2))

pub taken_done : {C : Type 0} (sessions : List (List Transform)) (r s : Ring (Slot C)) (ops : List (Op C)) → Taken r s ops → All (SlotDone sessions) r.slots → All (IsDone sessions) ops × All (SlotDone sessions) s.slots
taken_done sessions r s ops t h = done-front sessions ops s.slots (subst (All (SlotDone sessions)) t.0 h)

-- where nothing is held and the front isn't settled, nothing is pending
nothing : {C : Type 0} (first cap : ℕ) (slots : List (Slot C)) (es : List (Entry C)) → length es ≡ 0 → IsRingSound (Some (record { cap = cap; first = first; slots = slots })) es → NotReady (Some (record { cap = cap; first = first; slots = slots })) → pending_from first slots es ≡ []
nothing first cap [] es l s n = refl
nothing first cap (Settled op ∷ slots) es l s n = absurd (n refl)
nothing first cap (Open saved ∷ slots) [] l s n =
    let h = s.0 (first % 2 ^ 64) in let c = count-cons (λ x. x == first % 2 ^ 64) (first % 2 ^ 64) (open_numbers (first + 1) slots) in let o = is_one (first % 2 ^ 64) (first % 2 ^ 64) refl in
    absurd (omega (arith, h, c, o))
nothing first cap (Open saved ∷ slots) (e ∷ es) l s n = absurd (omega (arith, l))

none_left : {E : Type 0} (es : List E) → length es ≡ 0 → es ≡ []
none_left [] h = refl
none_left (e ∷ es) h = absurd (omega (arith, h))

pub nothing_pending : {C : Type 0} (ring : Option (Ring (Slot C))) (es : List (Entry C)) → length es ≡ 0 → IsRingSound ring es → NotReady ring → pending_of ring es ≡ []
nothing_pending None es l s n = none_left es l
nothing_pending (Some r) es l s n = nothing r.first r.cap r.slots es l s n

counted_step : {E : Type 0} (b : Bool) (x : E) (f : List E) (n : ℕ) → 1 ≤ cond b 1 0 + n → (1 ≤ n → 0 < length f) → 0 < length (cond b (x ∷ f) f)
counted_step true x f n h r = omega arith
counted_step false x f n h r = r (omega (arith, h))

counted_some : {C : Type 0} (m : ℕ) (es : List (Entry C)) → 1 ≤ count_by (λ (e : Entry C). e.pos == m) es → 0 < length (filter (λ (e : Entry C). e.pos == m) es)
counted_some m [] h = absurd (omega (arith, h))
counted_some m (e ∷ es) h = counted_step (e.pos == m) e (filter (λ x. x.pos == m) es) (count_by (λ x. x.pos == m) es) (subst (λ k. 1 ≤ k) (count-cons (λ x. x.pos == m) e es) h) (counted_some m es)

-- where something is held and the front isn't settled, it is open, and something is pending
open_here : {C : Type 0} (first cap : ℕ) (slots : List (Slot C)) (e : Entry C) (es : List (Entry C)) → IsRingSound (Some (record { cap = cap; first = first; slots = slots })) (e ∷ es) → NotReady (Some (record { cap = cap; first = first; slots = slots })) → (front_of (record { cap = cap; first = first; slots = slots }) ≡ Front.Open first) × (0 < length (pending_from first slots (e ∷ es)))
open_here first cap [] e es s n =
    let h = s.0 e.pos in let c = count-cons (λ x. x.pos == e.pos) e es in let o = is_one e.pos e.pos refl in absurd (omega (arith, h, c, o))
open_here first cap (Settled op ∷ slots) e es s n = absurd (n refl)
open_here first cap (Open saved ∷ slots) e es s n =
    let m = first % 2 ^ 64 in
    let h = s.0 m in let c = count-cons (λ x. x == m) m (open_numbers (first + 1) slots) in let o = is_one m m refl in
    let some = counted_some m (e ∷ es) (omega (arith, h, c, o)) in
    (refl, omega (arith, length-append (held_as m saved (e ∷ es)) (pending_from (first + 1) slots (e ∷ es)), length-map (filter (λ x. x.pos == m) (e ∷ es)) (with_pos saved), some))

pub open_front : {C : Type 0} (ring : Option (Ring (Slot C))) (es : List (Entry C)) → 0 < length es → IsRingSound ring es → NotReady ring → FrontOpen ring × (0 < length (pending_of ring es))
open_front None es l s n = (tt, l)
open_front (Some r) [] l s n = absurd (omega (arith, l))
open_front (Some r) (e ∷ es) l s n = open_here r.first r.cap r.slots e es s n

length_filter_step : {E : Type 0} (b : Bool) (x : E) (f : List E) (n : ℕ) → length f ≡ n → length (cond b (x ∷ f) f) ≡ cond b 1 0 + n
length_filter_step true x f n h = omega (arith, h)
length_filter_step false x f n h = omega (arith, h)

length_filter : {C : Type 0} (m : ℕ) (es : List (Entry C)) → length (filter (λ (e : Entry C). e.pos == m) es) ≡ count_by (λ (e : Entry C). e.pos == m) es
length_filter m [] = refl
length_filter m (e ∷ es) = length_filter_step (e.pos == m) e (filter (λ x. x.pos == m) es) (count_by (λ x. x.pos == m) es) (length_filter m es) ∙ sym (count-cons (λ x. x.pos == m) e es)

length_each : {C : Type 0} (a : ℕ) (slots : List (Slot C)) (es : List (Entry C)) → ((n : ℕ) → IsIn n (open_numbers a slots) → count_by (λ (e : Entry C). e.pos == n) es ≡ 1) → length (pending_from a slots es) ≡ length slots
length_each a [] es h = refl
length_each a (Open saved ∷ slots) es h =
    let m = a % 2 ^ 64 in
    let r = length_each (a + 1) slots es (λ n i. h n (inr i)) in
    omega (arith, r, length-append (held_as m saved es) (pending_from (a + 1) slots es), length-map (filter (λ x. x.pos == m) es) (with_pos saved), length_filter m es, h m (inl refl))
length_each a (Settled op ∷ slots) es h = ap suc (length_each (a + 1) slots es h)

-- each slot is one that is pending
pub length_pending : {C : Type 0} (r : Ring (Slot C)) (es : List (Entry C)) → IsRingSound (Some r) es → length (pending_from r.first r.slots es) ≡ length r.slots
length_pending r es s = length_each r.first r.slots es (λ n i. s.0 n ∙ exactly n r.first r.slots (omega (arith, s.1, s.2)) i)

-- devices that hold nothing
pub hold_none : {D E : Type 0} (held : D → List E) (w : ℕ) (devs : List D) → ((k : ℕ) (d : D) → k < w → held (get_or devs k d) ≡ []) → flat_map held (take w devs) ≡ []
hold_none held zero devs h = refl
hold_none held (suc w) [] h = refl
hold_none held (suc w) (d ∷ devs) h =
    let a : held d ≡ [] = h 0 d (omega arith) in let r = hold_none held w devs (λ k x l. h (suc k) x (omega (arith, l))) in
    rw (a, r) refl

pub new_sound : {C : Type 0} (n : ℕ) (ring : Option (Ring (Slot C))) (es : List (Entry C)) → es ≡ [] → n ≤ MAX_OPS → IsNewRing n ring → IsRingSound ring es
new_sound n None es e l h = tt
new_sound n (Some r) es e l h = rw (e, h) ((λ k. refl), omega arith, l, omega arith)

pub new_done : {C : Type 0} (t : List (List Transform)) (n : ℕ) (ring : Option (Ring (Slot C))) → IsNewRing n ring → RingDone t ring
new_done t n None h = tt
new_done t n (Some r) h = rw h (All-nil (SlotDone t))

pub new_fits : {C : Type 0} (n : ℕ) (ring : Option (Ring (Slot C))) → IsNewRing n ring → RingFits ring n
new_fits n None h = tt
new_fits n (Some r) h = rw h (omega arith)

pub new_pending : {C : Type 0} (n : ℕ) (ring : Option (Ring (Slot C))) (es : List (Entry C)) → es ≡ [] → IsNewRing n ring → pending_of ring es ≡ []
new_pending n None es e h = e
new_pending n (Some r) es e h = rw h refl

cap_none : (n : ℕ) → Some n ≡ None → ⊥
cap_none n e = cc

cap_same : (a b : ℕ) → Some b ≡ Some a → b ≡ a
cap_same a b e = cc

pub fits_kept : {C : Type 0} (a b : Option (Ring (Slot C))) (n : ℕ) → ring_cap b ≡ ring_cap a → RingFits a n → RingFits b n
fits_kept a None n e h = tt
fits_kept None (Some b) n e h = absurd (cap_none b.cap e)
fits_kept (Some a) (Some b) n e h = let s = cap_same a.cap b.cap e in omega (arith, s, h)
