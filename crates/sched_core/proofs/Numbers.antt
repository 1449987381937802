-- Operations under numbers.
use Rattle.std.proofs.Common.{◌≡◌, ℕ, zero, suc, ◌+◌, ◌-◌, ◌%◌, ◌^◌, ◌<◌, ◌≤◌, List, [], ◌∷◌, ◌++◌, length, get_or, take, drop, map, refl, ap, ◌∙◌, sym, subst, arith, rules, length-append, add-one, add-zero, zero-add, inl, inr}
use Rattle.std.specs.List.{All}
use Rattle.std.proofs.lemmas.List.{take_more, map-append, append_assoc}
use Rattle.std.proofs.lemmas.List.Elements.{All-cons, All-head, All-tail}
use Rattle.crypto_op.specs.declared.op.Op.{Op}
use Rattle.crypto_op.specs.Burst.{at_pos}
use Rattle.crypto_op.specs.Op.{moved_to}
use Rattle.crypto_op.specs.Op.{Entry, entry_of, IsFresh}
use Rattle.sched_core.specs.declared.ring.Slot.{Slot}
use Rattle.sched_core.specs.declared.ring.Slot.TheVariants.{Open, Settled}
use Rattle.sched_core.specs.Ring.{IsOpenAt}
use Rattle.sched_core.specs.Pending.{opened, number_ops, numbered}

pub length-number_ops : {C : Type 0} (n k : ℕ) (ops : List (Op C)) → length (number_ops n k ops) ≡ length ops
length-number_ops n zero ops = refl
length-number_ops n (suc k) [] = refl
length-number_ops n (suc k) (op ∷ ops) = ap suc (length-number_ops (n + 1) k ops)

pub get_or-number_ops : {C : Type 0} (n i : ℕ) (ops : List (Op C)) (d : Op C) → get_or (number_ops n i ops) i d ≡ get_or ops i d
get_or-number_ops n zero ops d = refl
get_or-number_ops n (suc i) [] d = refl
get_or-number_ops n (suc i) (op ∷ ops) d = get_or-number_ops (n + 1) i ops d

at_next : {C : Type 0} (n i : ℕ) (ops : List (Op C)) → i < length ops → at_pos (number_ops n i ops) i ((n + i) % 2 ^ 64) ≡ number_ops n (suc i) ops
at_next n zero [] h = refl
at_next n zero (op ∷ ops) h = ap (λ a. moved_to (a % 2 ^ 64) op ∷ ops) (add-zero n)
at_next n (suc i) [] h = refl
at_next n (suc i) (op ∷ ops) h =
    let e : n + suc i ≡ (n + 1) + i = omega arith in
    ap (λ l. moved_to (n % 2 ^ 64) op ∷ l) (ap (λ a. at_pos (number_ops (n + 1) i ops) i (a % 2 ^ 64)) e ∙ at_next (n + 1) i ops (omega arith))

-- the next operation gets the next number
pub at_pos-next : {C : Type 0} (n i : ℕ) (ops : List (Op C)) → i < length ops → at_pos (number_ops n i ops) i ((n + i) % 2 ^ 64) ≡ number_ops n (i + 1) ops
at_pos-next n i ops h = rw add-one (at_next n i ops h)

at_last : {C : Type 0} (n i : ℕ) (ops : List (Op C)) (op : Op C) → i < length ops → op ≡ get_or ops i op → at_pos (number_ops n (suc i) ops) i op.spec.pos ≡ number_ops n i ops
at_last n zero [] op h e = refl
at_last n zero (x ∷ ops) op h e = ap (λ y. moved_to y.spec.pos x ∷ ops) e
at_last n (suc i) [] op h e = refl
at_last n (suc i) (x ∷ ops) op h e = ap (λ l. moved_to (n % 2 ^ 64) x ∷ l) (at_last (n + 1) i ops op (omega arith) e)

-- the last operation gets its own pos back
pub at_pos-last : {C : Type 0} (n i : ℕ) (ops : List (Op C)) (op : Op C) → i < length ops → op ≡ get_or ops i op → at_pos (number_ops n (i + 1) ops) i op.spec.pos ≡ number_ops n i ops
at_pos-last n i ops op h e = rw add-one (at_last n i ops op h e)

pub at_pos-drop : {C : Type 0} (m j p : ℕ) (ops : List (Op C)) → at_pos (drop m ops) j p ≡ drop m (at_pos ops (m + j) p)
at_pos-drop zero j p ops = ap (λ a. at_pos ops a p) (sym (zero-add j))
at_pos-drop (suc m) j p [] = refl
at_pos-drop (suc m) j p (op ∷ ops) =
    let e : suc (m + j) ≡ suc m + j = omega arith in
    at_pos-drop m j p ops ∙ ap (λ a. drop (suc m) (at_pos (op ∷ ops) a p)) e

-- what isn't numbered is as it was
pub drop-number_ops : {C : Type 0} (n m : ℕ) (ops : List (Op C)) → drop m (number_ops n m ops) ≡ drop m ops
drop-number_ops n zero ops = refl
drop-number_ops n (suc m) [] = refl
drop-number_ops n (suc m) (op ∷ ops) = drop-number_ops (n + 1) m ops

pub entries-number_ops : {C : Type 0} (n k r : ℕ) (ops : List (Op C)) → r ≤ k → map entry_of (take r (number_ops n k ops)) ≡ numbered n (map entry_of (take r ops))
entries-number_ops n k zero ops h = refl
entries-number_ops n zero (suc r) ops h = absurd (omega arith)
entries-number_ops n (suc k) (suc r) [] h = refl
entries-number_ops n (suc k) (suc r) (op ∷ ops) h = ap (λ l. entry_of (moved_to (n % 2 ^ 64) op) ∷ l) (entries-number_ops (n + 1) k r ops (omega arith))

fresh_moved : {C : Type 0} (p : ℕ) (op : Op C) → IsFresh op → IsFresh (moved_to p op)
fresh_moved p op f = record { status = f.status; request = f.request }

pub fresh-number_ops : {C : Type 0} (n k : ℕ) (ops : List (Op C)) → All IsFresh (take k ops) → All IsFresh (take k (number_ops n k ops))
fresh-number_ops n zero ops f = f
fresh-number_ops n (suc k) [] f = f
fresh-number_ops n (suc k) (op ∷ ops) f =
    All-cons IsFresh (moved_to (n % 2 ^ 64) op) (take k (number_ops (n + 1) k ops)) (fresh_moved (n % 2 ^ 64) op (All-head IsFresh op (take k ops) f))
    (fresh-number_ops (n + 1) k ops (All-tail IsFresh op (take k ops) f))

-- two lists with one more element each
pub same_front : {X : Type 0} (xs ys : List X) (x y : X) → xs ++ x ∷ [] ≡ ys ++ y ∷ [] → (xs ≡ ys) × (x ≡ y)
same_front [] [] x y e = (refl, cc)
same_front [] (b ∷ ys) x y e = absurd (omega (arith, ap length e, length-append ys (y ∷ [])))
same_front (a ∷ xs) [] x y e = absurd (omega (arith, ap length e, length-append xs (x ∷ [])))
same_front (a ∷ xs) (b ∷ ys) x y e =
    let t : xs ++ x ∷ [] ≡ ys ++ y ∷ [] = cc in
    let h : a ≡ b = cc in
    let r = same_front xs ys x y t in
    (ap (λ z. z ∷ xs) h ∙ ap (λ z. b ∷ z) r.0, r.1)

open_last : {C : Type 0} (xs : List (Slot C)) (saved : ℕ) → IsOpenAt (xs ++ Open saved ∷ []) (length xs)
open_last [] saved = tt
open_last (s ∷ xs) saved = open_last xs saved

pub opened-next : {C : Type 0} (base : List (Slot C)) (j : ℕ) (ops : List (Op C)) (op : Op C) → j < length ops → op ≡ get_or ops j op → base ++ map opened (take (j + 1) ops) ≡ (base ++ map opened (take j ops)) ++ opened op ∷ []
opened-next base j ops op h e =
    ap (λ l. base ++ l) (ap (map opened) (take_more ops j op h ∙ ap (λ y. take j ops ++ y ∷ []) (sym e)) ∙ map-append opened (take j ops) (op ∷ []))
    ∙ sym (append_assoc base (map opened (take j ops)) (opened op ∷ []))

pub opened-last : {C : Type 0} (slots base : List (Slot C)) (j : ℕ) (ops : List (Op C)) (op : Op C) → j < length ops → op ≡ get_or ops j op → slots ≡ base ++ map opened (take (j + 1) ops) → IsOpenAt slots (length slots - 1)
opened-last slots base j ops op h o e =
    let front = base ++ map opened (take j ops) in
    let is : slots ≡ front ++ opened op ∷ [] = e ∙ opened-next base j ops op h o in
    let n : length slots - 1 ≡ length front = omega (arith, ap length is, length-append front (opened op ∷ [])) in
    rw (n, is) (open_last front op.spec.pos)
