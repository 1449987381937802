-- Slots of a ring.
use Rattle.std.proofs.Common.{◌≡◌, ℕ, zero, suc, ◌+◌, ◌-◌, ◌<◌, ◌≤◌, List, [], ◌∷◌, ◌++◌, length, get_or, refl, ap, ◌∙◌, sym, subst, arith, rules, length-append}
use Rattle.std.proofs.Math.ListN.{set}
use Rattle.crypto_op.specs.declared.op.Op.{Op}
use Rattle.crypto_op.specs.Op.{moved_to}
use Rattle.sched_core.specs.declared.ring.Slot.{Slot}
use Rattle.sched_core.specs.declared.ring.Slot.TheVariants.{Open, Settled}
use Rattle.sched_core.specs.Ring.{IsOpen, IsOpenAt, settled, settled_at}

pub open_below : {C : Type 0} (ss : List (Slot C)) (i : ℕ) → IsOpenAt ss i → i < length ss
open_below [] i h = absurd h
open_below (s ∷ ss) zero h = omega arith
open_below (s ∷ ss) (suc i) h = let r = open_below ss i h in omega arith

pub is_open : {C : Type 0} (ss : List (Slot C)) (i : ℕ) (s : Slot C) → IsOpenAt ss i → s ≡ get_or ss i s → IsOpen s
is_open [] i s h e = absurd h
is_open (t ∷ ss) zero s h e = subst IsOpen (sym e) h
is_open (t ∷ ss) (suc i) s h e = is_open ss i s h e

pub not_settled : {C : Type 0} (ss : List (Slot C)) (i : ℕ) (s : Slot C) (op : Op C) → IsOpenAt ss i → s ≡ get_or ss i s → s ≡ Settled op → ⊥
not_settled ss i s op h e f = let o = is_open ss i s h e in subst IsOpen f o

pub set_settled : {C : Type 0} (ss : List (Slot C)) (i saved : ℕ) (s : Slot C) (op : Op C) → i < length ss → s ≡ get_or ss i s → s ≡ Open saved → set ss i (Settled (moved_to saved op)) ≡ settled_at ss i op
set_settled [] i saved s op h e f = absurd (omega arith)
set_settled (t ∷ ss) zero saved s op h e f = ap (λ u. settled u op ∷ ss) (sym f ∙ e)
set_settled (t ∷ ss) (suc i) saved s op h e f = ap (λ l. t ∷ l) (set_settled ss i saved s op (omega arith) e f)

pub last_open : {C : Type 0} (ss : List (Slot C)) (s : Slot C) → IsOpenAt (ss ++ s ∷ []) (length ss) → IsOpen s
last_open [] s h = h
last_open (t ∷ ss) s h = last_open ss s h

pub last_settled : {C : Type 0} (ss xs : List (Slot C)) (s : Slot C) (op : Op C) → ss ≡ xs ++ s ∷ [] → s ≡ Settled op → IsOpenAt ss (length ss - 1) → ⊥
last_settled ss xs s op e f h =
    let n : length ss - 1 ≡ length xs = omega (arith, ap length e, length-append xs (s ∷ [])) in
    let k = rw (n, e) at h in
    let o = last_open xs s k in
    subst IsOpen f o
