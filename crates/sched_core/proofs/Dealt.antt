-- A burst that is numbered in a ring, one operation after another.
use Rattle.std.proofs.Common.{◌≡◌, ℕ, zero, suc, ◌+◌, ◌-◌, ◌%◌, ◌^◌, ◌<◌, ◌≤◌, List, [], ◌∷◌, ◌++◌, length, get_or, take, drop, map, refl, ap, ◌∙◌, sym, arith, rules, length-append}
use Rattle.std.proofs.lemmas.List.{length-map, length-take-le, get_or-drop, length-drop, take-take}
use Rattle.crypto_op.specs.declared.op.Op.{Op}
use Rattle.crypto_op.specs.Burst.{Burst, at_pos}
use Rattle.crypto_op.specs.Op.{moved_to}
use Rattle.sched_core.specs.declared.ring.Slot.{Slot}
use Rattle.sched_core.specs.declared.ring.Slot.TheVariants.{Open, Settled}
use Rattle.sched_core.specs.Ring.{Ring, IsOpenAt}
use Rattle.sched_core.specs.Pending.{opened, number_ops, numbered}
use Rattle.sched_core.proofs.Numbers.{length-number_ops, get_or-number_ops, at_pos-next, at_pos-last, at_pos-drop, opened-next, opened-last, same_front, drop-number_ops, entries-number_ops, fresh-number_ops}
use Rattle.std.specs.List.{All}
use Rattle.std.proofs.lemmas.List.Elements.{All-same, All-take}
use Rattle.crypto_op.specs.Op.{IsFresh, entry_of}
use Rattle.dev_core.specs.Burst.{front, rest_of}

-- the ring and the burst, where the first i operations of b0 have numbers
abbrev pub next_number : {C : Type 0} → Ring (Slot C) → ℕ
next_number r = r.first + length r.slots

abbrev pub dealt_burst : {C : Type 0} → Ring (Slot C) → Burst (Op C) → ℕ → Burst (Op C)
dealt_burst r b i = record { cap = b.cap; ops = number_ops (next_number r) i b.ops }

abbrev pub dealt_ring : {C : Type 0} → Ring (Slot C) → Burst (Op C) → ℕ → Ring (Slot C)
dealt_ring r b i = record { cap = r.cap; first = r.first; slots = r.slots ++ map opened (take i b.ops) }

pub length_dealt_ring : {C : Type 0} (r0 r : Ring (Slot C)) (b0 : Burst (Op C)) (i : ℕ) → i ≤ length b0.ops → r ≡ dealt_ring r0 b0 i → length r.slots ≡ length r0.slots + i
length_dealt_ring r0 r b0 i h e = rw e (length-append r0.slots (map opened (take i b0.ops)) ∙ ap (λ a. length r0.slots + a) (length-map (take i b0.ops) opened ∙ length-take-le i b0.ops h))

pub length_dealt_burst : {C : Type 0} (r0 : Ring (Slot C)) (b0 b : Burst (Op C)) (i : ℕ) → b ≡ dealt_burst r0 b0 i → length b.ops ≡ length b0.ops
length_dealt_burst r0 b0 b i e = rw e (length-number_ops (next_number r0) i b0.ops)

pub number_is : {C : Type 0} (r0 r : Ring (Slot C)) (b0 : Burst (Op C)) (i : ℕ) → i ≤ length b0.ops → r ≡ dealt_ring r0 b0 i → r.first + length r.slots ≡ next_number r0 + i
number_is r0 r b0 i h e =
    let f : r.first ≡ r0.first = ap (λ (s : Ring _). s.first) e in
    let l = length_dealt_ring r0 r b0 i h e in
    omega (arith, f, l)

pub got_is : {C : Type 0} (r0 : Ring (Slot C)) (b0 b : Burst (Op C)) (i : ℕ) (op : Op C) → b ≡ dealt_burst r0 b0 i → op ≡ get_or b.ops i op → op ≡ get_or b0.ops i op
got_is r0 b0 b i op e g = g ∙ (ap (λ (x : Burst _). get_or x.ops i op) e ∙ get_or-number_ops (next_number r0) i b0.ops op)

pub dealt_burst-next : {C : Type 0} (r0 : Ring (Slot C)) (b0 b : Burst (Op C)) (i n : ℕ) → i < length b0.ops → b ≡ dealt_burst r0 b0 i → n ≡ (next_number r0 + i) % 2 ^ 64 → record { cap = b.cap; ops = at_pos b.ops i n } ≡ dealt_burst r0 b0 (i + 1)
dealt_burst-next r0 b0 b i n h e f = rw (e, f) (ap (λ l. record { cap = b0.cap; ops = l }) (at_pos-next (next_number r0) i b0.ops h))

pub dealt_ring-next : {C : Type 0} (r0 r : Ring (Slot C)) (b0 : Burst (Op C)) (i : ℕ) (op : Op C) → i < length b0.ops → r ≡ dealt_ring r0 b0 i → op ≡ get_or b0.ops i op → record { cap = r.cap; first = r.first; slots = r.slots ++ opened op ∷ [] } ≡ dealt_ring r0 b0 (i + 1)
dealt_ring-next r0 r b0 i op h e g = rw e (ap (λ l. record { cap = r0.cap; first = r0.first; slots = l }) (sym (opened-next r0.slots i b0.ops op h g)))

pub some_at : {X : Type 0} (xs : List X) (j : ℕ) → j < length xs → (x : X) × (x ≡ get_or xs j x)
some_at [] j h = absurd (omega arith)
some_at (x ∷ xs) zero h = (x, refl)
some_at (x ∷ xs) (suc j) h = some_at xs j (omega arith)

-- the ring r with slots for the first j operations
abbrev pub back_ring : {C : Type 0} → Ring (Slot C) → List (Slot C) → List (Op C) → ℕ → Ring (Slot C)
back_ring r base ops j = record { cap = r.cap; first = r.first; slots = base ++ map opened (take j ops) }

abbrev pub back_burst : {C : Type 0} → Burst (Op C) → ℕ → ℕ → List (Op C) → ℕ → Burst (Op C)
back_burst b n m ops j = record { cap = b.cap; ops = drop m (number_ops n j ops) }

pub back_open : {C : Type 0} (ri r : Ring (Slot C)) (base : List (Slot C)) (ops : List (Op C)) (j : ℕ) → j < length ops → r ≡ back_ring ri base ops (j + 1) → IsOpenAt r.slots (length r.slots - 1)
back_open ri r base ops j h e = let s = some_at ops j h in opened-last r.slots base j ops s.0 h s.1 (ap (λ (x : Ring _). x.slots) e)

pub back_slots : {C : Type 0} (ri r s : Ring (Slot C)) (base : List (Slot C)) (ops : List (Op C)) (j saved : ℕ) (op : Op C) → j < length ops → op ≡ get_or ops j op → r ≡ back_ring ri base ops (j + 1) → r ≡ record { cap = s.cap; first = s.first; slots = s.slots ++ Open saved ∷ [] } → (s.slots ≡ base ++ map opened (take j ops)) × (Open saved ≡ opened op)
back_slots ri r s base ops j saved op h o e f =
    let both : s.slots ++ Open saved ∷ [] ≡ (base ++ map opened (take j ops)) ++ opened op ∷ [] = ap (λ (x : Ring _). x.slots) (sym f ∙ e) ∙ opened-next base j ops op h o in
    same_front s.slots (base ++ map opened (take j ops)) (Open saved) (opened op) both

pub back_ring-next : {C : Type 0} (ri r s : Ring (Slot C)) (base : List (Slot C)) (ops : List (Op C)) (j saved : ℕ) → j < length ops → r ≡ back_ring ri base ops (j + 1) → r ≡ record { cap = s.cap; first = s.first; slots = s.slots ++ Open saved ∷ [] } → s ≡ back_ring ri base ops j
back_ring-next ri r s base ops j saved h e f =
    let o = some_at ops j h in
    let slots = (back_slots ri r s base ops j saved o.0 h o.1 e f).0 in
    let cap : s.cap ≡ ri.cap = ap (λ (x : Ring _). x.cap) (sym f ∙ e) in
    let first : s.first ≡ ri.first = ap (λ (x : Ring _). x.first) (sym f ∙ e) in
    ap (λ a. record { cap = a; first = s.first; slots = s.slots }) cap ∙ (ap (λ a. record { cap = ri.cap; first = a; slots = s.slots }) first ∙ ap (λ a. record { cap = ri.cap; first = ri.first; slots = a }) slots)

pub back_burst-next : {C : Type 0} (ri r s : Ring (Slot C)) (base : List (Slot C)) (bi b : Burst (Op C)) (n m t saved : ℕ) (ops : List (Op C)) → m + t < length ops → r ≡ back_ring ri base ops (m + t + 1) → r ≡ record { cap = s.cap; first = s.first; slots = s.slots ++ Open saved ∷ [] } → b ≡ back_burst bi n m ops (m + t + 1) → record { cap = b.cap; ops = at_pos b.ops t saved } ≡ back_burst bi n m ops (m + t)
back_burst-next ri r s base bi b n m t saved ops h e f g =
    let o = some_at ops (m + t) h in
    let is : Open saved ≡ opened o.0 = (back_slots ri r s base ops (m + t) saved o.0 h o.1 e f).1 in
    let pos : saved ≡ o.0.spec.pos = cc in
    rw (g, pos) (ap (λ l. record { cap = bi.cap; ops = l }) (at_pos-drop m t o.0.spec.pos (number_ops n (m + t + 1) ops) ∙ ap (drop m) (at_pos-last n (m + t) ops o.0 h o.1)))

pub length_back_burst : {C : Type 0} (bi b : Burst (Op C)) (n m j : ℕ) (ops : List (Op C)) → b ≡ back_burst bi n m ops j → length b.ops ≡ length ops - m
length_back_burst bi b n m j ops e = rw e (length-drop m (number_ops n j ops) ∙ ap (λ a. a - m) (length-number_ops n j ops))

pub rest_is : {C : Type 0} (r0 before : Ring (Slot C)) (b0 b1 b2 b3 was : Burst (Op C)) (n k : ℕ) → was ≡ b0 → before ≡ r0 → b1 ≡ dealt_burst r0 b0 k → b2 ≡ rest_of n b1 → b3 ≡ record { cap = b2.cap; ops = drop n (number_ops (next_number before) n was.ops) } → b3 ≡ rest_of n b0
rest_is r0 before b0 b1 b2 b3 was n k ew eb e1 e2 e3 = rw (e3, e2, e1, ew, eb) (ap (λ l. record { cap = b0.cap; ops = l }) (drop-number_ops (next_number r0) n b0.ops))

pub front_is : {C : Type 0} (r0 : Ring (Slot C)) (b0 b1 : Burst (Op C)) (n k : ℕ) → n ≤ k → b1 ≡ dealt_burst r0 b0 k → front n b1 ≡ numbered (next_number r0) (front n b0)
front_is r0 b0 b1 n k h e = rw e (entries-number_ops (next_number r0) k n b0.ops h)

pub fresh_is : {C : Type 0} (r0 : Ring (Slot C)) (b0 b1 : Burst (Op C)) (k most : ℕ) → k ≤ most → All IsFresh (take most b0.ops) → b1 ≡ dealt_burst r0 b0 k → All IsFresh (take k b1.ops)
fresh_is r0 b0 b1 k most h f e =
    let fewer = All-same IsFresh (take k b0.ops) (take k (take most b0.ops)) (sym (take-take k most b0.ops h)) (All-take IsFresh k (take most b0.ops) f) in
    All-same IsFresh (take k b1.ops) (take k (number_ops (next_number r0) k b0.ops)) (ap (λ (b : Burst _). take k b.ops) e) (fresh-number_ops (next_number r0) k b0.ops fewer)
