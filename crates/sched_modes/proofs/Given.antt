-- What a burst got from workers.
use Rattle.std.proofs.Common.{◌≡◌, ℕ, ◌+◌, ◌-◌, ◌^◌, ◌<◌, ◌≤◌, min, List, [], ◌∷◌, ◌++◌, length, drop, ap, ◌∙◌, sym, arith, length-append, refl}
use Rattle.std.specs.List.Sorted.{IsPermutation}
use Rattle.std.proofs.lemmas.List.{append_assoc}
use Rattle.std.proofs.lemmas.List.Sorted.{length_permutation}
use Rattle.crypto_model.specs.Counts.{Rose}
use Rattle.crypto_op.specs.Burst.{Burst}
use Rattle.dev_core.specs.Burst.{with_ops}
use Rattle.sched_modes.proofs.Held.{behind_more}

pub kept_more : {X : Type 0} (o0 o o' : Burst X) (n : ℕ) → o ≡ with_ops (drop (length o0.ops) o.ops) o0 → o' ≡ with_ops (drop (length o.ops) o'.ops) o → length o.ops ≡ length o0.ops + n → o' ≡ with_ops (drop (length o0.ops) o'.ops) o0
kept_more o0 o o' n e f c =
    let xs = drop (length o.ops) o'.ops in
    let l = length o0.ops in
    let cap : o'.cap ≡ o0.cap = ap (λ (b : Burst _). b.cap) f ∙ ap (λ (b : Burst _). b.cap) e in
    let all : o'.ops ≡ o.ops ++ xs = ap (λ (b : Burst _). b.ops) f in
    let drops : drop l o'.ops ≡ drop l o.ops ++ xs = ap (drop l) all ∙ behind_more o0.ops o.ops xs n c in
    let ops : o'.ops ≡ o0.ops ++ drop l o'.ops =
    all ∙ (ap (λ z. z ++ xs) (ap (λ (b : Burst _). b.ops) e) ∙ (append_assoc o0.ops (drop l o.ops) xs ∙ ap (λ z. o0.ops ++ z) (sym drops))) in
    ap (λ a. record { cap = a; ops = o'.ops }) cap ∙ ap (λ z. record { cap = o0.cap; ops = z }) ops

pub rose_later : (a b c : ℕ) → a ≤ b → Rose b c → Rose a c
rose_later a b c h r = let q : min (b + 1) (2 ^ 64 - 1) ≤ c = r in omega (arith, h, q)

-- a worker that could give all gave all, or stalled
pub gave_all : {E : Type 0} (xs ys zs : List E) (n room : ℕ) (R : Type 0) → IsPermutation (xs ++ ys) zs → length xs ≡ n → length zs ≤ room → (n < min (min room room) (length zs) → R) → 0 < length ys → R
gave_all xs ys zs n room R p l h r some = r (omega (arith, length_permutation (xs ++ ys) zs p, length-append xs ys, l, h, some))

-- a worker that could give more gave all, or stalled
pub gave_less : {E : Type 0} (xs ys zs : List E) (n most room : ℕ) (R : Type 0) → IsPermutation (xs ++ ys) zs → length xs ≡ n → most ≤ room → n < most → (n < min (min most room) (length zs) → R) → 0 < length ys → R
gave_less xs ys zs n most room R p l h k r some = r (omega (arith, length_permutation (xs ++ ys) zs p, length-append xs ys, l, h, k, some))

pub kept_push : {X : Type 0} (o0 o o' : Burst X) (x : X) (n : ℕ) → o ≡ with_ops (drop (length o0.ops) o.ops) o0 → o' ≡ record { cap = o.cap; ops = o.ops ++ x ∷ [] } → length o.ops ≡ length o0.ops + n → (drop (length o0.ops) o'.ops ≡ drop (length o0.ops) o.ops ++ x ∷ []) × (o' ≡ with_ops (drop (length o0.ops) o'.ops) o0) × (length o'.ops ≡ length o0.ops + (n + 1))
kept_push o0 o o' x n e f c =
    let l = length o0.ops in
    let cap : o'.cap ≡ o0.cap = ap (λ (b : Burst _). b.cap) f ∙ ap (λ (b : Burst _). b.cap) e in
    let all : o'.ops ≡ o.ops ++ x ∷ [] = ap (λ (b : Burst _). b.ops) f in
    let drops : drop l o'.ops ≡ drop l o.ops ++ x ∷ [] = ap (drop l) all ∙ behind_more o0.ops o.ops (x ∷ []) n c in
    let ops : o'.ops ≡ o0.ops ++ drop l o'.ops =
    all ∙ (ap (λ z. z ++ x ∷ []) (ap (λ (b : Burst _). b.ops) e) ∙ (append_assoc o0.ops (drop l o.ops) (x ∷ []) ∙ ap (λ z. o0.ops ++ z) (sym drops))) in
    (drops, ap (λ a. record { cap = a; ops = o'.ops }) cap ∙ ap (λ z. record { cap = o0.cap; ops = z }) ops, omega (arith, ap length all, length-append o.ops (x ∷ []), c))

pub all_behind : {X : Type 0} (o o' : Burst X) → o.ops ≡ [] → drop (length o.ops) o'.ops ≡ o'.ops
all_behind o o' e = rw e refl

pub emptied : {X : Type 0} (s o o' o2 : Burst X) (xs : List X) → s.ops ≡ [] → o ≡ s → o' ≡ with_ops xs o → o2 ≡ record { cap = o'.cap; ops = [] } → o2 ≡ s
emptied s o o' o2 xs n e f h =
    let cap : o2.cap ≡ s.cap = ap (λ (b : Burst _). b.cap) h ∙ (ap (λ (b : Burst _). b.cap) f ∙ ap (λ (b : Burst _). b.cap) e) in
    let ops : o2.ops ≡ s.ops = ap (λ (b : Burst _). b.ops) h ∙ sym n in
    ap (λ a. record { cap = a; ops = o2.ops }) cap ∙ ap (λ z. record { cap = s.cap; ops = z }) ops
