-- The four steps together.
use Rattle.std.proofs.Common.{◌≡◌, ℕ, ◌+◌, ◌-◌, ◌^◌, ◌≤◌, min, List, ◌++◌, length, take, drop, map, ap, ◌∙◌, sym, arith}
use Rattle.std.specs.List.Sorted.{IsPermutation}
use Rattle.std.proofs.lemmas.List.{append_assoc, map-append, take-append-drop}
use Rattle.std.proofs.lemmas.List.Sorted.{IsPermutation-trans, IsPermutation-append_left, IsPermutation-append_right}
use Rattle.crypto_op.specs.Burst.{Burst}
use Rattle.dev_core.specs.Burst.{with_ops, rest_of, room_of}
use Rattle.crypto_model.specs.Counts.{Rose}
use Rattle.event_adapter.proofs.Bags.{swap_front}

pub sent_room : {X : Type 0} (o0 o1 : Burst X) (n : ℕ) → o1 ≡ rest_of n o0 → o0.cap ≡ 64 → room_of o1 ≡ 64 - length (drop n o0.ops)
sent_room o0 o1 n e k = ap room_of e ∙ ap (λ c. c - length (drop n o0.ops)) k

pub done_ops : {X : Type 0} (o0 o1 o2 : Burst X) (n : ℕ) → o1 ≡ rest_of n o0 → o2 ≡ with_ops (drop (length o1.ops) o2.ops) o1 → o2.ops ≡ drop n o0.ops ++ drop (length o1.ops) o2.ops
done_ops o0 o1 o2 n e f = ap (λ (b : Burst _). b.ops) f ∙ ap (λ (b : Burst _). b.ops ++ drop (length o1.ops) o2.ops) e

pub done_room : {X : Type 0} (o0 o1 o2 : Burst X) (n : ℕ) → o1 ≡ rest_of n o0 → o2 ≡ with_ops (drop (length o1.ops) o2.ops) o1 → o0.cap ≡ 64 → room_of o2 ≡ 64 - length (drop n o0.ops ++ drop (length o1.ops) o2.ops)
done_room o0 o1 o2 n e f k =
    let cap : o2.cap ≡ 64 = ap (λ (b : Burst _). b.cap) f ∙ (ap (λ (b : Burst _). b.cap) e ∙ k) in
    ap (λ c. c - length o2.ops) cap ∙ ap (λ l. 64 - length l) (done_ops o0 o1 o2 n e f)

pub out_ops : {X : Type 0} (o0 o1 o2 o3 : Burst X) (n : ℕ) (xs ys : List X) → o1 ≡ rest_of n o0 → o2 ≡ with_ops (drop (length o1.ops) o2.ops) o1 → o3 ≡ with_ops xs o2 → xs ≡ ys → o3.ops ≡ (drop n o0.ops ++ drop (length o1.ops) o2.ops) ++ ys
out_ops o0 o1 o2 o3 n xs ys e f g h = ap (λ (b : Burst _). b.ops) g ∙ (ap (λ l. l ++ xs) (done_ops o0 o1 o2 n e f) ∙ ap (λ l. (drop n o0.ops ++ drop (length o1.ops) o2.ops) ++ l) h)

pub rose_since : (a b c : ℕ) → a ≤ b → Rose b c → Rose a c
rose_since a b c l r = let q : min (b + 1) (2 ^ 64 - 1) ≤ c = r in omega (arith, l, q)

pub sent_sources : {X S : Type 0} (f : X → S) (o0 o1 : Burst X) (n : ℕ) → o1 ≡ rest_of n o0 → map f o0.ops ≡ map f (take n o0.ops) ++ map f o1.ops
sent_sources f o0 o1 n e = ap (map f) (sym (take-append-drop n o0.ops)) ∙ (map-append f (take n o0.ops) (drop n o0.ops) ∙ ap (λ (b : Burst _). map f (take n o0.ops) ++ map f b.ops) (sym e))

pub run_bag : {S : Type 0} (f0 f1 f2 o0 o1 o2 s t end : List S) → o0 ≡ s ++ o1 → IsPermutation (f0 ++ o1) (f1 ++ o2) → IsPermutation f1 f2 → IsPermutation ((f2 ++ o2) ++ t) end → IsPermutation ((f0 ++ o0) ++ t) (s ++ end)
run_bag f0 f1 f2 o0 o1 o2 s t end e a b c =
    let first : IsPermutation ((f0 ++ (s ++ o1)) ++ t) ((s ++ (f0 ++ o1)) ++ t) = IsPermutation-append_left t (f0 ++ (s ++ o1)) (s ++ (f0 ++ o1)) (swap_front f0 s o1) in
    let step : IsPermutation (f0 ++ o1) (f2 ++ o2) = IsPermutation-trans (f0 ++ o1) (f1 ++ o2) (f2 ++ o2) a (IsPermutation-append_left o2 f1 f2 b) in
    let last : IsPermutation ((f0 ++ o1) ++ t) end = IsPermutation-trans ((f0 ++ o1) ++ t) ((f2 ++ o2) ++ t) end (IsPermutation-append_left t (f0 ++ o1) (f2 ++ o2) step) c in
    rw e (IsPermutation-trans ((f0 ++ (s ++ o1)) ++ t) ((s ++ (f0 ++ o1)) ++ t) (s ++ end) first
    (rw (append_assoc s (f0 ++ o1) t) (IsPermutation-append_right s ((f0 ++ o1) ++ t) end last)))
