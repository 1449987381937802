-- The longest prefix whose shares fit two rooms.
use Rattle.std.proofs.Common.{◌≡◌, ℕ, zero, suc, ◌+◌, ◌-◌, ◌<◌, ◌≤◌, List, [], ◌∷◌, length, get_or, take, refl, arith, Option, None, Some, inl, inr}
use Rattle.std.proofs.lemmas.Bool.Decides.{nat_tests}
use Rattle.std.specs.Prelude.{nat_lt, if◌then◌else◌}
use Rattle.sched_modes.specs.Admits.{longest, longest_told, room_for}
use Rattle.sched_modes.specs.Crew.{one_at, share, size_worker}
use Rattle.sched_modes.proofs.Held.{below}
use Rattle.sched_modes.proofs.Sizes.{size_below}

yes : (a f : ℕ) → 0 < a → (if nat_lt 0 a then suc f else 0) ≡ suc f
yes a f h = grind (arith, nat_tests)

not_so : (a f : ℕ) → a ≤ 0 → (if nat_lt 0 a then suc f else 0) ≡ 0
not_so a f h = grind (arith, nat_tests)

step_le : (j r s a b n f : ℕ) → j < 2 → one_at j 0 + a ≤ r → one_at j 1 + b ≤ s → (a ≤ r - one_at j 0 → b ≤ s - one_at j 1 → n ≤ f) → suc n ≤ (if nat_lt 0 (room_for j r s) then suc f else 0)
step_le zero r s a b n f h x y k = let m = k (omega (arith, x)) (omega (arith, y)) in rw (yes r f (omega (arith, x))) (omega (arith, m))
step_le (suc zero) r s a b n f h x y k = let m = k (omega (arith, x)) (omega (arith, y)) in rw (yes s f (omega (arith, y))) (omega (arith, m))
step_le (suc (suc j)) r s a b n f h x y k = absurd (omega (arith, h))

-- no prefix that fits is longer
pub longest_le : (t r s n : ℕ) (ls : List ℕ) → n ≤ length ls → share t 0 (take n ls) ≤ r → share t 1 (take n ls) ≤ s → n ≤ longest t r s ls
longest_le t r s zero ls h x y = omega arith
longest_le t r s (suc n) [] h x y = absurd (omega (arith, h))
longest_le t r s (suc n) (l ∷ ls) h x y =
    let j = size_worker t l in
    step_le j r s (share t 0 (take n ls)) (share t 1 (take n ls)) n (longest t (r - one_at j 0) (s - one_at j 1) ls) (size_below t l) x y
    (λ a b. longest_le t (r - one_at j 0) (s - one_at j 1) n ls (omega (arith, h)) a b)

more_zero : (a f : ℕ) → 0 < (if nat_lt 0 a then suc f else 0) → 0 < a
more_zero a f h = elim (below 0 a) [ inl l ↦ l | inr m ↦ absurd (omega (arith, h, not_so a f m)) ]

more_suc : (a f n : ℕ) → suc n < (if nat_lt 0 a then suc f else 0) → n < f
more_suc a f n h = elim (below 0 a) [ inl l ↦ omega (arith, h, yes a f l) | inr m ↦ absurd (omega (arith, h, not_so a f m)) ]

room_more : (i j r s a : ℕ) → i < 2 → a < room_for i (r - one_at j 0) (s - one_at j 1) → one_at j i + a < room_for i r s
room_more zero j r s a h k = omega (arith, k)
room_more (suc zero) j r s a h k = omega (arith, k)
room_more (suc (suc i)) j r s a h k = absurd (omega (arith, h))

-- behind a shorter one there is room for the next
pub longest_more : (t r s n : ℕ) (ls : List ℕ) → n < longest t r s ls → (n < length ls) × (share t (size_worker t (get_or ls n 0)) (take n ls) < room_for (size_worker t (get_or ls n 0)) r s)
longest_more t r s n [] h = absurd (omega (arith, h))
longest_more t r s zero (l ∷ ls) h = (omega arith, more_zero (room_for (size_worker t l) r s) (longest t (r - one_at (size_worker t l) 0) (s - one_at (size_worker t l) 1) ls) h)
longest_more t r s (suc n) (l ∷ ls) h =
    let j = size_worker t l in
    let q = longest_more t (r - one_at j 0) (s - one_at j 1) n ls (more_suc (room_for j r s) (longest t (r - one_at j 0) (s - one_at j 1) ls) n h) in
    (omega (arith, q.0), room_more (size_worker t (get_or ls n 0)) j r s (share t (size_worker t (get_or ls n 0)) (take n ls)) (size_below t (get_or ls n 0)) q.1)

none_some : (x : ℕ) → None ≡ Some x → ⊥
none_some x e = cc

some_same : (a b : ℕ) → Some a ≡ Some b → a ≡ b
some_same a b e = cc

pub told_both : (t : ℕ) (a b : Option ℕ) (ls : List ℕ) (x : ℕ) → longest_told t a b ls ≡ Some x → (r : ℕ) × (s : ℕ) × (a ≡ Some r) × (b ≡ Some s) × (longest t r s ls ≡ x)
told_both t None b ls x e = absurd (none_some x e)
told_both t (Some r) None ls x e = absurd (none_some x e)
told_both t (Some r) (Some s) ls x e = (r, s, refl, refl, some_same (longest t r s ls) x e)
