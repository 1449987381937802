-- What stays linked where nodes come and go.
use mathlib.Core.Path.{◌≡◌, refl, sym, ap, subst, ◌∙◌}
use mathlib.Core.Logic.{∥∥₁_elim}
use mathlib.Core.List.{List, [], ◌∷◌, ◌++◌}
use Prim.Native.Nat.{ℕ, zero, suc, ◌<◌}
use native.Mathlib.Omega.{arith}
use lib.ListN.{length}
use Rattle.std.proofs.Common.{length-append}
use base.Stored.{Coded-set}
use denote.RawPtr.{Ptr, coded_ptr}
use Rattle.seg_list.specs.Links.{Link, LeadsForward, EndsAfter, EndsAt, IsChained, link_at, place_of}

LeadsForward-prop : (h : Ptr) (ls : List Link) → IsProp (LeadsForward h ls)
LeadsForward-prop h [] = λ p q. refl
LeadsForward-prop h (l ∷ ls) = λ p q i. (Coded-set coded_ptr h l.0 p.0 q.0 i, LeadsForward-prop l.1 ls p.1 q.1 i)

EndsAfter-prop : (a : Ptr) (ls : List Link) (t : Ptr) → IsProp (EndsAfter a ls t)
EndsAfter-prop a [] t = Coded-set coded_ptr t a
EndsAfter-prop a (l ∷ ls) t = EndsAfter-prop l.0 ls t

EndsAt-prop : (ls : List Link) (t : Ptr) → IsProp (EndsAt ls t)
EndsAt-prop [] t = λ p q. refl
EndsAt-prop (l ∷ ls) t = EndsAfter-prop l.0 ls t

pub IsChained-had : (h t : Ptr) (ls : List Link) → ∥ IsChained h t ls ∥₁ → IsChained h t ls
IsChained-had h t ls c = ∥∥₁_elim c (λ p q i. (LeadsForward-prop h ls p.0 q.0 i, EndsAt-prop ls t p.1 q.1 i)) (λ p. p)

EndsAfter-last : (a t : Ptr) (ls : List Link) (l : Link) → EndsAfter a (ls ++ l ∷ []) t → t ≡ l.0
EndsAfter-last a t [] l c = c
EndsAfter-last a t (m ∷ ls) l c = EndsAfter-last m.0 t ls l c

pub EndsAt-last : (t : Ptr) (ls : List Link) (l : Link) → EndsAt (ls ++ l ∷ []) t → t ≡ l.0
EndsAt-last t [] l c = c
EndsAt-last t (m ∷ ls) l c = EndsAfter-last m.0 t ls l c

LeadsForward-join : (h p : Ptr) (ls : List Link) (l : Link) (ms : List Link) → LeadsForward h (ls ++ l ∷ []) → LeadsForward p ms → LeadsForward h (ls ++ (l.0, p) ∷ ms)
LeadsForward-join h p [] l ms c d = (c.0, d)
LeadsForward-join h p (k ∷ ls) l ms c d = (c.0, LeadsForward-join k.1 p ls l ms c.1 d)

EndsAfter-join : (a : Ptr) (ls : List Link) (l m : Link) (ms : List Link) (u : Ptr) → EndsAt (m ∷ ms) u → EndsAfter a (ls ++ l ∷ m ∷ ms) u
EndsAfter-join a [] l m ms u d = d
EndsAfter-join a (k ∷ ls) l m ms u d = EndsAfter-join k.0 ls l m ms u d

EndsAt-join : (ls : List Link) (l m : Link) (ms : List Link) (u : Ptr) → EndsAt (m ∷ ms) u → EndsAt (ls ++ l ∷ m ∷ ms) u
EndsAt-join [] l m ms u d = d
EndsAt-join (k ∷ ls) l m ms u d = EndsAfter-join k.0 ls l m ms u d

-- two chains are joined: the last node of the first gets a new `next`
pub IsChained-join : (h t p u : Ptr) (ls : List Link) (l m : Link) (ms : List Link) → IsChained h t (ls ++ l ∷ []) → IsChained p u (m ∷ ms)
    → IsChained h u (ls ++ (l.0, p) ∷ m ∷ ms)
IsChained-join h t p u ls l m ms c d = (LeadsForward-join h p ls l (m ∷ ms) c.0 d.0, EndsAt-join ls (l.0, p) m ms u d.1)

pub uncons : {Y : Type 0} (xs : List Y) → 0 < length xs → (y : Y) × (ys : List Y) × (xs ≡ y ∷ ys)
uncons [] p = absurd (omega arith)
uncons (y ∷ ys) p = (y, ys, refl)

last_of : {Y : Type 0} (x : Y) (xs : List Y) → (ys : List Y) × (y : Y) × (x ∷ xs ≡ ys ++ y ∷ [])
last_of x [] = ([], x, refl)
last_of x (z ∷ zs) = let on = last_of z zs in (x ∷ on.0, on.1, ap (λ l. x ∷ l) on.2)

pub unsnoc : {Y : Type 0} (xs : List Y) → 0 < length xs → (ys : List Y) × (y : Y) × (xs ≡ ys ++ y ∷ [])
unsnoc [] p = absurd (omega arith)
unsnoc (x ∷ xs) p = last_of x xs

EndsAfter-tail : (a t : Ptr) (ls : List Link) → EndsAfter a ls t → EndsAt ls t
EndsAfter-tail a t [] c = tt
EndsAfter-tail a t (m ∷ ls) c = c

pub IsChained-tail : (h t : Ptr) (l : Link) (ls : List Link) → IsChained h t (l ∷ ls) → IsChained l.1 t ls
IsChained-tail h t l ls c = (c.0.1, EndsAfter-tail l.0 t ls c.1)

pub next_is : (h : Ptr) (ls : List Link) (i : ℕ) → suc i < length ls → LeadsForward h ls → (link_at ls i).1 ≡ place_of ls (suc i)
next_is h [] i p c = absurd (omega arith)
next_is h (l ∷ []) i p c = absurd (omega arith)
next_is h (l ∷ m ∷ ls) zero p c = c.1.0
next_is h (l ∷ m ∷ ls) (suc i) p c = next_is l.1 (m ∷ ls) i (omega arith) c.1

pub first_is : (h : Ptr) (ls : List Link) → 0 < length ls → LeadsForward h ls → h ≡ place_of ls 0
first_is h [] p c = absurd (omega arith)
first_is h (l ∷ ls) p c = c.0

link-front : (ls : List Link) (l : Link) → place_of (ls ++ l ∷ []) (length ls) ≡ l.0
link-front [] l = refl
link-front (m ∷ ls) l = link-front ls l

pub last_is : (t : Ptr) (ls : List Link) (i : ℕ) → suc i ≡ length ls → EndsAt ls t → t ≡ place_of ls i
last_is t ls i n c =
    let u = unsnoc ls (omega (arith, n)) in
    let k : i ≡ length u.0 = omega (arith, n, ap length u.2, length-append u.0 (u.1 ∷ [])) in
    EndsAt-last t u.0 u.1 (subst (λ ms. EndsAt ms t) u.2 c) ∙ sym (ap (λ ms. place_of ms i) u.2 ∙ ap (place_of (u.0 ++ u.1 ∷ [])) k ∙ link-front u.0 u.1)
