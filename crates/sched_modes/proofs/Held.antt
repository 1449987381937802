-- What workers hold together, where one of them changes.
use Rattle.std.proofs.Common.{◌≡◌, ◌⊎◌, ℕ, zero, suc, ◌+◌, ◌<◌, ◌≤◌, List, [], ◌∷◌, ◌++◌, length, get_or, take, drop, Some, inl, inr, length-append, ap, sym, subst, arith}
use Rattle.std.proofs.Math.ListN.{set}
use Rattle.std.specs.Prelude.{slice_get}
use Rattle.std.specs.List.{flat_map}
use Rattle.std.specs.List.Sorted.{IsPermutation}
use Rattle.std.proofs.lemmas.List.{append_assoc, drop-append-le, get_or-set_same, get_or-set_other}
use Rattle.std.proofs.lemmas.List.Sorted.{IsPermutation-trans, IsPermutation-append_left, IsPermutation-append_right, IsPermutation-append_comm}

to_end : {E : Type 0} (a f n : List E) → IsPermutation ((a ++ f) ++ n) ((a ++ n) ++ f)
to_end a f n = rw (append_assoc a f n, append_assoc a n f) (IsPermutation-append_right a (f ++ n) (n ++ f) (IsPermutation-append_comm f n))

pub below : (a b : ℕ) → (a < b) ⊎ (b ≤ a)
below a zero = inr (omega arith)
below zero (suc b) = inl (omega arith)
below (suc a) (suc b) = elim (below a b) [ inl h ↦ inl (omega arith) | inr h ↦ inr (omega arith) ]

-- one of the first w devices took these too
pub held_set : {D E : Type 0} (held : D → List E) (devs : List D) (w t : ℕ) (d d' : D) (news : List E) → t < w → t < length devs → d ≡ get_or devs t d → IsPermutation (held d ++ news) (held d') → IsPermutation (flat_map held (take w devs) ++ news) (flat_map held (take w (set devs t d')))
held_set held [] w t d d' news h k e p = absurd (omega arith)
held_set held (x ∷ xs) zero t d d' news h k e p = absurd (omega arith)
held_set held (x ∷ xs) (suc w) zero d d' news h k e p =
    let f = flat_map held (take w xs) in
    let q : IsPermutation (held x ++ news) (held d') = rw (← e) p in
    IsPermutation-trans ((held x ++ f) ++ news) ((held x ++ news) ++ f) (held d' ++ f) (to_end (held x) f news) (IsPermutation-append_left f (held x ++ news) (held d') q)
held_set held (x ∷ xs) (suc w) (suc t) d d' news h k e p =
    let f = flat_map held (take w xs) in
    let r = held_set held xs w t d d' news (omega arith) (omega arith) e p in
    rw (append_assoc (held x) f news) (IsPermutation-append_right (held x) (f ++ news) (flat_map held (take w (set xs t d'))) r)

pub got_some : {D : Type 0} (devs : List D) (t : ℕ) (d : D) → t < length devs → d ≡ get_or devs t d → slice_get devs t ≡ Some d
got_some [] t d h e = absurd (omega arith)
got_some (x ∷ xs) zero d h e = ap (λ y. Some y) (sym e)
got_some (x ∷ xs) (suc t) d h e = got_some xs t d (omega arith) e

-- what was given so far and what is held is what was held
pub given_more : {E : Type 0} (a x f f' f0 : List E) → IsPermutation (a ++ f) f0 → IsPermutation (x ++ f') f → IsPermutation ((a ++ x) ++ f') f0
given_more a x f f' f0 p q = rw (append_assoc a x f') (IsPermutation-trans (a ++ (x ++ f')) (a ++ f) f0 (IsPermutation-append_right a (x ++ f') f q) p)

-- what stands behind a list, and more
pub behind_more : {X : Type 0} (begin xs ys : List X) (n : ℕ) → length xs ≡ length begin + n → drop (length begin) (xs ++ ys) ≡ drop (length begin) xs ++ ys
behind_more begin xs ys n e = drop-append-le (length begin) xs ys (omega arith)

pub each_set : {D : Type 0} (R : D → D → Type 0) (same : (a : D) → R a a) (devs : List D) (i : ℕ) (d d' : D) → i < length devs → d ≡ get_or devs i d → R d d' → (k : ℕ) (x : D) → R (get_or devs k x) (get_or (set devs i d') k x)
each_set R same [] i d d' h e r k x = absurd (omega arith)
each_set R same (y ∷ ys) zero d d' h e r zero x = subst (λ z. R z d') e r
each_set R same (y ∷ ys) zero d d' h e r (suc k) x = same (get_or ys k x)
each_set R same (y ∷ ys) (suc i) d d' h e r zero x = same y
each_set R same (y ∷ ys) (suc i) d d' h e r (suc k) x = each_set R same ys i d d' (omega arith) e r k x

-- one of the first w devices gave these back
pub held_back : {D E : Type 0} (held : D → List E) (devs : List D) (w t : ℕ) (d d' : D) (out : List E) → t < w → t < length devs → d ≡ get_or devs t d → IsPermutation (out ++ held d') (held d) → IsPermutation (flat_map held (take w (set devs t d')) ++ out) (flat_map held (take w devs))
held_back held [] w t d d' out h k e p = absurd (omega arith)
held_back held (x ∷ xs) zero t d d' out h k e p = absurd (omega arith)
held_back held (x ∷ xs) (suc w) zero d d' out h k e p =
    let f = flat_map held (take w xs) in
    let q : IsPermutation (out ++ held d') (held x) = rw e at p in
    IsPermutation-trans ((held d' ++ f) ++ out) (out ++ (held d' ++ f)) (held x ++ f)
    (IsPermutation-append_comm (held d' ++ f) out)
    (rw (← append_assoc out (held d') f) (IsPermutation-append_left f (out ++ held d') (held x) q))
held_back held (x ∷ xs) (suc w) (suc t) d d' out h k e p =
    let f = flat_map held (take w (set xs t d')) in
    let r = held_back held xs w t d d' out (omega arith) (omega arith) e p in
    rw (append_assoc (held x) f out) (IsPermutation-append_right (held x) (f ++ out) (flat_map held (take w xs)) r)

pub held_within : {D E : Type 0} (held : D → List E) (devs : List D) (w t : ℕ) (d : D) → t < w → t < length devs → d ≡ get_or devs t d → length (held d) ≤ length (flat_map held (take w devs))
held_within held [] w t d h k e = absurd (omega arith)
held_within held (x ∷ xs) zero t d h k e = absurd (omega arith)
held_within held (x ∷ xs) (suc w) zero d h k e = let l : length (held d) ≡ length (held x) = ap (λ y. length (held y)) e in omega (arith, l, length-append (held x) (flat_map held (take w xs)))
held_within held (x ∷ xs) (suc w) (suc t) d h k e = let r = held_within held xs w t d (omega arith) (omega arith) e in omega (arith, r, length-append (held x) (flat_map held (take w xs)))

pub held_out : {D E : Type 0} (held : D → List E) (devs : List D) (w t : ℕ) (d d' : D) (out : List E) → t < w → t < length devs → d ≡ get_or devs t d → IsPermutation (out ++ held d') (held d) → IsPermutation (out ++ flat_map held (take w (set devs t d'))) (flat_map held (take w devs))
held_out held devs w t d d' out h k e p =
    IsPermutation-trans (out ++ flat_map held (take w (set devs t d'))) (flat_map held (take w (set devs t d')) ++ out) (flat_map held (take w devs))
    (IsPermutation-append_comm out (flat_map held (take w (set devs t d')))) (held_back held devs w t d d' out h k e p)

-- what holds of each pair below i, and of the new one
pub up_to : {D : Type 0} (P : D → D → Type 0) (old new : List D) (i : ℕ) (d' : D) → i < length new → ((k : ℕ) (x : D) → k < i → P (get_or old k x) (get_or new k x)) → ((x : D) → P (get_or old i x) d') → (k : ℕ) (x : D) → k < i + 1 → P (get_or old k x) (get_or (set new i d') k x)
up_to P old new i d' h before here k x l = elim (below k i) [
  | inl less ↦ rw (get_or-set_other new i k d' x (λ e. omega (arith, e, less))) (before k x less)
  | inr more ↦ let e : k ≡ i = omega (arith, l, more) in rw (e, get_or-set_same new i d' x h) (here x)
]

pub same_at : {D : Type 0} (devs : List D) (i : ℕ) (d x : D) → i < length devs → d ≡ get_or devs i d → get_or devs i x ≡ d
same_at [] i d x h e = absurd (omega arith)
same_at (y ∷ devs) zero d x h e = sym e
same_at (y ∷ devs) (suc i) d x h e = same_at devs i d x (omega arith) e
