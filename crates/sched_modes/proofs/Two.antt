-- Two offers of one burst, one behind the other.
use Rattle.std.proofs.Common.{◌≡◌, ℕ, zero, suc, ◌+◌, ◌-◌, ◌≤◌, List, [], ◌∷◌, ◌++◌, length, map, take, drop, Option, None, Some, refl, ap, ◌∙◌, sym, arith, take-add}
use Rattle.std.specs.List.{All}
use Rattle.std.specs.List.Sorted.{IsPermutation}
use Rattle.std.proofs.lemmas.List.{append_assoc, map-append, drop-drop, length-drop, length-map, length-take-le}
use Rattle.std.proofs.lemmas.List.Elements.{All-nil, All-tail}
use Rattle.std.proofs.lemmas.List.Sorted.{IsPermutation-trans, IsPermutation-append_left}
use Rattle.crypto_op.specs.declared.op.Op.{Op}
use Rattle.crypto_op.specs.Op.{entry_of}
use Rattle.crypto_op.specs.Burst.{Burst}
use Rattle.dev_core.specs.Burst.{front, front_log, log_entry, offered, rest_of}
use Rattle.sched_core.specs.Logged.{renumbered}
use Rattle.sched_core.proofs.Renumbered.{renumbered-append, renumbered-mod}
use Rattle.sched_modes.specs.Crew.{Grew, Places, free, told}

none_taken : {X : Type 0} (P : X → Type 0) (k : ℕ) → All P (take k [])
none_taken P zero = All-nil P
none_taken P (suc k) = All-nil P

-- what holds of the first m holds of the first that are left behind n of them
pub fresh_rest : {X : Type 0} (P : X → Type 0) (m n : ℕ) (xs : List X) → n ≤ m → All P (take m xs) → All P (take (m - n) (drop n xs))
fresh_rest P m zero xs h f = let e : m - 0 ≡ m = omega arith in rw e f
fresh_rest P zero (suc n) xs h f = absurd (omega (arith, h))
fresh_rest P (suc m) (suc n) [] h f = none_taken P (suc m - suc n)
fresh_rest P (suc m) (suc n) (x ∷ xs) h f = let e : suc m - suc n ≡ m - n = omega arith in rw e (fresh_rest P m n xs (omega (arith, h)) (All-tail P x (take m xs) f))

pub front_two : {C : Type 0} (m n : ℕ) (a b : Burst (Op C)) → b ≡ rest_of m a → front (m + n) a ≡ front m a ++ front n b
front_two m n a b e = rw e (ap (map entry_of) (take-add m n a.ops) ∙ map-append entry_of (take m a.ops) (take n (drop m a.ops)))

pub log_two : {C : Type 0} (m n : ℕ) (a b : Burst (Op C)) → b ≡ rest_of m a → front_log (m + n) a ≡ front_log m a ++ front_log n b
log_two m n a b e = rw e (ap (map log_entry) (take-add m n a.ops) ∙ map-append log_entry (take m a.ops) (take n (drop m a.ops)))

pub pending_two : {E : Type 0} (p q r a b c : List E) → c ≡ a ++ b → IsPermutation (p ++ a) q → IsPermutation (q ++ b) r → IsPermutation (p ++ c) r
pending_two p q r a b c e x y = rw (e, ← append_assoc p a b) (IsPermutation-trans ((p ++ a) ++ b) (q ++ b) r (IsPermutation-append_left b (p ++ a) q x) y)

pub order_two : {E : Type 0} (p q r a b c : List E) → c ≡ a ++ b → q ≡ p ++ a → r ≡ q ++ b → r ≡ p ++ c
order_two p q r a b c e x y = y ∙ (ap (λ l. l ++ b) x ∙ (append_assoc p a b ∙ ap (λ l. p ++ l) (sym e)))

some_none : {X : Type 0} (x : X) → Some x ≡ None → ⊥
some_none x e = cc

pub grew_two : (m n : ℕ) (a b c : Option Places) → Grew m a b → Grew n b c → Grew (m + n) a c
grew_two m n None None c x y = y
grew_two m n None (Some b) c x y = absurd (some_none b x)
grew_two m n (Some a) None c x y = absurd x
grew_two m n (Some a) (Some b) None x y = absurd y
grew_two m n (Some a) (Some b) (Some c) x y = (y.0 ∙ x.0, omega (arith, x.1, y.1), omega (arith, x.2, y.2))

-- what the ring has places for behind m
pub free_after : (m n : ℕ) (a b : Option Places) → Grew m a b → m ≤ free a n → free b (n - m) ≡ free a n - m
free_after m n None None x y = refl
free_after m n None (Some b) x y = absurd (some_none b x)
free_after m n (Some a) None x y = absurd x
free_after m n (Some a) (Some b) x y = omega (arith, x.0, x.1, y)

pub rest_two : {X : Type 0} (m n : ℕ) (a b c : Burst X) → b ≡ rest_of m a → c ≡ rest_of n b → c ≡ rest_of (m + n) a
rest_two m n a b c x y = rw (y, x) (ap (λ l. record { cap = a.cap; ops = l }) (drop-drop n m a.ops))

pub offered_rest : {X : Type 0} (most m : ℕ) (a b : Burst X) → b ≡ rest_of m a → offered (most - m) b ≡ offered most a - m
offered_rest most m a b e = let l : length b.ops ≡ length a.ops - m = ap (λ (x : Burst _). length x.ops) e ∙ length-drop m a.ops in omega (arith, l)

-- what the logs show of both
pub told_two : {C : Type 0} (m n : ℕ) (o o' : Option Places) (a b : Burst (Op C)) → b ≡ rest_of m a → m ≤ length a.ops → Grew m o o' → told o (front_log (m + n) a) ≡ told o (front_log m a) ++ told o' (front_log n b)
told_two m n None None a b e l g = log_two m n a b e
told_two m n None (Some q) a b e l g = absurd (some_none q g)
told_two m n (Some p) None a b e l g = absurd g
told_two m n (Some p) (Some q) a b e l g =
    let few : length (front_log m a) ≡ m = length-map (take m a.ops) log_entry ∙ length-take-le m a.ops l in
    ap (renumbered p.next) (log_two m n a b e)
    ∙ (renumbered-append p.next (front_log m a) (front_log n b)
    ∙ ap (λ es. renumbered p.next (front_log m a) ++ es) (renumbered-mod (p.next + length (front_log m a)) q.next (front_log n b) (omega (arith, few, g.2))))
