-- Events join what waits for their queue pairs.
use Rattle.std.proofs.Common.{◌≡◌, ◌≢◌, ◌⊎◌, ℕ, zero, suc, ◌+◌, ◌-◌, ◌==◌, ◌<◌, ◌≤◌, Bool, true, false, not, cond, List, [], ◌∷◌, ◌++◌, length, get_or, take, drop, map, refl, ap, ◌∙◌, sym, subst, arith, inl, inr}
use Rattle.std.proofs.Math.ListN.{set}
use Rattle.std.specs.List.{flat_map, filter, list_any, remove}
use Rattle.std.specs.Prelude.{◌||◌}
use Rattle.std.specs.List.Sorted.{IsPermutation}
use Rattle.std.proofs.lemmas.Bool.Decides.{eqb_tells}
use Rattle.std.proofs.lemmas.List.{append-nil, append_assoc, map-append, length-set, length-map, get_or-set_same, get_or-set_other, get_or_default, drop_more, take_more}
use Rattle.std.proofs.lemmas.List.Elements.{filter-append}
use Rattle.std.proofs.lemmas.List.Folds.{list_any_at, list_any_more}
use Rattle.std.proofs.lemmas.List.Sorted.{IsPermutation-trans, IsPermutation-append_left, IsPermutation-append_right, IsPermutation-map}
use Rattle.crypto_op.specs.declared.op.Op.{Op}
use Rattle.crypto_op.specs.Op.{Entry, entry_of}
use Rattle.crypto_op.specs.Burst.{Burst}
use Rattle.dev_core.specs.Burst.{with_ops}
use Rattle.dev_core.specs.declared.driver.Driver.{Ghosts}
use Rattle.event_adapter.specs.declared.queue_pair.QueuePair.{QueuePair}
use Rattle.event_adapter.specs.declared.event.Event.{Event}
use Rattle.event_adapter.specs.Source.{ops_for, source_of, tagged}
use Rattle.event_adapter.specs.Inside.{IsDistinct, bag_of, ids, inside, is_known, least_room, strangers}
use Rattle.event_adapter.specs.Steps.{Dealt, Each}
use Rattle.event_adapter.proofs.Bags.{to_end, all_set}

pub least_at : {C D : Type 0} (ps : List (QueuePair C D)) (k : ℕ) (p : QueuePair C D) → k < length ps → p ≡ get_or ps k p → least_room ps ≤ 32 - length p.waiting.ops
least_at [] k p h e = absurd (omega arith)
least_at (x ∷ xs) zero p h e = let n : length p.waiting.ops ≡ length x.waiting.ops = ap (λ (y : QueuePair _ _). length y.waiting.ops) e in omega (arith, n)
least_at (x ∷ xs) (suc k) p h e = let r = least_at xs k p (omega arith) e in omega (arith, r)

pub least_set : {C D : Type 0} (ps : List (QueuePair C D)) (k : ℕ) (p q : QueuePair C D) → k < length ps → p ≡ get_or ps k p → length q.waiting.ops ≡ length p.waiting.ops + 1 → least_room ps ≤ least_room (set ps k q) + 1
least_set [] k p q h e l = absurd (omega arith)
least_set (x ∷ xs) zero p q h e l = let n : length p.waiting.ops ≡ length x.waiting.ops = ap (λ (y : QueuePair _ _). length y.waiting.ops) e in omega (arith, n, l)
least_set (x ∷ xs) (suc k) p q h e l = let r = least_set xs k p q (omega arith) e l in omega (arith, r)

pub ids_set : {C D : Type 0} (ps : List (QueuePair C D)) (k : ℕ) (p q : QueuePair C D) → p ≡ get_or ps k p → q.id ≡ p.id → ids (set ps k q) ≡ ids ps
ids_set [] k p q e i = refl
ids_set (x ∷ xs) zero p q e i = ap (λ n. n ∷ ids xs) (i ∙ ap (λ (y : QueuePair _ _). y.id) e)
ids_set (x ∷ xs) (suc k) p q e i = ap (λ l. x.id ∷ l) (ids_set xs k p q e i)

-- the id at k
pub id_at : {C D : Type 0} (ps : List (QueuePair C D)) (k : ℕ) (d : QueuePair C D) → k < length ps → get_or (ids ps) k 0 ≡ (get_or ps k d).id
id_at [] k d h = absurd (omega arith)
id_at (x ∷ xs) zero d h = refl
id_at (x ∷ xs) (suc k) d h = id_at xs k d (omega arith)

pub ops_more : {C : Type 0} (id : ℕ) (es fs : List (Event C)) → ops_for id (es ++ fs) ≡ ops_for id es ++ ops_for id fs
ops_more id es fs = ap (map (λ e. e.op)) (filter-append (λ e. e.qp == id) es fs) ∙ map-append (λ e. e.op) (filter (λ e. e.qp == id) es) (filter (λ e. e.qp == id) fs)

ops_mine : {C : Type 0} (id : ℕ) (e : Event C) → e.qp ≡ id → ops_for id (e ∷ []) ≡ e.op ∷ []
ops_mine id e h = elim (eqb_tells e.qp id) [ inl t ↦ ap (λ b. map (λ f. f.op) (cond b (e ∷ []) [])) t.0 | inr f ↦ absurd (f.1 h) ]

ops_other : {C : Type 0} (id : ℕ) (e : Event C) → e.qp ≢ id → ops_for id (e ∷ []) ≡ []
ops_other id e h = elim (eqb_tells e.qp id) [ inl t ↦ absurd (h t.1) | inr f ↦ ap (λ b. map (λ f. f.op) (cond b (e ∷ []) [])) f.0 ]

dealt_other : {C D : Type 0} (e : Event C) (p : QueuePair C D) → e.qp ≢ p.id → Dealt (e ∷ []) p p
dealt_other e p h = record { id = refl; dev = refl; cap = refl; waiting = sym (ap (λ l. p.waiting.ops ++ l) (ops_other p.id e h) ∙ append-nil p.waiting.ops) }

dealt_mine : {C D : Type 0} (e : Event C) (p q : QueuePair C D) → e.qp ≡ p.id → q.id ≡ p.id → q.dev ≡ p.dev → q.waiting ≡ with_ops (e.op ∷ []) p.waiting → Dealt (e ∷ []) p q
dealt_mine e p q h i d w = record { id = i; dev = d; cap = ap (λ (b : Burst _). b.cap) w; waiting = ap (λ (b : Burst _). b.ops) w ∙ ap (λ l. p.waiting.ops ++ l) (sym (ops_mine p.id e h)) }

-- the event joins one queue pair
pub each_put : {C D : Type 0} (ps : List (QueuePair C D)) (k : ℕ) (p q : QueuePair C D) (e : Event C) → k < length ps → p ≡ get_or ps k p → IsDistinct (ids ps) → e.qp ≡ p.id → q.id ≡ p.id → q.dev ≡ p.dev → q.waiting ≡ with_ops (e.op ∷ []) p.waiting → Each (Dealt (e ∷ [])) ps (set ps k q)
each_put {C} {D} ps k p q e h at distinct mine i d w = (
  length-set ps k q,
  λ n x l. elim (eqb_tells n k) [
    | inl t ↦
        let same : get_or ps n x ≡ p = ap (λ j. get_or ps j x) t.1 ∙ (get_or_default ps k x p h ∙ sym at) in
        let new : get_or (set ps k q) n x ≡ q = ap (λ j. get_or (set ps k q) j x) t.1 ∙ get_or-set_same ps k q x h in
        rw (same, new) (dealt_mine e p q mine i d w)
    | inr f ↦
        let new : get_or (set ps k q) n x ≡ get_or ps n x = get_or-set_other ps k n q x f.1 in
        let far : e.qp ≢ (get_or ps n x).id = λ y. f.1 (distinct n k
        (subst (λ m. n < m) (sym (length-map ps (λ (z : QueuePair C D). z.id))) l)
        (subst (λ m. k < m) (sym (length-map ps (λ (z : QueuePair C D). z.id))) h)
        (id_at ps n x l ∙ (sym y ∙ (mine ∙ (ap (λ (z : QueuePair C D). z.id) at ∙ sym (id_at ps k p h)))))) in
        rw new (dealt_other e (get_or ps n x) far)
  ],
)

-- an id that isn't known
pub unknown : {C D : Type 0} (ps : List (QueuePair C D)) (id k : ℕ) (d : QueuePair C D) → is_known ps id ≡ false → k < length ps → id ≢ (get_or ps k d).id
unknown {C} {D} ps id k d none h e =
    let l : k < length (ids ps) = subst (λ m. k < m) (sym (length-map ps (λ (z : QueuePair C D). z.id))) h in
    let t : (get_or (ids ps) k 0 == id) ≡ true = elim (eqb_tells (get_or (ids ps) k 0) id) [ inl t ↦ t.0 | inr f ↦ absurd (f.1 (id_at ps k d h ∙ sym e)) ] in
    let yes : is_known ps id ≡ true = list_any_at (λ x. x == id) (ids ps) k 0 l t in
    cc

pub each_none : {C D : Type 0} (ps : List (QueuePair C D)) (e : Event C) → is_known ps e.qp ≡ false → Each (Dealt (e ∷ [])) ps ps
each_none ps e none = (refl, λ n x l. dealt_other e (get_or ps n x) (unknown ps e.qp n x none l))

-- one event after others
pub each_on : {C D : Type 0} (es fs : List (Event C)) (ps qs rs : List (QueuePair C D)) → Each (Dealt es) ps qs → Each (Dealt fs) qs rs → Each (Dealt (es ++ fs)) ps rs
each_on es fs ps qs rs (l, a) (m, b) = (
  m ∙ l,
  λ k d h.
      let x = a k d h in
      let y = b k d (omega (arith, h, l)) in
      record {
        id = y.id ∙ x.id;
        dev = y.dev ∙ x.dev;
        cap = y.cap ∙ x.cap;
        waiting = y.waiting ∙ (ap (λ z. z ++ ops_for (get_or qs k d).id fs) x.waiting ∙ (append_assoc (get_or ps k d).waiting.ops (ops_for (get_or ps k d).id es) (ops_for (get_or qs k d).id fs)
            ∙ ap (λ z. (get_or ps k d).waiting.ops ++ z) (ap (λ i. ops_for (get_or ps k d).id es ++ ops_for i fs) x.id ∙ sym (ops_more (get_or ps k d).id es fs))));
      },
)

pub strangers_more : {C D : Type 0} (ps : List (QueuePair C D)) (es fs : List (Event C)) → strangers ps (es ++ fs) ≡ strangers ps es ++ strangers ps fs
strangers_more ps es fs = filter-append (λ e. not (is_known ps e.qp)) es fs

pub strangers_same : {C D : Type 0} (ps qs : List (QueuePair C D)) (es : List (Event C)) → ids qs ≡ ids ps → strangers qs es ≡ strangers ps es
strangers_same ps qs es i = ap (λ l. filter (λ e. not (list_any (λ x. x == e.qp) l)) es) i

pub stranger : {C D : Type 0} (ps : List (QueuePair C D)) (e : Event C) (b : Bool) → is_known ps e.qp ≡ b → strangers ps (e ∷ []) ≡ cond b [] (e ∷ [])
stranger ps e true h = ap (λ b. cond (not b) (e ∷ []) []) h
stranger ps e false h = ap (λ b. cond (not b) (e ∷ []) []) h

pub put_bag : {C D : Type 0} (driver : Ghosts D C) (p q : QueuePair C D) (e : Event C) → e.qp ≡ p.id → q.id ≡ p.id → q.dev ≡ p.dev → q.waiting ≡ with_ops (e.op ∷ []) p.waiting → IsPermutation (bag_of driver p ++ source_of e ∷ []) (bag_of driver q)
put_bag driver p q e mine i d w =
    let f = tagged p.id in
    let x = entry_of e.op in
    let ws = map entry_of p.waiting.ops in
    let s : source_of e ≡ f x = ap (λ n. tagged n x) mine in
    let b : bag_of driver q ≡ map f ((ws ++ x ∷ []) ++ driver.held p.dev) =
    ap (λ n. map (tagged n) (map entry_of q.waiting.ops ++ driver.held q.dev)) i
    ∙ (ap (λ y. map f (map entry_of q.waiting.ops ++ driver.held y)) d
    ∙ (ap (λ (o : Burst (Op _)). map f (map entry_of o.ops ++ driver.held p.dev)) w ∙ ap (λ l. map f (l ++ driver.held p.dev)) (map-append entry_of p.waiting.ops (e.op ∷ [])))) in
    rw (s, b, ← map-append f (ws ++ driver.held p.dev) (x ∷ [])) (IsPermutation-map f ((ws ++ driver.held p.dev) ++ x ∷ []) ((ws ++ x ∷ []) ++ driver.held p.dev) (to_end ws (driver.held p.dev) (x ∷ [])))

pub put_inside : {C D : Type 0} (driver : Ghosts D C) (ps : List (QueuePair C D)) (k : ℕ) (p q : QueuePair C D) (e : Event C) (out : List (Event C)) → k < length ps → p ≡ get_or ps k p → e.qp ≡ p.id → q.id ≡ p.id → q.dev ≡ p.dev → q.waiting ≡ with_ops (e.op ∷ []) p.waiting → IsPermutation (inside driver ps out ++ source_of e ∷ []) (inside driver (set ps k q) out)
put_inside driver ps k p q e out h at mine i d w =
    let F = flat_map (bag_of driver) ps in
    let O = map source_of out in
    let s = source_of e ∷ [] in
    IsPermutation-trans ((F ++ O) ++ s) ((F ++ s) ++ O) (flat_map (bag_of driver) (set ps k q) ++ O) (to_end F O s)
    (IsPermutation-append_left O (F ++ s) (flat_map (bag_of driver) (set ps k q)) (all_set (bag_of driver) ps k p q s h at (put_bag driver p q e mine i d w)))

pub out_inside : {C D : Type 0} (driver : Ghosts D C) (ps : List (QueuePair C D)) (out : List (Event C)) (es : List (Event C)) → inside driver ps out ++ map source_of es ≡ inside driver ps (out ++ es)
out_inside driver ps out es = append_assoc (flat_map (bag_of driver) ps) (map source_of out) (map source_of es) ∙ ap (λ l. flat_map (bag_of driver) ps ++ l) (sym (map-append source_of out es))

-- what was inside with some, and with one more
pub bag_more : {S : Type 0} (a t s b c : List S) → IsPermutation (a ++ t) b → IsPermutation (b ++ s) c → IsPermutation (a ++ (t ++ s)) c
bag_more a t s b c p q = rw (← append_assoc a t s) (IsPermutation-trans ((a ++ t) ++ s) (b ++ s) c (IsPermutation-append_left s (a ++ t) b p) q)

pub known_at : {C D : Type 0} (ps : List (QueuePair C D)) (id k : ℕ) (p : QueuePair C D) → k < length ps → p ≡ get_or ps k p → p.id ≡ id → is_known ps id ≡ true
known_at {C} {D} ps id k p h at e =
    let l : k < length (ids ps) = subst (λ m. k < m) (sym (length-map ps (λ (z : QueuePair C D). z.id))) h in
    let t : (get_or (ids ps) k 0 == id) ≡ true = elim (eqb_tells (get_or (ids ps) k 0) id) [ inl t ↦ t.0 | inr f ↦ absurd (f.1 (id_at ps k p h ∙ (sym (ap (λ (z : QueuePair C D). z.id) at) ∙ e))) ] in
    list_any_at (λ x. x == id) (ids ps) k 0 l t

pub none_more : {C D : Type 0} (ps : List (QueuePair C D)) (id k : ℕ) (p : QueuePair C D) → k < length ps → p ≡ get_or ps k p → p.id ≢ id → list_any (λ x. x == id) (take k (ids ps)) ≡ false → list_any (λ x. x == id) (take (k + 1) (ids ps)) ≡ false
none_more {C} {D} ps id k p h at e none =
    let l : k < length (ids ps) = subst (λ m. k < m) (sym (length-map ps (λ (z : QueuePair C D). z.id))) h in
    let f : (get_or (ids ps) k 0 == id) ≡ false = elim (eqb_tells (get_or (ids ps) k 0) id) [ inl t ↦ absurd (e (ap (λ (z : QueuePair C D). z.id) at ∙ (sym (id_at ps k p h) ∙ t.1))) | inr f ↦ f.0 ] in
    list_any_more (λ x. x == id) (ids ps) k 0 l ∙ (ap (λ b. b || (get_or (ids ps) k 0 == id)) none ∙ f)

at_end : (xs : List ℕ) (x i : ℕ) → i < length (xs ++ x ∷ []) → (i < length xs × (get_or (xs ++ x ∷ []) i 0 ≡ get_or xs i 0)) ⊎ ((i ≡ length xs) × (get_or (xs ++ x ∷ []) i 0 ≡ x))
at_end [] x zero h = inr (refl, refl)
at_end [] x (suc i) h = absurd (omega arith)
at_end (y ∷ ys) x zero h = inl (omega arith, refl)
at_end (y ∷ ys) x (suc i) h = elim (at_end ys x i (omega arith)) [ inl t ↦ inl (omega (arith, t.0), t.1) | inr f ↦ inr (omega (arith, f.0), f.1) ]

push_apart : (xs : List ℕ) (x : ℕ) → IsDistinct xs → ((k : ℕ) → k < length xs → get_or xs k 0 ≡ x → ⊥) → IsDistinct (xs ++ x ∷ [])
push_apart xs x d far i j hi hj same = elim (at_end xs x i hi) [
  | inl a ↦ elim (at_end xs x j hj) [ inl b ↦ d i j a.0 b.0 (sym a.1 ∙ (same ∙ b.1)) | inr b ↦ absurd (far i a.0 (sym a.1 ∙ (same ∙ b.1))) ]
  | inr a ↦ elim (at_end xs x j hj) [ inl b ↦ absurd (far j b.0 (sym b.1 ∙ (sym same ∙ a.1))) | inr b ↦ a.0 ∙ sym b.0 ]
]

-- one more id that wasn't known
pub distinct_push : {C D : Type 0} (ps : List (QueuePair C D)) (p : QueuePair C D) (id : ℕ) → p.id ≡ id → is_known ps id ≡ false → IsDistinct (ids ps) → IsDistinct (ids (ps ++ p ∷ []))
distinct_push {C} {D} ps p id e none d i j hi hj same =
    let f = λ (z : QueuePair C D). z.id in
    let m : ids (ps ++ p ∷ []) ≡ ids ps ++ p.id ∷ [] = map-append f ps (p ∷ []) in
    push_apart (ids ps) p.id d (λ k l t. let y : is_known ps id ≡ true = list_any_at (λ x. x == id) (ids ps) k 0 l (elim (eqb_tells (get_or (ids ps) k 0) id) [ inl s ↦ s.0 | inr s ↦ absurd (s.1 (t ∙ e)) ]) in cc) i j
    (subst (λ (l : List ℕ). i < length l) m hi) (subst (λ (l : List ℕ). j < length l) m hj) (ap (λ l. get_or l i 0) (sym m) ∙ (same ∙ ap (λ l. get_or l j 0) m))

pub submit_inside : {C D : Type 0} (driver : Ghosts D C) (ps : List (QueuePair C D)) (k : ℕ) (p q : QueuePair C D) (id : ℕ) (xs : List (Entry C)) (out : List (Event C)) → k < length ps → p ≡ get_or ps k p → p.id ≡ id → q.id ≡ p.id → q.waiting ≡ p.waiting → IsPermutation (driver.held p.dev ++ xs) (driver.held q.dev) → IsPermutation (inside driver ps out ++ map (tagged id) xs) (inside driver (set ps k q) out)
submit_inside driver ps k p q id xs out h at mine i w held =
    let F = flat_map (bag_of driver) ps in
    let O = map source_of out in
    let f = tagged p.id in
    let s = map f xs in
    let ws = map entry_of p.waiting.ops in
    let n : map (tagged id) xs ≡ s = ap (λ j. map (tagged j) xs) (sym mine) in
    let b : bag_of driver q ≡ map f (ws ++ driver.held q.dev) = ap (λ j. map (tagged j) (map entry_of q.waiting.ops ++ driver.held q.dev)) i ∙ ap (λ (o : Burst (Op _)). map f (map entry_of o.ops ++ driver.held q.dev)) w in
    let one : IsPermutation (bag_of driver p ++ s) (bag_of driver q) =
    rw (b, ← map-append f (ws ++ driver.held p.dev) xs, append_assoc ws (driver.held p.dev) xs) (IsPermutation-map f (ws ++ (driver.held p.dev ++ xs)) (ws ++ driver.held q.dev) (IsPermutation-append_right ws (driver.held p.dev ++ xs) (driver.held q.dev) held)) in
    rw n (IsPermutation-trans ((F ++ O) ++ s) ((F ++ s) ++ O) (flat_map (bag_of driver) (set ps k q) ++ O) (to_end F O s)
    (IsPermutation-append_left O (F ++ s) (flat_map (bag_of driver) (set ps k q)) (all_set (bag_of driver) ps k p q s h at one)))

pub distinct_pushed : {C D : Type 0} (ps news : List (QueuePair C D)) (p : QueuePair C D) (id : ℕ) → news ≡ ps ++ p ∷ [] → p.id ≡ id → is_known ps id ≡ false → IsDistinct (ids ps) → IsDistinct (ids news)
distinct_pushed ps news p id n e none d = rw n (distinct_push ps p id e none d)

pub front_taken : {P : Type 0} (ps0 ps : List P) (i : ℕ) (p : P) → i < length ps0 → ps ≡ drop i ps0 → p ≡ get_or ps 0 p → (take (i + 1) ps0 ≡ take i ps0 ++ p ∷ []) × (remove ps 0 ≡ drop (i + 1) ps0)
front_taken ps0 ps i p h e at =
    let m : ps ≡ get_or ps0 i p ∷ drop (i + 1) ps0 = e ∙ drop_more ps0 i p h in
    let q : p ≡ get_or ps0 i p = at ∙ ap (λ l. get_or l 0 p) m in
    (take_more ps0 i p h ∙ ap (λ y. take i ps0 ++ y ∷ []) (sym q), ap (λ l. remove l 0) m)

kept_in : (xs : List ℕ) (k i : ℕ) → i < length (remove xs k) → (m : ℕ) × (m < length xs) × (get_or (remove xs k) i 0 ≡ get_or xs m 0)
kept_in [] zero i h = absurd (omega (arith, h))
kept_in [] (suc k) i h = absurd (omega (arith, h))
kept_in (x ∷ xs) zero i h = (suc i, omega (arith, h), refl)
kept_in (x ∷ xs) (suc k) zero h = (0, omega arith, refl)
kept_in (x ∷ xs) (suc k) (suc i) h = let r = kept_in xs k i (omega (arith, h)) in let l = r.1 in (suc r.0, omega (arith, l), r.2)

distinct_tail : (x : ℕ) (xs : List ℕ) → IsDistinct (x ∷ xs) → IsDistinct xs
distinct_tail x xs d i j hi hj s = let n : suc i ≡ suc j = d (suc i) (suc j) (omega (arith, hi)) (omega (arith, hj)) s in omega (arith, n)

distinct_less : (xs : List ℕ) (k : ℕ) → IsDistinct xs → IsDistinct (remove xs k)
distinct_less [] zero d i j hi hj s = absurd (omega (arith, hi))
distinct_less [] (suc k) d i j hi hj s = absurd (omega (arith, hi))
distinct_less (x ∷ xs) zero d i j hi hj s = distinct_tail x xs d i j hi hj s
distinct_less (x ∷ xs) (suc k) d zero zero hi hj s = refl
distinct_less (x ∷ xs) (suc k) d zero (suc j) hi hj s = let r = kept_in xs k j (omega (arith, hj)) in let l = r.1 in let n : 0 ≡ suc r.0 = d 0 (suc r.0) (omega arith) (omega (arith, l)) (s ∙ r.2) in absurd (omega (arith, n))
distinct_less (x ∷ xs) (suc k) d (suc i) zero hi hj s = let r = kept_in xs k i (omega (arith, hi)) in let l = r.1 in let n : suc r.0 ≡ 0 = d (suc r.0) 0 (omega (arith, l)) (omega arith) (sym r.2 ∙ s) in absurd (omega (arith, n))
distinct_less (x ∷ xs) (suc k) d (suc i) (suc j) hi hj s = ap (λ n. suc n) (distinct_less xs k (distinct_tail x xs d) i j (omega (arith, hi)) (omega (arith, hj)) s)

ids_remove : {C D : Type 0} (ps : List (QueuePair C D)) (k : ℕ) → ids (remove ps k) ≡ remove (ids ps) k
ids_remove [] zero = refl
ids_remove [] (suc k) = refl
ids_remove (p ∷ ps) zero = refl
ids_remove (p ∷ ps) (suc k) = ap (λ l. p.id ∷ l) (ids_remove ps k)

pub distinct_removed : {C D : Type 0} (ps news : List (QueuePair C D)) (k : ℕ) → news ≡ remove ps k → IsDistinct (ids ps) → IsDistinct (ids news)
distinct_removed ps news k e d = rw (e, ids_remove ps k) (distinct_less (ids ps) k d)
