-- How many of one queue pair's events are inside.
use Rattle.std.proofs.Common.{◌≡◌, ◌≢◌, ℕ, zero, suc, ◌+◌, ◌==◌, ◌<◌, Bool, cond, List, [], ◌∷◌, ◌++◌, length, get_or, map, refl, ap, ◌∙◌, sym, arith, length-append, inl, inr}
use Rattle.std.specs.List.{flat_map, count_by}
use Rattle.std.proofs.lemmas.Bool.Decides.{eqb_tells}
use Rattle.std.proofs.lemmas.List.{length-map, get_or_default}
use Rattle.std.proofs.lemmas.List.Sums.{sum_by-append, sum_by-cons}
use Rattle.crypto_op.specs.Op.{Entry, entry_of}
use Rattle.dev_core.specs.declared.driver.Driver.{Ghosts}
use Rattle.event_adapter.specs.declared.queue_pair.QueuePair.{QueuePair}
use Rattle.event_adapter.specs.declared.event.Event.{Event}
use Rattle.event_adapter.specs.Source.{source_of, tagged}
use Rattle.event_adapter.specs.Inside.{IsDistinct, bag_of, ids, inside_at}
use Rattle.event_adapter.proofs.Deal.{id_at}

abbrev one : Bool → ℕ
one b = cond b 1 0

count-cons : {X : Type 0} (p : X → Bool) (x : X) (xs : List X) → count_by p (x ∷ xs) ≡ one (p x) + count_by p xs
count-cons p x xs = sum_by-cons (λ y. cond (p y) 1 0) x xs

count-append : {X : Type 0} (p : X → Bool) (xs ys : List X) → count_by p (xs ++ ys) ≡ count_by p xs + count_by p ys
count-append p xs ys = sum_by-append (λ y. cond (p y) 1 0) xs ys

count_out : {C : Type 0} (id : ℕ) (es : List (Event C)) → count_by (λ s. s.qp == id) (map source_of es) ≡ count_by (λ e. e.qp == id) es
count_out id [] = refl
count_out id (e ∷ es) =
    count-cons (λ s. s.qp == id) (source_of e) (map source_of es) ∙ (ap (λ n. one (e.qp == id) + n) (count_out id es) ∙ sym (count-cons (λ f. f.qp == id) e es))

count_mine : {C : Type 0} (i id : ℕ) (xs : List (Entry C)) → i ≡ id → count_by (λ s. s.qp == id) (map (tagged i) xs) ≡ length xs
count_mine i id [] e = refl
count_mine i id (x ∷ xs) e =
    let c = count-cons (λ s. s.qp == id) (tagged i x) (map (tagged i) xs) in
    let b : one (i == id) ≡ 1 = elim (eqb_tells i id) [ inl t ↦ ap one t.0 | inr f ↦ absurd (f.1 e) ] in
    let r = count_mine i id xs e in
    omega (arith, c, b, r)

count_other : {C : Type 0} (i id : ℕ) (xs : List (Entry C)) → i ≢ id → count_by (λ s. s.qp == id) (map (tagged i) xs) ≡ 0
count_other i id [] e = refl
count_other i id (x ∷ xs) e =
    let c = count-cons (λ s. s.qp == id) (tagged i x) (map (tagged i) xs) in
    let b : one (i == id) ≡ 0 = elim (eqb_tells i id) [ inl t ↦ absurd (e t.1) | inr f ↦ ap one f.0 ] in
    let r = count_other i id xs e in
    omega (arith, c, b, r)

count_none : {C D : Type 0} (driver : Ghosts D C) (id : ℕ) (ps : List (QueuePair C D)) → ((k : ℕ) → k < length ps → get_or (ids ps) k 0 ≢ id) → count_by (λ s. s.qp == id) (flat_map (bag_of driver) ps) ≡ 0
count_none driver id [] far = refl
count_none driver id (p ∷ ps) far =
    let c = count-append (λ s. s.qp == id) (bag_of driver p) (flat_map (bag_of driver) ps) in
    let a = count_other p.id id (map entry_of p.waiting.ops ++ driver.held p.dev) (far 0 (omega arith)) in
    let r = count_none driver id ps (λ k h. far (suc k) (omega (arith, h))) in
    omega (arith, c, a, r)

pub count_pair : {C D : Type 0} (driver : Ghosts D C) (ps : List (QueuePair C D)) (k : ℕ) (p : QueuePair C D) → k < length ps → p ≡ get_or ps k p → IsDistinct (ids ps) → count_by (λ s. s.qp == p.id) (flat_map (bag_of driver) ps) ≡ length p.waiting.ops + length (driver.held p.dev)
count_pair driver [] k p h at d = absurd (omega arith)
count_pair {C} {D} driver (x ∷ xs) zero p h at d =
    let l : length (ids xs) ≡ length xs = length-map xs (λ (z : QueuePair C D). z.id) in
    let c = count-append (λ s. s.qp == p.id) (bag_of driver x) (flat_map (bag_of driver) xs) in
    let i : x.id ≡ p.id = ap (λ (z : QueuePair C D). z.id) (sym at) in
    let a = count_mine x.id p.id (map entry_of x.waiting.ops ++ driver.held x.dev) i in
    let r = count_none driver p.id xs (λ j hj e. let n : suc j ≡ 0 = d (suc j) 0 (omega (arith, hj, l)) (omega (arith, l)) (e ∙ sym i) in absurd (omega (arith, n))) in
    let s = length-append (map entry_of x.waiting.ops) (driver.held x.dev) in
    let m = length-map x.waiting.ops entry_of in
    let w : length p.waiting.ops ≡ length x.waiting.ops = ap (λ (z : QueuePair C D). length z.waiting.ops) at in
    let g : length (driver.held p.dev) ≡ length (driver.held x.dev) = ap (λ (z : QueuePair C D). length (driver.held z.dev)) at in
    omega (arith, c, a, r, s, m, w, g)
count_pair {C} {D} driver (x ∷ xs) (suc k) p h at d =
    let l : length (ids xs) ≡ length xs = length-map xs (λ (z : QueuePair C D). z.id) in
    let c = count-append (λ s. s.qp == p.id) (bag_of driver x) (flat_map (bag_of driver) xs) in
    let y : get_or (ids xs) k 0 ≡ p.id = id_at xs k p (omega (arith, h)) ∙ ap (λ (z : QueuePair C D). z.id) (sym at) in
    let a = count_other x.id p.id (map entry_of x.waiting.ops ++ driver.held x.dev) (λ e. let n : 0 ≡ suc k = d 0 (suc k) (omega (arith, l)) (omega (arith, h, l)) (e ∙ sym y) in absurd (omega (arith, n))) in
    let r = count_pair driver xs k p (omega (arith, h)) at (λ i j hi hj s. let n : suc i ≡ suc j = d (suc i) (suc j) (omega (arith, hi)) (omega (arith, hj)) s in omega (arith, n)) in
    omega (arith, c, a, r)

pub count_inside : {C D : Type 0} (driver : Ghosts D C) (ps : List (QueuePair C D)) (out : List (Event C)) (k : ℕ) (p d : QueuePair C D) → k < length ps → p ≡ get_or ps k p → IsDistinct (ids ps) → inside_at driver ps out (get_or ps k d).id ≡ (length p.waiting.ops + length (driver.held p.dev)) + count_by (λ e. e.qp == p.id) out
count_inside {C} {D} driver ps out k p d h at apart =
    let e : (get_or ps k d).id ≡ p.id = ap (λ (z : QueuePair C D). z.id) (get_or_default ps k d p h ∙ sym at) in
    let c = count-append (λ s. s.qp == p.id) (flat_map (bag_of driver) ps) (map source_of out) in
    let a = count_pair driver ps k p h at apart in
    let o = count_out p.id out in
    ap (inside_at driver ps out) e ∙ omega (arith, c, a, o)
