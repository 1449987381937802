-- One step of a loop over the queue pairs.
use Rattle.std.proofs.Common.{◌≡◌, ℕ, ◌+◌, ◌-◌, ◌<◌, ◌≤◌, min, List, [], ◌∷◌, ◌++◌, length, get_or, take, drop, refl, ap, ◌∙◌, sym, subst, arith, length-append, length-drop}
use Rattle.std.proofs.Math.ListN.{set}
use Rattle.std.proofs.lemmas.List.{append-nil, append_assoc, get_or-drop, take_more, take_more_set, drop-set-lt, drop-drop, drop-append-le, take_all, drop_all, at_drop_more}
use Rattle.crypto_op.specs.Burst.{Burst}
use Rattle.dev_core.specs.Burst.{with_ops, room_of}
use Rattle.event_adapter.specs.declared.queue_pair.QueuePair.{QueuePair}
use Rattle.event_adapter.specs.Inside.{least_room}
use Rattle.event_adapter.specs.Steps.{Along}

along_push : {P E : Type 0} (R : ℕ → P → P → List E → Type 0) (room : ℕ) (ps qs : List P) (es : List E) (p q : P) (mine : List E) → Along R room ps qs es → R (room - length es) p q mine → Along R room (ps ++ p ∷ []) (qs ++ q ∷ []) (es ++ mine)
along_push R room [] [] es p q mine h r =
    let n : length es ≡ 0 = ap length h in
    let e : room - length es ≡ room = omega (arith, n) in
    (mine, [], ap (λ z. z ++ mine) h ∙ sym (append-nil mine), subst (λ m. R m p q mine) e r, refl)
along_push R room [] (q0 ∷ qs) es p q mine h r = absurd h
along_push R room (p0 ∷ ps) [] es p q mine h r = absurd h
along_push R room (p0 ∷ ps) (q0 ∷ qs) es p q mine (m, o, e, r0, rest) r =
    let l : length es ≡ length m + length o = ap length e ∙ length-append m o in
    let left : room - length es ≡ (room - length m) - length o = omega (arith, l) in
    (m, o ++ mine, ap (λ z. z ++ mine) e ∙ append_assoc m o mine, r0, along_push R (room - length m) ps qs o p q mine rest (subst (λ k. R k p q mine) left r))

same_at : {P : Type 0} (ps0 ps : List P) (i : ℕ) (p : P) → p ≡ get_or ps i p → drop i ps ≡ drop i ps0 → get_or ps0 i p ≡ p
same_at ps0 ps i p e same =
    let z : i + 0 ≡ i = omega arith in
    let a : get_or (drop i ps0) 0 p ≡ get_or ps0 i p = get_or-drop i ps0 0 p ∙ ap (λ k. get_or ps0 k p) z in
    let b : get_or (drop i ps) 0 p ≡ get_or ps i p = get_or-drop i ps 0 p ∙ ap (λ k. get_or ps k p) z in
    sym a ∙ (ap (λ l. get_or l 0 p) (sym same) ∙ (b ∙ sym e))

pub along_step : {P E : Type 0} (R : ℕ → P → P → List E → Type 0) (room : ℕ) (ps0 ps : List P) (i : ℕ) (p q : P) (es mine : List E) → i < length ps → length ps ≡ length ps0 → p ≡ get_or ps i p → drop i ps ≡ drop i ps0 → Along R room (take i ps0) (take i ps) es → R (room - length es) p q mine → Along R room (take (i + 1) ps0) (take (i + 1) (set ps i q)) (es ++ mine)
along_step R room ps0 ps i p q es mine h l e same a r =
    rw (take_more_set ps i q h, take_more ps0 i p (omega (arith, h, l)), same_at ps0 ps i p e same) (along_push R room (take i ps0) (take i ps) es p q mine a r)

pub rest_step : {P : Type 0} (ps0 ps : List P) (i : ℕ) (q : P) → drop i ps ≡ drop i ps0 → drop (i + 1) (set ps i q) ≡ drop (i + 1) ps0
rest_step ps0 ps i q same = drop-set-lt (i + 1) ps i q (omega arith) ∙ (sym (drop-drop 1 i ps) ∙ (ap (drop 1) same ∙ drop-drop 1 i ps0))

pub along_end : {P E : Type 0} (R : ℕ → P → P → List E → Type 0) (room : ℕ) (ps0 ps : List P) (i : ℕ) (es : List E) → length ps ≡ length ps0 → length ps ≤ i → Along R room (take i ps0) (take i ps) es → Along R room ps0 ps es
along_end R room ps0 ps i es l h a = rw (take_all i ps h, take_all i ps0 (omega (arith, h, l))) at a

-- what stands behind a list, and more
pub behind_more : {X : Type 0} (o0 o o' : Burst X) → length o0.ops ≤ length o.ops → o' ≡ with_ops (drop (length o.ops) o'.ops) o → drop (length o0.ops) o'.ops ≡ drop (length o0.ops) o.ops ++ drop (length o.ops) o'.ops
behind_more o0 o o' c f = ap (λ (b : Burst _). drop (length o0.ops) b.ops) f ∙ drop-append-le (length o0.ops) o.ops (drop (length o.ops) o'.ops) c

pub kept_more : {X : Type 0} (o0 o o' : Burst X) → o ≡ with_ops (drop (length o0.ops) o.ops) o0 → o' ≡ with_ops (drop (length o.ops) o'.ops) o → length o0.ops ≤ length o.ops → o' ≡ with_ops (drop (length o0.ops) o'.ops) o0
kept_more o0 o o' e f c =
    let xs = drop (length o.ops) o'.ops in
    let l = length o0.ops in
    let cap : o'.cap ≡ o0.cap = ap (λ (b : Burst _). b.cap) f ∙ ap (λ (b : Burst _). b.cap) e in
    let all : o'.ops ≡ o.ops ++ xs = ap (λ (b : Burst _). b.ops) f in
    let drops : drop l o'.ops ≡ drop l o.ops ++ xs = behind_more o0 o o' c f in
    let ops : o'.ops ≡ o0.ops ++ drop l o'.ops =
    all ∙ (ap (λ z. z ++ xs) (ap (λ (b : Burst _). b.ops) e) ∙ (append_assoc o0.ops (drop l o.ops) xs ∙ ap (λ z. o0.ops ++ z) (sym drops))) in
    ap (λ a. record { cap = a; ops = o'.ops }) cap ∙ ap (λ z. record { cap = o0.cap; ops = z }) ops

-- the room that is left
pub room_left : {X : Type 0} (o0 o : Burst X) → o ≡ with_ops (drop (length o0.ops) o.ops) o0 → length o0.ops ≤ length o.ops → room_of o ≡ room_of o0 - length (drop (length o0.ops) o.ops)
room_left o0 o e c =
    let cap : o.cap ≡ o0.cap = ap (λ (b : Burst _). b.cap) e in
    let l = length-drop (length o0.ops) o.ops in
    omega (arith, cap, l, c)

pub least_within : {C D : Type 0} (ps : List (QueuePair C D)) → least_room ps ≤ 32
least_within [] = omega arith
least_within (p ∷ ps) = let l = least_within ps in omega (arith, l)

pub least_step : {C D : Type 0} (ps : List (QueuePair C D)) (i : ℕ) (p : QueuePair C D) → i < length ps → p ≡ get_or ps i p → least_room (drop i ps) ≡ min (32 - length p.waiting.ops) (least_room (drop (i + 1) ps))
least_step ps i p h e = at_drop_more least_room ps i p h ∙ ap (λ (q : QueuePair _ _). min (32 - length q.waiting.ops) (least_room (drop (i + 1) ps))) (sym e)

pub kept_none : {X : Type 0} (o : Burst X) → o ≡ with_ops (drop (length o.ops) o.ops) o
kept_none o = ap (λ z. record o { ops = z }) (sym (ap (λ z. o.ops ++ z) (drop_all (length o.ops) o.ops (omega arith)) ∙ append-nil o.ops))
