-- What is inside, as a bag.
use Rattle.std.proofs.Common.{◌≡◌, ℕ, zero, suc, ◌-◌, ◌<◌, List, [], ◌∷◌, ◌++◌, length, get_or, drop, map, refl, ap, ◌∙◌, arith}
use Rattle.std.proofs.Math.ListN.{set}
use Rattle.std.specs.List.{All, flat_map}
use Rattle.std.specs.List.Sorted.{IsPermutation}
use Rattle.std.proofs.lemmas.List.{append_assoc, map-append}
use Rattle.std.proofs.lemmas.List.Sorted.{IsPermutation-refl, IsPermutation-trans, IsPermutation-sym, IsPermutation-append, IsPermutation-append_left, IsPermutation-append_right, IsPermutation-append_comm, IsPermutation-map}
use Rattle.crypto_model.specs.Process.{Transform}
use Rattle.crypto_op.specs.declared.op.Op.{Op}
use Rattle.crypto_op.specs.Op.{entry_of}
use Rattle.crypto_op.specs.Burst.{Burst}
use Rattle.dev_core.specs.Burst.{with_ops}
use Rattle.dev_core.specs.declared.driver.Driver.{Ghosts}
use Rattle.event_adapter.specs.declared.queue_pair.QueuePair.{QueuePair}
use Rattle.event_adapter.specs.declared.event.Event.{Event}
use Rattle.event_adapter.specs.declared.event.EventKind.{EventKind}
use Rattle.event_adapter.specs.Source.{IsAnswer, entry_in, source_of, tagged}
use Rattle.event_adapter.specs.Inside.{bag_of, ids, inside}
use Rattle.event_adapter.specs.Steps.{Along, Completed, Offered}

-- the parts of three lists, the first one last
pub to_end : {E : Type 0} (a f n : List E) → IsPermutation ((a ++ f) ++ n) ((a ++ n) ++ f)
to_end a f n = rw (append_assoc a f n, append_assoc a n f) (IsPermutation-append_right a (f ++ n) (n ++ f) (IsPermutation-append_comm f n))

pub swap_front : {E : Type 0} (a b c : List E) → IsPermutation (a ++ (b ++ c)) (b ++ (a ++ c))
swap_front a b c = rw (← append_assoc a b c, ← append_assoc b a c) (IsPermutation-append_left c (a ++ b) (b ++ a) (IsPermutation-append_comm a b))

-- the sources of answers
pub answer_sources : {C : Type 0} (sort : EventKind) (id : ℕ) (table : List (List Transform)) (es : List (Event C)) → All (IsAnswer sort id table) es → map source_of es ≡ map (tagged id) (map entry_in es)
answer_sources sort id table [] h = refl
answer_sources sort id table (e ∷ es) h =
    let q : e.qp ≡ id = (h 0 e (omega arith)).qp in
    ap (λ n. record { qp = n; entry = entry_of e.op } ∷ map source_of es) q ∙ ap (λ l. tagged id (entry_of e.op) ∷ l) (answer_sources sort id table es (λ k d l. h (suc k) d (omega arith)))

pub completed_bag : {C D : Type 0} (driver : Ghosts D C) (sort : EventKind) (room : ℕ) (p q : QueuePair C D) (es : List (Event C)) → Completed driver sort room p q es → IsPermutation (map source_of es ++ bag_of driver q) (bag_of driver p)
completed_bag driver sort room p q es s =
    let w = map entry_of p.waiting.ops in
    let f = tagged p.id in
    let e = map entry_in es in
    let b : bag_of driver q ≡ map f (w ++ driver.held q.dev) = ap (λ i. map (tagged i) (map entry_of q.waiting.ops ++ driver.held q.dev)) s.id ∙ ap (λ (o : Burst (Op _)). map f (map entry_of o.ops ++ driver.held q.dev)) s.waiting in
    rw (answer_sources sort p.id (driver.sessions p.dev) es s.answers, b, ← map-append f e (w ++ driver.held q.dev))
    (IsPermutation-map f (e ++ (w ++ driver.held q.dev)) (w ++ driver.held p.dev)
    (IsPermutation-trans (e ++ (w ++ driver.held q.dev)) (w ++ (e ++ driver.held q.dev)) (w ++ driver.held p.dev) (swap_front e w (driver.held q.dev)) (IsPermutation-append_right w (e ++ driver.held q.dev) (driver.held p.dev) s.held)))

pub offered_bag : {C D : Type 0} (driver : Ghosts D C) (room : ℕ) (p q : QueuePair C D) (ops : List (Op C)) → Offered driver room p q ops → IsPermutation (bag_of driver p) (bag_of driver q)
offered_bag driver room p q ops s =
    let a = map entry_of ops in
    let w = map entry_of q.waiting.ops in
    let f = tagged p.id in
    let b : bag_of driver q ≡ map f (w ++ driver.held q.dev) = ap (λ i. map (tagged i) (map entry_of q.waiting.ops ++ driver.held q.dev)) s.id in
    let c : bag_of driver p ≡ map f ((a ++ w) ++ driver.held p.dev) = ap (λ (o : List (Op _)). map f (map entry_of o ++ driver.held p.dev)) s.rest ∙ ap (λ l. map f (l ++ driver.held p.dev)) (map-append entry_of ops q.waiting.ops) in
    rw (b, c) (IsPermutation-map f ((a ++ w) ++ driver.held p.dev) (w ++ driver.held q.dev)
    (IsPermutation-trans ((a ++ w) ++ driver.held p.dev) (w ++ (driver.held p.dev ++ a)) (w ++ driver.held q.dev)
    (IsPermutation-trans ((a ++ w) ++ driver.held p.dev) (w ++ (a ++ driver.held p.dev)) (w ++ (driver.held p.dev ++ a))
    (rw (append_assoc a w (driver.held p.dev)) (swap_front a w (driver.held p.dev)))
    (IsPermutation-append_right w (a ++ driver.held p.dev) (driver.held p.dev ++ a) (IsPermutation-append_comm a (driver.held p.dev))))
    (IsPermutation-append_right w (driver.held p.dev ++ a) (driver.held q.dev) s.takes.held)))

-- all that comes out on the way along the queue pairs
pub along_bag : {P E S : Type 0} (R : ℕ → P → P → List E → Type 0) (bag : P → List S) (f : E → S) (each : (n : ℕ) (p q : P) (es : List E) → R n p q es → IsPermutation (map f es ++ bag q) (bag p)) (room : ℕ) (ps qs : List P) (es : List E) → Along R room ps qs es → IsPermutation (map f es ++ flat_map bag qs) (flat_map bag ps)
along_bag R bag f each room [] [] es h = rw h (IsPermutation-refl [])
along_bag R bag f each room [] (q ∷ qs) es h = absurd h
along_bag R bag f each room (p ∷ ps) [] es h = absurd h
along_bag R bag f each room (p ∷ ps) (q ∷ qs) es (m, o, e, r, rest) =
    let F = flat_map bag qs in
    let one = each room p q m r in
    let more = along_bag R bag f each (room - length m) ps qs o rest in
    rw (e, map-append f m o, append_assoc (map f m) (map f o) (bag q ++ F))
    (IsPermutation-trans (map f m ++ (map f o ++ (bag q ++ F))) ((map f m ++ bag q) ++ (map f o ++ F)) (bag p ++ flat_map bag ps)
    (rw (append_assoc (map f m) (bag q) (map f o ++ F)) (IsPermutation-append_right (map f m) (map f o ++ (bag q ++ F)) (bag q ++ (map f o ++ F)) (swap_front (map f o) (bag q) F)))
    (IsPermutation-append (map f m ++ bag q) (bag p) (map f o ++ F) (flat_map bag ps) one more))

-- where nothing comes out
pub along_same : {P E S : Type 0} (R : ℕ → P → P → List E → Type 0) (bag : P → List S) (each : (n : ℕ) (p q : P) (es : List E) → R n p q es → IsPermutation (bag p) (bag q)) (room : ℕ) (ps qs : List P) (es : List E) → Along R room ps qs es → IsPermutation (flat_map bag ps) (flat_map bag qs)
along_same R bag each room [] [] es h = IsPermutation-refl []
along_same R bag each room [] (q ∷ qs) es h = absurd h
along_same R bag each room (p ∷ ps) [] es h = absurd h
along_same R bag each room (p ∷ ps) (q ∷ qs) es (m, o, e, r, rest) =
    IsPermutation-append (bag p) (bag q) (flat_map bag ps) (flat_map bag qs) (each room p q m r) (along_same R bag each (room - length m) ps qs o rest)

-- ids stay
pub along_ids : {C D E : Type 0} (R : ℕ → QueuePair C D → QueuePair C D → List E → Type 0) (each : (n : ℕ) (p q : QueuePair C D) (es : List E) → R n p q es → q.id ≡ p.id) (room : ℕ) (ps qs : List (QueuePair C D)) (es : List E) → Along R room ps qs es → ids qs ≡ ids ps
along_ids R each room [] [] es h = refl
along_ids R each room [] (q ∷ qs) es h = absurd h
along_ids R each room (p ∷ ps) [] es h = absurd h
along_ids R each room (p ∷ ps) (q ∷ qs) es (m, o, e, r, rest) =
    ap (λ n. n ∷ ids qs) (each room p q m r) ∙ ap (λ l. p.id ∷ l) (along_ids R each (room - length m) ps qs o rest)

-- completions leave the devices and join what goes out
pub out_bag : {S : Type 0} (f0 f1 out c : List S) → IsPermutation (c ++ f1) f0 → IsPermutation (f0 ++ out) (f1 ++ (out ++ c))
out_bag f0 f1 out c h =
    IsPermutation-trans (f0 ++ out) ((c ++ f1) ++ out) (f1 ++ (out ++ c))
    (IsPermutation-append_left out f0 (c ++ f1) (IsPermutation-sym (c ++ f1) f0 h))
    (rw (append_assoc c f1 out) (IsPermutation-trans (c ++ (f1 ++ out)) (f1 ++ (c ++ out)) (f1 ++ (out ++ c)) (swap_front c f1 out) (IsPermutation-append_right f1 (c ++ out) (out ++ c) (IsPermutation-append_comm c out))))

-- one of the queue pairs driver.held these too
pub all_set : {P S : Type 0} (bag : P → List S) (ps : List P) (t : ℕ) (p q : P) (news : List S) → t < length ps → p ≡ get_or ps t p → IsPermutation (bag p ++ news) (bag q) → IsPermutation (flat_map bag ps ++ news) (flat_map bag (set ps t q))
all_set bag [] t p q news k e h = absurd (omega arith)
all_set bag (x ∷ xs) zero p q news k e h =
    let f = flat_map bag xs in
    let r : IsPermutation (bag x ++ news) (bag q) = rw (← e) h in
    IsPermutation-trans ((bag x ++ f) ++ news) ((bag x ++ news) ++ f) (bag q ++ f) (to_end (bag x) f news) (IsPermutation-append_left f (bag x ++ news) (bag q) r)
all_set bag (x ∷ xs) (suc t) p q news k e h =
    let f = flat_map bag xs in
    let r = all_set bag xs t p q news (omega arith) e h in
    rw (append_assoc (bag x) f news) (IsPermutation-append_right (bag x) (f ++ news) (flat_map bag (set xs t q)) r)

pub complete_inside : {C D : Type 0} (driver : Ghosts D C) (ps qs : List (QueuePair C D)) (o0 o : Burst (Event C)) → o ≡ with_ops (drop (length o0.ops) o.ops) o0 → IsPermutation (map source_of (drop (length o0.ops) o.ops) ++ flat_map (bag_of driver) qs) (flat_map (bag_of driver) ps) → IsPermutation (inside driver ps o0.ops) (inside driver qs o.ops)
complete_inside driver ps qs o0 o e h =
    let es = drop (length o0.ops) o.ops in
    let all : map source_of o.ops ≡ map source_of o0.ops ++ map source_of es = ap (λ (b : Burst (Event _)). map source_of b.ops) e ∙ map-append source_of o0.ops es in
    rw all (out_bag (flat_map (bag_of driver) ps) (flat_map (bag_of driver) qs) (map source_of o0.ops) (map source_of es) h)
