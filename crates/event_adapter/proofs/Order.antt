-- One queue pair on its way through the steps.
use Rattle.std.proofs.Common.{◌≡◌, ◌≢◌, ℕ, zero, suc, ◌+◌, ◌-◌, ◌==◌, ◌<◌, Bool, true, false, not, cond, List, [], ◌∷◌, ◌++◌, length, get_or, take, drop, map, refl, ap, ◌∙◌, sym, arith, length-append, inl, inr}
use Rattle.std.specs.List.{All, filter}
use Rattle.std.proofs.lemmas.Bool.Decides.{eqb_tells}
use Rattle.std.proofs.lemmas.List.{append-nil, append_assoc, map-append, get_or_default, take-append-drop, length-map}
use Rattle.crypto_op.specs.declared.op.Op.{Op}
use Rattle.crypto_op.specs.Op.{entry_of}
use Rattle.crypto_op.specs.Burst.{Burst}
use Rattle.dev_core.specs.declared.driver.Driver.{Ghosts}
use Rattle.event_adapter.specs.declared.queue_pair.QueuePair.{QueuePair}
use Rattle.event_adapter.specs.declared.event.Event.{Event}
use Rattle.event_adapter.specs.declared.event.EventKind.{EventKind}
use Rattle.event_adapter.specs.Source.{IsAnswer, entries_for, entry_in, ops_for}
use Rattle.event_adapter.specs.Inside.{IsDistinct, ids, is_known, strangers}
use Rattle.event_adapter.specs.Steps.{Along, Completed, Dealt, Each, Kept, Offered}
use Rattle.event_adapter.specs.Ran.{KeepsOrder, Served}
use Rattle.event_adapter.proofs.Deal.{id_at, known_at, ops_more}

pub along_length : {P E : Type 0} (R : ℕ → P → P → List E → Type 0) (room : ℕ) (ps qs : List P) (es : List E) → Along R room ps qs es → length qs ≡ length ps
along_length R room [] [] es a = refl
along_length R room [] (q ∷ qs) es a = absurd a
along_length R room (p ∷ ps) [] es a = absurd a
along_length R room (p ∷ ps) (q ∷ qs) es (m, o, e, r, rest) = ap (λ n. suc n) (along_length R (room - length m) ps qs o rest)

pub along_at : {P E : Type 0} (R : ℕ → P → P → List E → Type 0) (room : ℕ) (ps qs : List P) (es : List E) (k : ℕ) (d : P) → k < length ps → Along R room ps qs es → (n : ℕ) × (mine : List E) × R n (get_or ps k d) (get_or qs k d) mine
along_at R room [] qs es k d h a = absurd (omega (arith, h))
along_at R room (p ∷ ps) [] es k d h a = absurd a
along_at R room (p ∷ ps) (q ∷ qs) es zero d h (m, o, e, r, rest) = (room, m, r)
along_at R room (p ∷ ps) (q ∷ qs) es (suc k) d h (m, o, e, r, rest) = along_at R (room - length m) ps qs o k d (omega (arith, h)) rest

pub entries_more : {C : Type 0} (id : ℕ) (es fs : List (Event C)) → entries_for id (es ++ fs) ≡ entries_for id es ++ entries_for id fs
entries_more id es fs = ap (map entry_of) (ops_more id es fs) ∙ map-append entry_of (ops_for id es) (ops_for id fs)

-- an event that is for this queue pair, or for another
entry_mine : {C : Type 0} (id : ℕ) (e : Event C) (es : List (Event C)) → e.qp ≡ id → entries_for id (e ∷ es) ≡ entry_in e ∷ entries_for id es
entry_mine id e es h =
    let rest = filter (λ f. f.qp == id) es in
    elim (eqb_tells e.qp id) [ inl t ↦ ap (λ b. map entry_of (map (λ f. f.op) (cond b (e ∷ rest) rest))) t.0 | inr f ↦ absurd (f.1 h) ]

entry_other : {C : Type 0} (id : ℕ) (e : Event C) (es : List (Event C)) → e.qp ≢ id → entries_for id (e ∷ es) ≡ entries_for id es
entry_other id e es h =
    let rest = filter (λ f. f.qp == id) es in
    elim (eqb_tells e.qp id) [ inl t ↦ absurd (h t.1) | inr f ↦ ap (λ b. map entry_of (map (λ f. f.op) (cond b (e ∷ rest) rest))) f.0 ]

answers_mine : {C : Type 0} (P : Event C → Type 0) (id : ℕ) (es : List (Event C)) → ((e : Event C) → P e → e.qp ≡ id) → All P es → entries_for id es ≡ map entry_in es
answers_mine P id [] f h = refl
answers_mine P id (e ∷ es) f h = entry_mine id e es (f e (h 0 e (omega arith))) ∙ ap (λ l. entry_in e ∷ l) (answers_mine P id es f (λ k d l. h (suc k) d (omega arith)))

answers_other : {C : Type 0} (P : Event C → Type 0) (id : ℕ) (es : List (Event C)) → ((e : Event C) → P e → e.qp ≢ id) → All P es → entries_for id es ≡ []
answers_other P id [] f h = refl
answers_other P id (e ∷ es) f h = entry_other id e es (f e (h 0 e (omega arith))) ∙ answers_other P id es f (λ k d l. h (suc k) d (omega arith))

none_along : {C D : Type 0} (driver : Ghosts D C) (sort : EventKind) (room : ℕ) (ps qs : List (QueuePair C D)) (es : List (Event C)) (id : ℕ) → ((k : ℕ) → k < length ps → get_or (ids ps) k 0 ≢ id) → Along (Completed driver sort) room ps qs es → entries_for id es ≡ []
none_along driver sort room [] [] es id far a = ap (λ l. entries_for id l) a
none_along driver sort room [] (q ∷ qs) es id far a = absurd a
none_along driver sort room (p ∷ ps) [] es id far a = absurd a
none_along {C} {D} driver sort room (p ∷ ps) (q ∷ qs) es id far (m, o, e, r, rest) =
    let here : entries_for id m ≡ [] = answers_other (IsAnswer sort p.id (driver.sessions p.dev)) id m (λ x a same. far 0 (omega arith) (sym a.qp ∙ same)) r.answers in
    let there : entries_for id o ≡ [] = none_along driver sort (room - length m) ps qs o id (λ k h. far (suc k) (omega (arith, h))) rest in
    ap (λ l. entries_for id l) e ∙ (entries_more id m o ∙ (ap (λ l. l ++ entries_for id o) here ∙ there))

-- the answers of one queue pair among those of all
pub answers_at : {C D : Type 0} (driver : Ghosts D C) (sort : EventKind) (room : ℕ) (ps qs : List (QueuePair C D)) (es : List (Event C)) (k : ℕ) (d : QueuePair C D) → k < length ps → IsDistinct (ids ps) → Along (Completed driver sort) room ps qs es → (n : ℕ) × (mine : List (Event C)) × Completed driver sort n (get_or ps k d) (get_or qs k d) mine × (entries_for (get_or ps k d).id es ≡ map entry_in mine)
answers_at driver sort room [] qs es k d h apart a = absurd (omega (arith, h))
answers_at driver sort room (p ∷ ps) [] es k d h apart a = absurd a
answers_at {C} {D} driver sort room (p ∷ ps) (q ∷ qs) es zero d h apart (m, o, e, r, rest) =
    let l : length (ids ps) ≡ length ps = length-map ps (λ (z : QueuePair C D). z.id) in
    let here = answers_mine (IsAnswer sort p.id (driver.sessions p.dev)) p.id m (λ x a. a.qp) r.answers in
    let there : entries_for p.id o ≡ [] = none_along driver sort (room - length m) ps qs o p.id
    (λ j hj same. let n : suc j ≡ 0 = apart (suc j) 0 (omega (arith, hj, l)) (omega (arith, l)) same in absurd (omega (arith, n))) rest in
    (room, m, r, ap (λ l. entries_for p.id l) e ∙ (entries_more p.id m o ∙ (ap (λ x. entries_for p.id m ++ x) there ∙ (append-nil (entries_for p.id m) ∙ here))))
answers_at {C} {D} driver sort room (p ∷ ps) (q ∷ qs) es (suc k) d h apart (m, o, e, r, rest) =
    let l : length (ids ps) ≡ length ps = length-map ps (λ (z : QueuePair C D). z.id) in
    let id = (get_or ps k d).id in
    let more = answers_at driver sort (room - length m) ps qs o k d (omega (arith, h)) (λ i j hi hj s. let n : suc i ≡ suc j = apart (suc i) (suc j) (omega (arith, hi)) (omega (arith, hj)) s in omega (arith, n)) rest in
    let far : p.id ≢ id = λ same. let n : 0 ≡ suc k = apart 0 (suc k) (omega (arith, l)) (omega (arith, h, l)) (same ∙ sym (id_at ps k d (omega (arith, h)))) in absurd (omega (arith, n)) in
    let here : entries_for id m ≡ [] = answers_other (IsAnswer sort p.id (driver.sessions p.dev)) id m (λ x a same. far (sym a.qp ∙ same)) r.answers in
    (more.0, more.1, more.2, ap (λ l. entries_for id l) e ∙ (entries_more id m o ∙ (ap (λ x. x ++ entries_for id o) here ∙ more.3)))

stranger_entries : {C D : Type 0} (ps : List (QueuePair C D)) (id : ℕ) (e : Event C) (es : List (Event C)) (b : Bool) → is_known ps id ≡ true → is_known ps e.qp ≡ b → entries_for id (cond (not b) (e ∷ strangers ps es) (strangers ps es)) ≡ entries_for id (strangers ps es)
stranger_entries ps id e es true known same = refl
stranger_entries ps id e es false known same = entry_other id e (strangers ps es) (λ t. let y : is_known ps e.qp ≡ true = ap (is_known ps) t ∙ known in absurd cc)

-- no stranger is for a known queue pair
pub strangers_none : {C D : Type 0} (ps : List (QueuePair C D)) (id : ℕ) (es : List (Event C)) → is_known ps id ≡ true → entries_for id (strangers ps es) ≡ []
strangers_none ps id [] known = refl
strangers_none ps id (e ∷ es) known = stranger_entries ps id e es (is_known ps e.qp) known refl ∙ strangers_none ps id es known

kept_then : {C D : Type 0} (driver : Ghosts D C) (on : (d e f : D) → driver.follows d e → driver.follows e f → driver.follows d f) (n : ℕ) (d e f : D) → Kept driver 0 d e → Kept driver n e f → Kept driver n d f
kept_then driver on n d e f a b = record {
  follows = on d e f a.follows b.follows;
  stalls = omega (arith, a.stalls, b.stalls);
  sessions = b.sessions ∙ a.sessions;
  enqueued = omega (arith, a.enqueued, b.enqueued);
}

pub served_by : {C D : Type 0} (driver : Ghosts D C) (on : (d e f : D) → driver.follows d e → driver.follows e f → driver.follows d f) (sort : EventKind) (n r : ℕ) (p mid later q : QueuePair C D) (mine es : List (Event C)) (ops : List (Op C)) → Completed driver sort n p mid mine → Offered driver r mid later ops → Dealt es later q → Served driver es p mid q
served_by driver on sort n r p mid later q mine es ops a b c =
    let id : later.id ≡ p.id = b.id ∙ a.id in
    let w0 : length mid.waiting.ops ≡ length p.waiting.ops = ap (λ (z : Burst (Op _)). length z.ops) a.waiting in
    let w1 : length mid.waiting.ops ≡ length ops + length later.waiting.ops = ap length b.rest ∙ length-append ops later.waiting.ops in
    let w2 : length q.waiting.ops ≡ length later.waiting.ops + length (ops_for later.id es) = ap length c.waiting ∙ length-append later.waiting.ops (ops_for later.id es) in
    let w3 : length (ops_for later.id es) ≡ length (ops_for p.id es) = ap (λ i. length (ops_for i es)) id in
    record {
      accepted = length ops;
      before = a.kept.follows;
      after = rw c.dev b.takes.kept.follows;
      kept = rw c.dev (kept_then driver on (length ops) p.dev mid.dev later.dev a.kept b.takes.kept);
      counted = omega (arith, w0, w1, w2, w3);
    }

regroup : {X : Type 0} (s d a h o w t : List X) → ((s ++ d) ++ ((a ++ h) ++ (o ++ w))) ++ t ≡ s ++ ((d ++ a) ++ ((h ++ o) ++ (w ++ t)))
regroup s d a h o w t = simp append_assoc refl

line_kept : {X : Type 0} (e0 e1 hp hm hq wp wl wq s d a o t : List X) → e0 ≡ s ++ d → e1 ≡ d ++ a → hp ≡ a ++ hm → hq ≡ hm ++ o → wp ≡ o ++ wl → wq ≡ wl ++ t → (e0 ++ (hp ++ wp)) ++ t ≡ s ++ (e1 ++ (hq ++ wq))
line_kept e0 e1 hp hm hq wp wl wq s d a o t f g h i j k = rw (f, g, h, i, j, k) (regroup s d a hm o wl t)

pub order_kept : {C D : Type 0} (driver : Ghosts D C) (keeps : (d e : D) → driver.follows d e → driver.ordered d → driver.ordered e) (sort : EventKind) (n r m : ℕ) (p mid later q : QueuePair C D) (mine es out0 out1 answers others : List (Event C)) (ops : List (Op C)) → Completed driver sort n p mid mine → Offered driver r mid later ops → Dealt es later q → entries_for p.id answers ≡ map entry_in mine → entries_for p.id others ≡ [] → out1 ≡ (drop m out0 ++ answers) ++ others → KeepsOrder driver (take m out0) es out0 out1 p q
order_kept {C} {D} driver keeps sort n r m p mid later q mine es out0 out1 answers others ops a b c own none all = λ ordered.
    let id : later.id ≡ p.id = b.id ∙ a.id in
    let at : q.id ≡ p.id = c.id ∙ id in
    let E = λ (l : List (Event C)). entries_for p.id l in
    let sent : E out0 ≡ E (take m out0) ++ E (drop m out0) = ap E (sym (take-append-drop m out0)) ∙ entries_more p.id (take m out0) (drop m out0) in
    let left : E (drop m out0 ++ answers) ≡ E (drop m out0) ++ map entry_in mine = entries_more p.id (drop m out0) answers ∙ ap (λ l. E (drop m out0) ++ l) own in
    let kept : E out1 ≡ E (drop m out0) ++ map entry_in mine =
    ap E all ∙ (entries_more p.id (drop m out0 ++ answers) others ∙ (ap (λ l. E (drop m out0 ++ answers) ++ l) none ∙ (append-nil (E (drop m out0 ++ answers)) ∙ left))) in
    let out : entries_for q.id out1 ≡ E (drop m out0) ++ map entry_in mine = ap (λ i. entries_for i out1) at ∙ kept in
    let held : driver.held q.dev ≡ driver.held mid.dev ++ map entry_of ops = ap driver.held c.dev ∙ b.takes.in_order (keeps p.dev mid.dev a.kept.follows ordered) in
    let before : map entry_of p.waiting.ops ≡ map entry_of ops ++ map entry_of later.waiting.ops =
    ap (λ (z : Burst (Op _)). map entry_of z.ops) (sym a.waiting) ∙ (ap (map entry_of) b.rest ∙ map-append entry_of ops later.waiting.ops) in
    let after : map entry_of q.waiting.ops ≡ map entry_of later.waiting.ops ++ E es =
    ap (map entry_of) c.waiting ∙ (map-append entry_of later.waiting.ops (ops_for later.id es) ∙ ap (λ i. map entry_of later.waiting.ops ++ entries_for i es) id) in
    line_kept (E out0) (entries_for q.id out1) (driver.held p.dev) (driver.held mid.dev) (driver.held q.dev) (map entry_of p.waiting.ops) (map entry_of later.waiting.ops) (map entry_of q.waiting.ops)
    (E (take m out0)) (E (drop m out0)) (map entry_in mine) (map entry_of ops) (E es) sent out (a.in_order ordered) held before after

pub served_at : {C D : Type 0} (driver : Ghosts D C) (on : (d e f : D) → driver.follows d e → driver.follows e f → driver.follows d f) (sort : EventKind) (room : ℕ) (ps mids laters qs : List (QueuePair C D)) (es answers : List (Event C)) (ops : List (Op C)) → Along (Completed driver sort) room ps mids answers → Along (Offered driver) 0 mids laters ops → Each (Dealt es) laters qs → (k : ℕ) (d : QueuePair C D) → k < length ps → Served driver es (get_or ps k d) (get_or mids k d) (get_or qs k d)
served_at driver on sort room ps mids laters qs es answers ops a b c k d h =
    let la = along_length (Completed driver sort) room ps mids answers a in
    let lb = along_length (Offered driver) 0 mids laters ops b in
    let x = along_at (Completed driver sort) room ps mids answers k d h a in
    let y = along_at (Offered driver) 0 mids laters ops k d (omega (arith, h, la)) b in
    served_by driver on sort x.0 y.0 (get_or ps k d) (get_or mids k d) (get_or laters k d) (get_or qs k d) x.1 es y.1 x.2 y.2 (c.1 k d (omega (arith, h, la, lb)))

pub order_each : {C D : Type 0} (driver : Ghosts D C) (keeps : (d e : D) → driver.follows d e → driver.ordered d → driver.ordered e) (sort : EventKind) (room m : ℕ) (ps mids laters qs : List (QueuePair C D)) (es out0 out1 answers : List (Event C)) (ops : List (Op C)) → IsDistinct (ids ps) → Along (Completed driver sort) room ps mids answers → Along (Offered driver) 0 mids laters ops → Each (Dealt es) laters qs → out1 ≡ (drop m out0 ++ answers) ++ strangers ps es → Each (KeepsOrder driver (take m out0) es out0 out1) ps qs
order_each driver keeps sort room m ps mids laters qs es out0 out1 answers ops apart a b c all =
    let la = along_length (Completed driver sort) room ps mids answers a in
    let lb = along_length (Offered driver) 0 mids laters ops b in (
      c.0 ∙ (lb ∙ la),
      λ k d h.
          let p = get_or ps k d in
          let x = answers_at driver sort room ps mids answers k d h apart a in
          let y = along_at (Offered driver) 0 mids laters ops k d (omega (arith, h, la)) b in
          let known : is_known ps p.id ≡ true = known_at ps p.id k p h (get_or_default ps k d p h) refl in
          order_kept driver keeps sort x.0 y.0 m p (get_or mids k d) (get_or laters k d) (get_or qs k d) x.1 es out0 out1 answers (strangers ps es) y.1 x.2 y.2 (c.1 k d (omega (arith, h, la, lb))) x.3
          (strangers_none ps p.id es known) all,
    )
