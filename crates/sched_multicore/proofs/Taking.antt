-- An operation that a worker takes from a slot into its burst.
use Rattle.std.proofs.Common.{arith, ◌≡◌, ℕ, List, [], ◌∷◌, ◌++◌, length, map, ap, sym, ◌∙◌, ◌%◌, ◌/◌, ◌<◌, subst, Some, append_assoc}
use Rattle.std.specs.Prelude.{slice_get, slice_set, slice_index_or}
use Rattle.std.specs.List.{All}
use Rattle.std.specs.List.Sorted.{IsPermutation}
use Rattle.std.proofs.lemmas.List.{map-append}
use Rattle.std.proofs.lemmas.List.Elements.{All-cons, All-append}
use Rattle.std.proofs.lemmas.List.Sorted.{IsPermutation-middle, IsPermutation-sym}
use Rattle.std.proofs.Math.Nat.{mod-lt}
use Rattle.crypto_model.specs.Process.{Transform}
use Rattle.crypto_op.specs.Op.{IsFresh, entry_of, moved_to}
use Rattle.flight_table.specs.Call.{Desk, Took}
use Rattle.flight_table.specs.Rule.{Flying}
use Rattle.sched_multicore.specs.Carry.{Carried, Parcel}
use Rattle.sched_multicore.specs.Laden.{Laden}
use Rattle.sched_multicore.specs.Sweep.{IsLater}
use Rattle.sched_multicore.specs.declared.carrier.Carrier.{Carrier}
use Rattle.sched_multicore.proofs.Carrying.{Lists, carried_more, carried_permutation, code_of, hand_of, lent_hand}
use Rattle.sched_multicore.proofs.Passing.{took_later}

-- one more at the burst's end
pushed : {X E : Type 0} (f : X → E) (xs : List X) (x : X) (held : List E) → IsPermutation (f x ∷ (map f xs ++ held)) (map f (xs ++ x ∷ []) ++ held)
pushed f xs x held =
    let e : map f (xs ++ x ∷ []) ++ held ≡ map f xs ++ f x ∷ held = ap (λ l. l ++ held) (map-append f xs (x ∷ [])) ∙ append_assoc (map f xs) (f x ∷ []) held in
    subst (λ l. IsPermutation (f x ∷ (map f xs ++ held)) l) (sym e) (IsPermutation-sym (map f xs ++ f x ∷ held) (f x ∷ (map f xs ++ held)) (IsPermutation-middle (map f xs) (f x) held))

-- the hand and the slot of a code
pub code_hand : (s : Carrier) (sessions : List (List Transform)) (held : List Parcel) (code : ℕ) → Laden sessions s held → code < length s.saved.items → code / s.slots < length s.hands.items
code_hand s sessions held code l lt = hand_of s.slots (length s.hands.items) code (subst (λ n. code < n) l.wide lt)

pub code_desk : (s : Carrier) (sessions : List (List Transform)) (held : List Parcel) (code : ℕ) (d : Desk) → Laden sessions s held → code < length s.saved.items
    → d ≡ slice_index_or s.hands.items (code / s.slots) d → slice_get s.hands.items (code / s.slots) ≡ Some d
code_desk s sessions held code d l lt e = lent_hand s.hands.items (code / s.slots) d (code_hand s sessions held code l lt) e

-- the hand after it took an operation
pub took_more : (d e : Desk) (k : ℕ) (op : Flying) → Took d k op e → IsLater d e × Lists k (Some op.cargo.number) d e × (e.view.finished ≡ d.view.finished)
took_more d e k op t =
    let l = took_later d e k t.number t.after in
    (l.0, subst (λ n. Lists k (Some n) d e) (sym t.waiting.0.1) l.1, l.2)

pub taken_in : (s : Carrier) (sessions : List (List Transform)) (held : List Parcel) (code : ℕ) (d e : Desk) (op : Flying) → Laden sessions s (map entry_of s.burst.ops ++ held)
    → slice_get s.hands.items (code / s.slots) ≡ Some d → Took d (code % s.slots) op e
    → Carried s.index s.slots sessions (slice_set s.hands.items (code / s.slots) e) (slice_set s.saved.items code op.spec.pos) (map entry_of (s.burst.ops ++ moved_to code op ∷ []) ++ held)
taken_in s sessions held code d e op l at t =
    let h = code / s.slots in
    let k = code % s.slots in
    let x = entry_of (moved_to code op) in
    let c = code_of s.slots code in
    let hands = slice_set s.hands.items h e in
    let more = carried_more s.index s.slots sessions h k s.hands.items s.saved.items (map entry_of s.burst.ops ++ held) d e op.spec.pos x l at (mod-lt code l.some) t.unlisted
    (took_more d e k op t).1 (sym c) t.waiting.0.0 t.waiting.0.2 in
    let here = subst (λ z. Carried s.index s.slots sessions hands (slice_set s.saved.items z op.spec.pos) (x ∷ (map entry_of s.burst.ops ++ held))) c more in
    carried_permutation s.index s.slots sessions hands (slice_set s.saved.items code op.spec.pos) (x ∷ (map entry_of s.burst.ops ++ held)) (map entry_of (s.burst.ops ++ moved_to code op ∷ []) ++ held)
    (pushed entry_of s.burst.ops (moved_to code op) held) here

pub all_fresh : (ops : List Flying) (op : Flying) (code : ℕ) → All IsFresh ops → IsFresh op → All IsFresh (ops ++ moved_to code op ∷ [])
all_fresh ops op code all fresh = All-append IsFresh ops (moved_to code op ∷ []) all
    (All-cons IsFresh (moved_to code op) [] (record { status = fresh.status; request = fresh.request }) (λ k d lt. absurd (omega (arith, lt))))
