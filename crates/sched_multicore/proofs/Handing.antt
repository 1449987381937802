-- An operation that a worker hands back to its slot.
use Rattle.std.proofs.Common.{arith, ◌≡◌, ℕ, List, ◌∷◌, length, refl, ap, sym, ◌∙◌, ◌%◌, ◌/◌, ◌<◌, subst, Some, None}
use Rattle.std.specs.Prelude.{slice_get, slice_set, slice_index_or}
use Rattle.std.proofs.Math.Nat.{mod-lt}
use Rattle.crypto_model.specs.Process.{Transform}
use Rattle.crypto_op.specs.Op.{IsDone, IsFresh, entry_of, moved_to}
use Rattle.flight_table.specs.Call.{Desk}
use Rattle.flight_table.specs.Rule.{Finished, Flying, Waiting}
use Rattle.flight_table.specs.View.{look}
use Rattle.sched_multicore.specs.Carry.{Carried, Parcel, drawn_as}
use Rattle.sched_multicore.specs.Laden.{Laden, SameCarrier}
use Rattle.sched_multicore.specs.declared.carrier.Carrier.{Carrier}
use Rattle.sched_multicore.proofs.Carrying.{Lists, any_default, carried_less, hand_of, lent_hand}
use Rattle.sched_multicore.proofs.Passing.{hands_on}

-- the code is that of a slot, whose hand is d
pub record IsAt (s : Carrier) (sessions : List (List Transform)) (x : Parcel) (d : Desk) : Type 0 where
  pub at : slice_get s.hands.items (x.pos / s.slots) ≡ Some d
  pub below : x.pos % s.slots < d.slots
  pub listed : look d.view.taken (x.pos % s.slots) ≡ Some x.cargo.number
  pub book : x.cargo.book ≡ d.view.about.table
  pub entry : x.cargo.entry ≡ Some (drawn_as x.request (slice_index_or s.saved.items x.pos 0))
  pub under : d.view.about.sessions ≡ sessions

pub code_within : (s : Carrier) (sessions : List (List Transform)) (x : Parcel) (rest : List Parcel) → Laden sessions s (x ∷ rest) → x.pos < length s.saved.items
code_within s sessions x rest l = subst (λ z. x.pos < z) (sym l.wide) (l.each 0 x (omega arith)).small

pub hand_within : (s : Carrier) (sessions : List (List Transform)) (x : Parcel) (rest : List Parcel) → Laden sessions s (x ∷ rest) → x.pos / s.slots < length s.hands.items
hand_within s sessions x rest l = hand_of s.slots (length s.hands.items) x.pos (l.each 0 x (omega arith)).small

pub is_at : (s : Carrier) (sessions : List (List Transform)) (x : Parcel) (rest : List Parcel) (d : Desk) → Laden sessions s (x ∷ rest)
    → d ≡ slice_index_or s.hands.items (x.pos / s.slots) d → IsAt s sessions x d
is_at s sessions x rest d l e =
    let at = lent_hand s.hands.items (x.pos / s.slots) d (hand_within s sessions x rest l) e in
    let z = l.sized (x.pos / s.slots) d at in
    let r = (l.each 0 x (omega arith)).listed d at in
    record {
      at = at;
      below = subst (λ n. x.pos % s.slots < n) (sym z.slots) (mod-lt x.pos l.some);
      listed = r.0;
      book = r.1;
      entry = r.2;
      under = z.sessions;
    }

-- its own pos is the one that is kept
own_pos : (s : Carrier) (sessions : List (List Transform)) (x : Parcel) (rest : List Parcel) (v : ℕ) → Laden sessions s (x ∷ rest) → v ≡ slice_index_or s.saved.items x.pos v
    → slice_index_or s.saved.items x.pos 0 ≡ v
own_pos s sessions x rest v l e = any_default s.saved.items x.pos 0 v (code_within s sessions x rest l) ∙ sym e

pub waits : (s : Carrier) (sessions : List (List Transform)) (op : Flying) (rest : List Parcel) (d : Desk) (v : ℕ) (o : Flying) → Laden sessions s (entry_of op ∷ rest)
    → IsAt s sessions (entry_of op) d → v ≡ slice_index_or s.saved.items op.spec.pos v → o ≡ moved_to v op → IsFresh op → Waiting d.view.about o.cargo.number o
waits s sessions op rest d v o l at e is fresh = subst (λ z. Waiting d.view.about z.cargo.number z) (sym is)
    ((at.book, refl, at.entry ∙ ap (λ z. Some (drawn_as (entry_of op).request z)) (own_pos s sessions (entry_of op) rest v l e)), record { status = fresh.status; request = fresh.request })

pub is_finished : (s : Carrier) (sessions : List (List Transform)) (op : Flying) (rest : List Parcel) (d : Desk) (v : ℕ) (o : Flying) → Laden sessions s (entry_of op ∷ rest)
    → IsAt s sessions (entry_of op) d → v ≡ slice_index_or s.saved.items op.spec.pos v → o ≡ moved_to v op → IsDone sessions op → Finished d.view.about o.cargo.number o
is_finished s sessions op rest d v o l at e is done = subst (λ z. Finished d.view.about z.cargo.number z) (sym is) (
  (at.book, refl, at.entry ∙ ap (λ z. Some (drawn_as (entry_of op).request z)) (own_pos s sessions (entry_of op) rest v l e)),
  subst (λ ss. IsDone ss (moved_to v op)) (sym at.under) (record { status = done.status; present = done.present }),
)

-- the hand has handed it on
pub handed_on : (s : Carrier) (sessions : List (List Transform)) (x : Parcel) (rest : List Parcel) (d e : Desk) → Laden sessions s (x ∷ rest)
    → d ≡ slice_index_or s.hands.items (x.pos / s.slots) d → Lists (x.pos % s.slots) None d e
    → Carried s.index s.slots sessions (slice_set s.hands.items (x.pos / s.slots) e) s.saved.items rest
handed_on s sessions x rest d e l is lists = carried_less s.index s.slots sessions s.hands.items s.saved.items rest d e x l (is_at s sessions x rest d l is).at lists

pub same_on : (a b c : Carrier) → SameCarrier a b → SameCarrier b c → SameCarrier a c
same_on a b c p q = record {
  hands = hands_on a.hands.items b.hands.items c.hands.items p.hands q.hands;
  codes = q.codes ∙ p.codes;
  cap = q.cap ∙ p.cap;
  slots = q.slots ∙ p.slots;
  index = q.index ∙ p.index;
}
