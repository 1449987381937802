-- What a pull does.
use Rattle.std.proofs.Common.{◌≡◌, ℕ, ◌+◌, ◌%◌, ◌^◌, ◌==◌, ◌<◌, ◌≤◌, List, [], ◌∷◌, ◌++◌, length, map, take, Option, None, Some, refl, ap, arith, length-append, inl, inr}
use Rattle.std.specs.List.{count_by}
use Rattle.std.specs.List.Sorted.{IsPermutation}
use Rattle.std.proofs.lemmas.Bool.Decides.{eqb_tells}
use Rattle.std.proofs.lemmas.List.{nil_from_length}
use Rattle.std.proofs.lemmas.List.Sorted.{length_permutation}
use Rattle.crypto_model.specs.Counts.{Rose, capped}
use Rattle.crypto_op.specs.Op.{Entry}
use Rattle.dev_core.specs.declared.driver.Driver.{Ghosts}
use Rattle.sched_core.specs.declared.ring.Slot.{Slot}
use Rattle.sched_core.specs.declared.ring.Slot.TheVariants.{Open, Settled}
use Rattle.sched_core.specs.Ring.{Ring}
use Rattle.sched_core.specs.Pending.{IsRingSound, open_numbers, pending_of, times}
use Rattle.sched_core.proofs.Lookup.{count-cons, is_one}
use Rattle.sched_modes.specs.Crew.{DrawsFrom, IsEmptyRing, Kept, account, stalls_of}
use Rattle.sched_modes.specs.Laws.{total_none}
use Rattle.sched_modes.specs.Workers.{EachStalled, NotReady, Serves, StopIs, places, stop_after, together}
use Rattle.sched_modes.proofs.Ahead.{nothing_pending, open_front}
use Rattle.sched_modes.proofs.Crews.{count_workers, crew_stalls, deals_out, none_holds, of_worker, some_holds}

no_slots : {C : Type 0} (r : Ring (Slot C)) (slots : List (Slot C)) (es : List (Entry C)) → r ≡ record { cap = r.cap; first = r.first; slots = slots } → length es ≡ 0 → IsRingSound (Some r) es → NotReady (Some r) → length r.slots ≡ 0
no_slots r [] es e l s n = ap (λ (x : Ring _). length x.slots) e
no_slots r (Open saved ∷ slots) es e l s n =
    let m = r.first % 2 ^ 64 in
    let own = count-cons (λ z. z == m) m (open_numbers (r.first + 1) slots) in
    let once = is_one m m refl in
    let here : times m (open_numbers r.first r.slots) ≡ times m (m ∷ open_numbers (r.first + 1) slots) = ap (λ (x : Ring _). times m (open_numbers r.first x.slots)) e in
    let none : count_by (λ (x : Entry _). x.pos == m) es ≡ 0 = ap (count_by (λ (x : Entry _). x.pos == m)) (nil_from_length es l) in
    absurd (omega (arith, own, once, here, none, s.0 m))
no_slots r (Settled op ∷ slots) es e l s n = absurd (n (ap (λ (x : Ring _). Rattle.sched_core.specs.Ring.front_of x) e))

-- where the workers hold nothing and the front isn't settled, the ring is empty
pub ring_empty : {C : Type 0} (ring : Option (Ring (Slot C))) (es : List (Entry C)) → length es ≡ 0 → IsRingSound ring es → NotReady ring → IsEmptyRing (places ring)
ring_empty None es l s n = tt
ring_empty (Some r) es l s n = no_slots r r.slots es refl l s n

pub draws_from : {C D : Type 0} (m : Ghosts D C) (w t asked n : ℕ) (devs devs' : List D) (ring ring' : Option (Ring (Slot C))) → w ≤ length devs → Serves m (λ k. []) w devs devs' → Kept (places ring) (places ring')
    → (n < asked → EachStalled m w devs devs') → IsRingSound ring' (together m w devs') → (n < asked → NotReady ring')
    → DrawsFrom (record { turn = t; workers = map (account m) (take w devs); ring = places ring }) asked n (record { turn = t; workers = map (account m) (take w devs'); ring = places ring' })
draws_from m w t asked n devs devs' ring ring' within s kept stalled sound front =
    let count = count_workers m w devs within in
    record {
      deals = deals_out m (λ k. []) 0 w devs devs' t t (places ring) (places ring') within s (total_none w);
      turn = refl;
      ring = kept;
      all_back = λ less none. ring_empty ring' (together m w devs') (none_holds m w devs' (omega (arith, within, s.len)) (λ k lt. none k (omega (arith, lt, count)))) sound (front less);
      emptied = λ less k lt.
          let i : k < w = omega (arith, lt, count) in
          of_worker m w devs devs' (λ a b. 0 < b.held → Rose a.stalls b.stalls) k i within s.len (λ d. stalled less k d i);
    }

-- fewer came than were pending and asked for only where a worker stalled
pub draws_less : {C D : Type 0} (m : Ghosts D C) (w t asked n : ℕ) (devs devs' : List D) (ring ring' : Option (Ring (Slot C))) (out pend : List (Entry C)) → w ≤ length devs → Serves m (λ k. []) w devs devs' → Kept (places ring) (places ring')
    → (n < asked → EachStalled m w devs devs') → IsRingSound ring' (together m w devs') → (n < asked → NotReady ring') → IsPermutation (out ++ pending_of ring' (together m w devs')) pend → length out ≡ n → n < asked → n < length pend
    → Rose (stalls_of (record { turn = t; workers = map (account m) (take w devs); ring = places ring })) (stalls_of (record { turn = t; workers = map (account m) (take w devs'); ring = places ring' }))
draws_less m w t asked n devs devs' ring ring' out pend within s kept stalled sound front p len less fewer =
    let d = draws_from m w t asked n devs devs' ring ring' within s kept stalled sound front in
    let es = together m w devs' in
    let some : 0 < length es = elim (eqb_tells (length es) 0) [
      | inl none ↦ absurd (omega (arith, ap length (nothing_pending ring' es none.1 sound (front less)), length_permutation (out ++ pending_of ring' es) pend p, length-append out (pending_of ring' es), len, fewer))
      | inr more ↦ (let k = more.1 in omega (arith, k))
    ] in
    let h = some_holds m w devs' some in
    let lt : h.0 < w = h.1 in
    crew_stalls (λ k. []) 0 _ _ h.0 d.deals (omega (arith, lt, count_workers m w devs within))
    (of_worker m w devs devs' (λ a b. Rose a.stalls b.stalls) h.0 lt within s.len (λ x. stalled less h.0 x lt (h.3 x)))

-- why a pull of n ended
pub stop_is : {C : Type 0} (ring : Option (Ring (Slot C))) (es : List (Entry C)) (n asked left : ℕ) → n ≤ asked → left ≡ capped (length es) → IsRingSound ring es → (n < asked → NotReady ring) → StopIs (stop_after n asked left) n asked (pending_of ring es) es
stop_is ring es n asked left within is sound front = elim (eqb_tells n asked) [
  | inl e ↦ rw e.0 e.1
  | inr f ↦
      let less : n < asked = (let d = f.1 in omega (arith, within, d)) in
      elim (eqb_tells left 0) [
        | inl e ↦ rw (f.0, e.0) (less, nothing_pending ring es (let z = e.1 in omega (arith, z, is)) sound (front less))
        | inr g ↦
            let some : 0 < left = (let d = g.1 in omega (arith, d)) in
            rw (f.0, g.0) (less, some, is, (open_front ring es (omega (arith, some, is)) sound (front less)).1)
      ]
]
