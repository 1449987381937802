-- A scheduler over devices that tell their rooms says what it admits, and where that is nothing something is pending.
use Rattle.std.proofs.Common.{◌≡◌, ◌⊎◌, inl, inr, ℕ, zero, suc, Bool, true, false, ◌+◌, ◌-◌, ◌<◌, ◌≤◌, min, List, [], ◌∷◌, length, get_or, take, Option, None, Some, option_map, refl, ap, ◌∙◌, arith}
use Rattle.std.specs.Prelude.{nat_lt, if◌then◌else◌}
use Rattle.crypto_op.specs.Op.{Entry}
use Rattle.dev_core.specs.declared.driver.Driver.{Ghosts}
use Rattle.sched_core.specs.Pending.{IsRingSound, pending_of}
use Rattle.sched_core.specs.Ring.{Ring}
use Rattle.sched_core.specs.Stopped.{Stopped}
use Rattle.sched_core.specs.declared.ring.Slot.{Slot}
use Rattle.sched_core.proofs.Dealt.{some_at}
use Rattle.sched_modes.specs.Admits.{both, longest, longest_told, room_for}
use Rattle.sched_modes.specs.Crew.{account, free, one_at, size_worker, worker}
use Rattle.sched_modes.specs.Dealing.{AreUnused}
use Rattle.sched_modes.specs.Pool.{Follows, crew, held_in, pending_in}
use Rattle.sched_modes.specs.Running.{IsStarted, admits_by, crew_of, first_places, mode_of, pending, pool_of}
use Rattle.sched_modes.specs.Workers.{ring_cap, places}
use Rattle.sched_modes.specs.declared.pool.Pool.{Pool}
use Rattle.sched_modes.specs.declared.running.Running.{Running}
use Rattle.sched_modes.specs.declared.running.Running.TheVariants.{Round, Size, Fail}
use Rattle.sched_modes.proofs.Ahead.{length_pending}
use Rattle.sched_modes.proofs.Crews.{worker_at}
use Rattle.sched_modes.proofs.Held.{held_within, same_at}
use Rattle.sched_modes.proofs.Open.{length_held}

-- ---- a ring that is full, and a worker that is

held_pending : {C : Type 0} (ring : Option (Ring (Slot C))) (es : List (Entry C)) → IsRingSound ring es → 0 < length es → 0 < length (pending_of ring es)
held_pending None es sound some = some
held_pending (Some r) es sound some = omega (arith, length_held r es sound.0, length_pending r es sound, some)

cap_is : (ordering : Bool) (n cap : ℕ) → Some n ≡ (if ordering then Some cap else None) → n ≡ cap
cap_is true n cap e = cc
cap_is false n cap e = absurd (let x : Some n ≡ None = e in cc)

full_pending : {C : Type 0} (ring : Option (Ring (Slot C))) (es : List (Entry C)) (ordering : Bool) (cap n : ℕ) → IsRingSound ring es → ring_cap ring ≡ (if ordering then Some cap else None)
    → 0 < cap → 0 < n → free (places ring) n ≡ 0 → 0 < length (pending_of ring es)
full_pending None es ordering cap n sound is some asked none = absurd (omega (arith, asked, none))
full_pending (Some r) es ordering cap n sound is some asked none =
    omega (arith, length_pending r es sound, cap_is ordering r.cap cap is, some, asked, none)

first_cap : {C : Type 0} (ring : Option (Ring (Slot C))) (ordering : Bool) (cap : ℕ) → places ring ≡ first_places ordering cap → ring_cap ring ≡ (if ordering then Some cap else None)
first_cap None true cap e = absurd (let x : None ≡ Some _ = e in cc)
first_cap None false cap e = refl
first_cap (Some r) true cap e = ap (option_map (λ q. q.cap)) e
first_cap (Some r) false cap e = absurd (let x : Some _ ≡ None = e in cc)

-- ---- nothing is admitted

min_none : (a b : ℕ) → min a b ≡ 0 → (a ≡ 0) ⊎ (b ≡ 0)
min_none zero b e = inl refl
min_none (suc a) zero e = inr refl
min_none (suc a) (suc b) e = absurd (omega (arith, e))

none_picked : (x y : ℕ) → (if nat_lt 0 x then suc y else 0) ≡ 0 → x ≡ 0
none_picked zero y e = refl
none_picked (suc x) y e = grind arith

no_room : (j r s : ℕ) → room_for j r s ≡ 0 → (r ≡ 0) ⊎ (s ≡ 0)
no_room zero r s e = inl e
no_room (suc j) r s e = inr e

none_longest : (threshold r s : ℕ) (ls : List ℕ) → longest threshold r s ls ≡ 0 → (ls ≡ []) ⊎ ((r ≡ 0) ⊎ (s ≡ 0))
none_longest threshold r s [] e = inl refl
none_longest threshold r s (l ∷ ls) e =
    inr (no_room (size_worker threshold l) r s (none_picked (room_for (size_worker threshold l) r s)
    (longest threshold (r - one_at (size_worker threshold l) 0) (s - one_at (size_worker threshold l) 1) ls) e))

none_taken : (n : ℕ) (ls : List ℕ) → 0 < length ls → take n ls ≡ [] → n ≡ 0
none_taken zero ls some e = refl
none_taken (suc n) [] some e = absurd (omega (arith, some))
none_taken (suc n) (l ∷ ls) some e = absurd (let x : l ∷ take n ls ≡ [] = e in cc)

both_told : (a b : Option ℕ) (r s : ℕ) → a ≡ Some r → b ≡ Some s → both a b ≡ Some (r + s)
both_told a b r s e f = rw (e, f) refl

longest_is : (threshold : ℕ) (a b : Option ℕ) (r s : ℕ) (ls : List ℕ) → a ≡ Some r → b ≡ Some s → longest_told threshold a b ls ≡ Some (longest threshold r s ls)
longest_is threshold a b r s ls e f = rw (e, f) refl

-- ---- the workers of a scheduler that went on from its start

-- The k-th of the workers tells its room, and holds something where that is 0.
record TellsRoom {C D : Type 0} {m : Ghosts D C} (turn k : ℕ) (p : Pool C D m) : Type 0 where
  room : ℕ
  told : (worker (crew turn p) k).room ≡ Some room
  busy : room ≡ 0 → 0 < length (pending_in p)

tells_room : {C D : Type 0} {m : Ghosts D C} (p q : Pool C D m) (turn k : ℕ) → ((k : ℕ) (d : D) → k < p.workers → (account m (get_or p.devs.items k d)).room ≡ Some 128)
    → ((k : ℕ) (d : D) → k < p.workers → (account m (get_or p.devs.items k d)).held ≡ 0) → Follows p q → k < q.workers → TellsRoom turn k q
tells_room {m = m} p q turn k rooms idle f lt =
    let w : q.workers ≡ p.workers = f.went.workers in
    let within : q.workers ≤ length q.devs.items = omega (arith, q.sizes.1, q.devs.ok.0) in
    let below : k < length q.devs.items = omega (arith, lt, within) in
    let at = some_at q.devs.items k below in
    let d = at.0 in
    let old : k < p.workers = omega (arith, lt, w) in
    let took = (f.went.devs.each k d).took in
    let r = took.room 128 (rooms k d old) in
    let is = worker_at m q.workers q.devs.items k d lt within in
    let here : get_or q.devs.items k d ≡ d = same_at q.devs.items k d d below at.1 in
    record {
      room = r.0;
      told = ap (λ a. a.room) is ∙ r.1;
      busy = λ none.
          let few = held_within m.held q.devs.items q.workers k d lt below at.1 in
          let held : length (m.held (get_or q.devs.items k d)) ≡ length (m.held d) = ap (λ x. length (m.held x)) here in
          held_pending q.ring (held_in q) q.sound (omega (arith, few, held, r.2, none, idle k d old));
    }

-- what a scheduler admits, in each mode
pub never_idle : {C D : Type 0} {m : Ghosts D C} (s : Stopped D) (cap : ℕ) (first r : Running C D m) → IsStarted s cap first → 0 < cap → AreUnused m 128 s
    → Follows (pool_of first) (pool_of r) → (lens : List ℕ) → 0 < length lens
    → (a : ℕ) × (admits_by (mode_of r) (pool_of r).threshold (crew_of r) lens ≡ Some a) × (a ≡ 0 → 0 < length (pending r))
never_idle {C} {D} {m} s cap first r started some unused f lens asked = by_mode r f
  where
    devs : (pool_of first).devs.items ≡ s.devs
    devs = ap (λ (x : Stopped D). x.devs) started.stopped

    workers : (pool_of first).workers ≡ s.workers
    workers = ap (λ (x : Stopped D). x.workers) started.stopped

    rooms : (k : ℕ) (d : D) → k < (pool_of first).workers → (account m (get_or (pool_of first).devs.items k d)).room ≡ Some 128
    rooms k d lt = ap (λ ds. (account m (get_or ds k d)).room) devs ∙ (unused k d (omega (arith, lt, workers))).room

    idle : (k : ℕ) (d : D) → k < (pool_of first).workers → (account m (get_or (pool_of first).devs.items k d)).held ≡ 0
    idle k d lt = ap (λ ds. (account m (get_or ds k d)).held) devs ∙ (unused k d (omega (arith, lt, workers))).held

    full : (q : Pool C D m) (n : ℕ) → Follows (pool_of first) q → 0 < n → free (places q.ring) n ≡ 0 → 0 < length (pending_in q)
    full q n on asked none =
        full_pending q.ring (held_in q) s.ordering cap n q.sound (on.went.cap ∙ first_cap (pool_of first).ring s.ordering cap started.ring) some asked none

    by_mode : (r : Running C D m) → Follows (pool_of first) (pool_of r) → (a : ℕ) × (admits_by (mode_of r) (pool_of r).threshold (crew_of r) lens ≡ Some a) × (a ≡ 0 → 0 < length (pending r))
    by_mode (Round t) on =
        let one = tells_room (pool_of first) t.pool t.turn t.turn rooms idle on t.within in
        let n = free (places t.pool.ring) (length lens) in
        (min n one.room, ap (option_map (λ x. min n x)) one.told, λ none. elim (min_none n one.room none) [ inl a ↦ full t.pool (length lens) on asked a | inr b ↦ one.busy b ])
    by_mode (Size t) on =
        let one = tells_room (pool_of first) t.pool 0 0 rooms idle on (omega (arith, t.two)) in
        let two = tells_room (pool_of first) t.pool 0 1 rooms idle on (omega (arith, t.two)) in
        let n = free (places t.pool.ring) (length lens) in
        let ls = take n lens in (
          longest t.pool.threshold one.room two.room ls,
          longest_is t.pool.threshold _ _ one.room two.room ls one.told two.told,
          λ none. elim (none_longest t.pool.threshold one.room two.room ls none) [
            | inl a ↦ full t.pool (length lens) on asked (none_taken n lens asked a)
            | inr b ↦ elim b [ inl c ↦ one.busy c | inr c ↦ two.busy c ]
          ],
        )
    by_mode (Fail t) on =
        let one = tells_room (pool_of first) t.pool 0 0 rooms idle on (omega (arith, t.two)) in
        let two = tells_room (pool_of first) t.pool 0 1 rooms idle on (omega (arith, t.two)) in
        let n = free (places t.pool.ring) (length lens) in (
          min n (one.room + two.room),
          ap (option_map (λ x. min n x)) (both_told _ _ one.room two.room one.told two.told),
          λ none. elim (min_none n (one.room + two.room) none) [ inl a ↦ full t.pool (length lens) on asked a | inr b ↦ one.busy (omega (arith, b)) ],
        )
