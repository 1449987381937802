-- A run whose operations one device does alone.
use Rattle.std.proofs.Common.{◌≡◌, ℕ, zero, suc, ◌+◌, ◌-◌, ◌<◌, ◌≤◌, min, List, [], ◌∷◌, length, get_or, set, map, Option, None, Some, refl, ap, subst, ◌∙◌, arith, length-take}
use Rattle.std.specs.Prelude.{option_map}
use Rattle.std.proofs.lemmas.List.{take_all}
use Rattle.dev_core.specs.declared.driver.LogEntry.{LogEntry}
use Rattle.dev_core.specs.Calls.{Call}
use Rattle.session_file.specs.declared.plan.Plan.{Plan}
use Rattle.packet_plan.specs.Asked.{sessions_of}
use Rattle.sched_modes.specs.Crew.{total}
use Rattle.sched_modes.specs.Dealing.{IsFrontOf}
use Rattle.capcrypt.specs.declared.ending.Ending.{Ending}
use Rattle.capcrypt.specs.declared.dealing.Dealing.TheVariants.{Alone}
use Rattle.capcrypt.specs.Devices.{DeviceNow, HasStalledOut, HaveStalledOut, at, taken_together}
use Rattle.capcrypt.specs.Served.{HasServed, HaveServed, WasSetUp}
use Rattle.capcrypt.specs.Ran.{IsDecided, IsDriven}

-- a driver whose room is told says what it admits, and where that is nothing it holds something
pub never_idle : (admits : Option ℕ) (len limit held : ℕ) → 0 < len → limit ≡ 128 → admits ≡ Some (min len (limit - held)) → (a : ℕ) × (admits ≡ Some a) × (a ≡ 0 → 0 < held)
never_idle admits len limit held some depth told = (min len (limit - held), told, λ none. omega (arith, none, some, depth))

total_one : (g : ℕ → ℕ) → total 1 g ≡ g 0
total_one g = let e : 0 + g 0 ≡ g 0 = omega arith in e

-- whatever is so of device 0 is so of each used device
only_first : (P : ℕ → Type 0) → P 0 → (i : ℕ) → i < 1 → P i
only_first P first zero below = first
only_first P first (suc i) below = absurd (omega (arith, below))

map_twice : {X : Type 0} (x y : X) (o : Option X) → option_map (λ a. x) (option_map (λ a. y) o) ≡ option_map (λ a. x) o
map_twice x y None = refl
map_twice x y (Some a) = refl

-- what the log told before it was emptied
pub told_since : (taken : List LogEntry) (now emptied log : Option (List LogEntry)) → emptied ≡ option_map (λ l. []) log → now ≡ option_map (λ l. taken) emptied
    → now ≡ option_map (λ l. taken) log
told_since taken now emptied log is told = told ∙ ap (option_map (λ l. taken)) is ∙ map_twice taken [] log

-- a front that is as long as the list is the list
whole_front : (ops taken : List LogEntry) → IsFrontOf ops taken → length taken ≡ length ops → taken ≡ ops
whole_front ops taken front same = front.1 ∙ take_all front.0 ops (omega (arith, same, ap length front.1, length-take front.0 ops))

pub short_front : (ops taken : List LogEntry) → IsFrontOf ops taken → length taken ≤ length ops
short_front ops taken front = omega (arith, ap length front.1, length-take front.0 ops)

-- a device that is as it was is put back
pub set_first : {D : Type 0} (xs : List D) (d : D) → d ≡ get_or xs 0 d → set xs 0 d ≡ xs
set_first [] d is = refl
set_first (x ∷ xs) d is = ap (λ y. y ∷ xs) is

module _ (plan : Plan) (burst : ℕ) (ops : List LogEntry) (e : Ending) (past : List Call) (b mid d : DeviceNow) (bs ds : List DeviceNow) (drv : IsDriven burst ops e past d.enqueued mid.log d.log) where
  counted : d.enqueued ≡ length drv.taken
  counted = omega (arith, drv.enqueued_is, drv.few, short_front ops drv.taken drv.front)

  -- the first of some devices was made ready, and took what the calls gave
  pub first_served : WasSetUp plan b mid → d.depth ≡ 128 → d.sessions ≡ sessions_of plan
      → HaveServed (record { plan = plan; burst = burst; dealing = Alone }) ops (b ∷ bs) (d ∷ ds)
  first_served ready depth sessions = record {
    given = λ k. drv.taken;
    each = only_first (λ k. HasServed plan drv.taken (at (b ∷ bs) k).log (at (d ∷ ds) k))
        (record { depth = depth; sessions = sessions; enqueued = counted; log = told_since drv.taken d.log mid.log b.log ready.served.log drv.log_is });
    few = omega (arith, total_one (λ i. (at (d ∷ ds) i).enqueued), counted, short_front ops drv.taken drv.front);
    fronts = λ known k below. drv.front;
    whole = λ known all k below. whole_front ops drv.taken drv.front (omega (arith, total_one (λ i. (at (d ∷ ds) i).enqueued), counted, all));
  }

  pub first_whole : IsDecided e → taken_together 1 (d ∷ ds) ≡ length ops
  first_whole decided = omega (arith, total_one (λ i. (at (d ∷ ds) i).enqueued), counted, ap length (drv.whole decided))

-- the same, where the devices stand in a list
module _ {D : Type 0} (f : D → DeviceNow) (plan : Plan) (burst : ℕ) (ops : List LogEntry) (e : Ending) (past : List Call) (x mid d : D) where
  pub alone_served : (xs : List D) → 0 < length xs → IsDriven burst ops e past (f d).enqueued (f mid).log (f d).log → WasSetUp plan (f (get_or xs 0 x)) (f mid) → (f d).depth ≡ 128
      → (f d).sessions ≡ sessions_of plan → HaveServed (record { plan = plan; burst = burst; dealing = Alone }) ops (map f xs) (map f (set (set xs 0 mid) 0 d))
  alone_served [] some drv ready depth sessions = absurd (omega (arith, some))
  alone_served (y ∷ ys) some drv ready depth sessions = first_served plan burst ops e past (f y) (f mid) (f d) (map f ys) (map f ys) drv ready depth sessions

  pub alone_whole : (xs : List D) → 0 < length xs → IsDriven burst ops e past (f d).enqueued (f mid).log (f d).log → IsDecided e
      → taken_together 1 (map f (set (set xs 0 mid) 0 d)) ≡ length ops
  alone_whole [] some drv decided = absurd (omega (arith, some))
  alone_whole (y ∷ ys) some drv decided = first_whole plan burst ops e past (f y) (f mid) (f d) (map f ys) (map f ys) drv decided

-- what the first of them suffered, those that are used have suffered together
pub alone_stalled : {D : Type 0} (f : D → DeviceNow) (x mid d : D) (xs : List D) → 0 < length xs → (f mid).stalls ≡ (f (get_or xs 0 x)).stalls
    → HasStalledOut (f mid).stalls (f d).enqueued (f d).stalls → HaveStalledOut 1 (map f xs) (map f (set (set xs 0 mid) 0 d))
alone_stalled f x mid d [] some same out = absurd (omega (arith, some))
alone_stalled f x mid d (y ∷ ys) some same out =
    let before = map f (y ∷ ys) in
    let now = map f (set (set (y ∷ ys) 0 mid) 0 d) in
    rw (total_one (λ i. (at before i).stalls), total_one (λ i. (at now i).enqueued), total_one (λ i. (at now i).stalls))
    (subst (λ (n : ℕ). HasStalledOut n (f d).enqueued (f d).stalls) same out)
