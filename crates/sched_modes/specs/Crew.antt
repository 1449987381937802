-- What a call of a scheduler does with its workers, who are seen as plain data.
use Rattle.std.specs.Prelude.{◌≡◌, ℕ, zero, suc, ◌+◌, ◌-◌, ◌%◌, ◌^◌, ◌<◌, ◌≤◌, ◌==◌, min, List, [], ◌∷◌, ◌++◌, length, map, take, drop, nat_lt, Option, None, Some, option_map, slice_get, slice_index_or, if◌then◌else◌}
use Rattle.std.specs.List.{filter, sum_by}
use Rattle.crypto_model.specs.Counts.{capped, Rose}
use Rattle.dev_core.specs.declared.driver.LogEntry.{LogEntry}
use Rattle.dev_core.specs.declared.driver.Driver.{Ghosts}
use Rattle.dev_core.specs.Calls.{Call, Offers, Asks}
use Rattle.sched_core.specs.Logged.{renumbered}

-- a worker, as far as a flow of calls speaks of it
pub record Account : Type 0 where
  pub held : ℕ
  pub room : Option ℕ
  pub stalls : ℕ
  pub enqueued : ℕ
  pub log : Option (List LogEntry)

abbrev pub account : {C D : Type 0} → Ghosts D C → D → Account
account m d = record { held = length (m.held d); room = m.room d; stalls = m.stalls d; enqueued = (m.stats d).enqueued; log = m.log d }

abbrev pub nobody : Account
nobody = record { held = 0; room = None; stalls = 0; enqueued = 0; log = None }

-- an order ring: its capacity, how many slots it has, and the number that the next one gets
pub record Places : Type 0 where
  pub cap : ℕ
  pub slots : ℕ
  pub next : ℕ

-- whose turn it is, the workers, and the order ring, if there is one
pub record Crew : Type 0 where
  pub turn : ℕ
  pub workers : List Account
  pub ring : Option Places

abbrev pub worker : Crew → ℕ → Account
worker c k = slice_index_or c.workers k nobody

-- how often the workers have stalled together
abbrev pub stalls_of : Crew → ℕ
stalls_of c = capped (sum_by (λ a. a.stalls) c.workers)

-- of n offered, as many as the ring has places for
abbrev pub free : Option Places → ℕ → ℕ
free None n = n
free (Some p) n = min n (p.cap - p.slots)

-- what a worker's log shows of these operations
abbrev pub told : Option Places → List LogEntry → List LogEntry
told None es = es
told (Some p) es = renumbered p.next es

-- the ring has n slots more
abbrev pub Grew : ℕ → Option Places → Option Places → Type 0
Grew n None new = new ≡ None
Grew n (Some p) None = ⊥
Grew n (Some p) (Some q) = (q.cap ≡ p.cap) × (q.slots ≡ p.slots + n) × (q.next ≡ (p.next + n) % 2 ^ 64)

-- no slot was opened
abbrev pub Kept : Option Places → Option Places → Type 0
Kept None new = new ≡ None
Kept (Some p) None = ⊥
Kept (Some p) (Some q) = (q.cap ≡ p.cap) × (q.next ≡ p.next)

abbrev pub IsEmptyRing : Option Places → Type 0
IsEmptyRing None = Unit {0}
IsEmptyRing (Some p) = p.slots ≡ 0

-- a told room stays told, and with what is held stays the same number
abbrev pub RoomKept : Account → Account → Type 0
RoomKept old new = (r : ℕ) → old.room ≡ Some r → (s : ℕ) × (new.room ≡ Some s) × (s + new.held ≡ r + old.held)

-- a worker took these operations, and may have given some back
pub record Took (ops : List LogEntry) (old new : Account) : Type 0 where
  pub stalls : old.stalls ≤ new.stalls
  pub enqueued : capped new.enqueued ≡ capped (old.enqueued + length ops)
  pub log : new.log ≡ option_map (λ l. l ++ ops) old.log
  pub room : RoomKept old new

-- the sum of f below n
abbrev pub total : ℕ → (ℕ → ℕ) → ℕ
total zero f = 0
total (suc n) f = total n f + f n

-- each worker took its part of n operations
pub record DealsOut (parts : ℕ → List LogEntry) (n : ℕ) (old new : Crew) : Type 0 where
  pub len : length new.workers ≡ length old.workers
  pub each : (k : ℕ) → k < length old.workers → Took (parts k) (worker old k) (worker new k)
  pub sum : total (length old.workers) (λ k. length (parts k)) ≡ n

-- A worker with a told room that was offered so many took n of them: no more than its room, and fewer than it had room
-- for only where it stalled.
abbrev pub IsCause : ℕ → ℕ → Account → Account → Type 0
IsCause offered n old new = (r : ℕ) → old.room ≡ Some r → (n ≤ r) × (n < min offered r → Rose old.stalls new.stalls)

-- these for worker t, and none for the others
abbrev pub only_for : ℕ → List LogEntry → ℕ → List LogEntry
only_for t ops k = if k == t then ops else []

abbrev pub next : ℕ → ℕ → ℕ
next workers turn = if nat_lt (turn + 1) workers then turn + 1 else 0

-- whose turn it is behind a call with a burst of this length
abbrev pub turned : ℕ → ℕ → ℕ → ℕ
turned workers turn zero = turn
turned workers turn (suc n) = next workers turn

-- round-robin: the worker whose turn it is takes them, and the turn moves where there were any
pub record RoundOffers (old : Crew) (ops : List LogEntry) (n : ℕ) (new : Crew) : Type 0 where
  pub deals : DealsOut (only_for old.turn (told old.ring (take n ops))) n old new
  pub most : n ≤ free old.ring (length ops)
  pub ring : Grew n old.ring new.ring
  pub within : old.turn < length old.workers
  pub cause : IsCause (free old.ring (length ops)) n (worker old old.turn) (worker new old.turn)
  pub turn : new.turn ≡ turned (length old.workers) old.turn (length ops)

-- by packet size: worker 0 for data of at least so many bytes, and worker 1 for shorter data
abbrev pub size_worker : ℕ → ℕ → ℕ
size_worker threshold n = if nat_lt n threshold then 1 else 0

abbrev pub of_size : ℕ → ℕ → List LogEntry → List LogEntry
of_size threshold k ops = filter (λ e. k == size_worker threshold e.data_len) ops

-- one, where the two are the same
abbrev pub one_at : ℕ → ℕ → ℕ
one_at j k = if k == j then 1 else 0

-- how many of these lengths are worker k's
abbrev pub share : ℕ → ℕ → List ℕ → ℕ
share threshold k [] = 0
share threshold k (l ∷ ls) = one_at (size_worker threshold l) k + share threshold k ls

abbrev pub lengths : List LogEntry → List ℕ
lengths ops = map (λ e. e.data_len) ops

-- Each worker takes those of its sizes, as far as it has room. The worker of the first operation that is left had no room for it, or stalled.
pub record SizeOffers (threshold : ℕ) (old : Crew) (ops : List LogEntry) (n : ℕ) (new : Crew) : Type 0 where
  pub deals : DealsOut (λ k. of_size threshold k (told old.ring (take n ops))) n old new
  pub most : n ≤ free old.ring (length ops)
  pub ring : Grew n old.ring new.ring
  pub two : length old.workers ≡ 2
  pub rooms : (k r : ℕ) → k < 2 → (worker old k).room ≡ Some r
      → (share threshold k (lengths (take n ops)) ≤ r) × ((worker new k).room ≡ Some (r - share threshold k (lengths (take n ops))))
  pub cause : n < free old.ring (length ops) → (e : LogEntry) (r : ℕ) → slice_get ops n ≡ Some e
      → (worker new (size_worker threshold e.data_len)).room ≡ Some r → 0 < r
      → Rose (worker old (size_worker threshold e.data_len)).stalls (worker new (size_worker threshold e.data_len)).stalls

-- fail-over: worker 0 takes the first, and worker 1 the next
pub record FailOffers (old : Crew) (ops : List LogEntry) (n : ℕ) (new : Crew) : Type 0 where
  pub first : ℕ
  pub second : ℕ
  pub both : n ≡ first + second
  pub most : first + second ≤ free old.ring (length ops)
  pub deals : DealsOut (λ k. only_for 0 (take first (told old.ring (take n ops))) k ++ only_for 1 (drop first (told old.ring (take n ops))) k) n old new
  pub ring : Grew n old.ring new.ring
  pub two : length old.workers ≡ 2
  pub cause : IsCause (free old.ring (length ops)) first (worker old 0) (worker new 0)
  pub cause_behind : IsCause (free old.ring (length ops) - first) second (worker old 1) (worker new 1)

-- What is drawn from the workers. Where fewer came than were asked for, each worker that still holds something has
-- stalled, and where none holds anything the ring is empty.
pub record DrawsFrom (old : Crew) (most n : ℕ) (new : Crew) : Type 0 where
  pub deals : DealsOut (λ k. []) 0 old new
  pub turn : new.turn ≡ old.turn
  pub ring : Kept old.ring new.ring
  pub all_back : n < most → ((k : ℕ) → k < length old.workers → (worker new k).held ≡ 0) → IsEmptyRing new.ring
  pub emptied : n < most → (k : ℕ) → k < length old.workers → 0 < (worker new k).held → Rose (worker old k).stalls (worker new k).stalls

abbrev pub Does : (Crew → List LogEntry → ℕ → Crew → Type 0) → Crew → Call → Crew → Type 0
Does offers old (Offers ops n) new = offers old ops n new
Does offers old (Asks most n) new = DrawsFrom old most n new
