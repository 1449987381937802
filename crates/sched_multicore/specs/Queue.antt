-- What a queue pair keeps.
use Rattle.std.specs.Prelude.{◌≡◌, ℕ, zero, suc, ◌+◌, ◌-◌, ◌%◌, ◌<◌, ◌≤◌, ◌^◌, min, List, [], ◌∷◌, length, slice_set, slice_index_or, Bool, true, replicate}
use Rattle.atomic_table.specs.Seated.{TableId}
use Rattle.crypto_model.specs.Process.{Transform}
use Rattle.flight_table.specs.Note.{BookData}
use Rattle.flight_table.specs.View.{times}
use Rattle.flight_table.specs.Call.{Desk}
use Rattle.sched_multicore.specs.declared.place.Place.{Place}
use Rattle.sched_multicore.specs.Place.{Placing, NoneGone, outstanding}

pub record Queue (C : Type 0) : Type 0 where
  pub book : BookData
  pub desk : Desk
  pub places : List (Place C)
  -- the number of the first place
  pub first : ℕ
  pub quota : ℕ
  -- how many are outstanding, by worker
  pub loads : List ℕ
  pub turn : ℕ
  pub ordering : Bool
  pub helped : ℕ

-- What no call changes

pub record Setting : Type 0 where
  pub book : TableId
  pub sessions : List (List Transform)
  pub table : TableId
  pub slots : ℕ
  pub workers : ℕ
  pub quota : ℕ
  pub ordering : Bool

abbrev pub setting : {C : Type 0} → Queue C → Setting
setting q = record {
  book = q.book.table;
  sessions = q.book.sessions;
  table = q.desk.table;
  slots = q.desk.slots;
  workers = length q.loads;
  quota = q.quota;
  ordering = q.ordering;
}

-- Workers and their quotas

-- what the workers' quotas leave, together
abbrev pub spare : ℕ → List ℕ → ℕ
spare quota [] = 0
spare quota (l ∷ ls) = (quota - l) + spare quota ls

-- the workers from a on and before b have their quota
abbrev pub AreFull : ℕ → List ℕ → ℕ → ℕ → Type 0
AreFull quota loads a b = (v : ℕ) → a ≤ v → v < b → quota ≤ slice_index_or loads v 0

abbrev pub total : List ℕ → ℕ
total [] = 0
total (l ∷ ls) = l + total ls

-- so many operations left, and the workers' loads: a worker gets what its quota leaves
abbrev pub portion : ℕ → ℕ × List ℕ → ℕ → ℕ
portion quota s w = min s.0 (quota - slice_index_or s.1 w 0)

abbrev pub after_worker : ℕ → ℕ × List ℕ → ℕ → ℕ × List ℕ
after_worker quota s w = (s.0 - portion quota s w, slice_set s.1 w (slice_index_or s.1 w 0 + portion quota s w))

-- after so many workers from w on had theirs, one after another
abbrev pub after_workers : ℕ → ℕ → ℕ → ℕ × List ℕ → ℕ × List ℕ
after_workers quota w zero s = s
after_workers quota w (suc n) s = after_workers quota (suc w) n (after_worker quota s w)

-- the loads after all workers from the one whose turn it is had theirs of n operations
abbrev pub dealt : ℕ → ℕ → ℕ → List ℕ → List ℕ
dealt quota turn n loads = (after_workers quota 0 turn (after_workers quota turn (length loads - turn) (n, loads))).1

-- whose turn it is after a call that was offered so many
abbrev pub turn_after : ℕ → ℕ → ℕ → ℕ
turn_after turn workers zero = turn
turn_after turn workers (suc n) = (turn + 1) % workers

-- how many were collected of the first n workers
abbrev pub collected_of : List ℕ → ℕ → ℕ
collected_of l zero = 0
collected_of l (suc w) = times w l + collected_of l w

-- What always holds

-- the loads count what is outstanding, within the quota
abbrev pub Loaded : {C : Type 0} → ℕ → List ℕ → List (Place C) → Type 0
Loaded quota loads places = (w : ℕ) → w < length loads → (slice_index_or loads w 0 ≡ outstanding w places) × (slice_index_or loads w 0 ≤ quota)

pub record Sound {C : Type 0} (q : Queue C) : Type 0 where
  pub about : (q.desk.view.about.table ≡ q.book.table) × (q.desk.view.about.sessions ≡ q.book.sessions)
  pub workers : length q.loads ≡ q.desk.view.made
  pub sizes : (0 < q.desk.slots) × (q.desk.slots ≤ 4096) × (q.quota ≤ 4096)
      × (length q.loads ≤ 8) × (q.turn < length q.loads) × (length q.book.drawn ≤ 2 ^ 58)
  pub placing : Placing q.desk.slots q.first (length q.loads) q.book.sessions q.desk.view.given q.book.drawn q.places
  pub loaded : Loaded q.quota q.loads q.places
  pub order : q.ordering ≡ true → NoneGone q.places
  -- each number that was drawn was answered here, was collected, or is outstanding
  pub tally : q.helped + collected_of q.desk.view.collected (length q.loads) + total q.loads ≡ length q.book.drawn

-- At the beginning

pub record IsNewPair {C : Type 0} (workers quota slots : ℕ) (ordering : Bool) (sessions : List (List Transform)) (q : Queue C) : Type 0 where
  pub empty : (q.places ≡ []) × (q.book.drawn ≡ []) × (q.helped ≡ 0)
  pub sizes : (q.desk.slots ≡ slots) × (q.quota ≡ quota) × (q.ordering ≡ ordering) × (q.turn ≡ 0)
  pub loads : q.loads ≡ replicate workers 0
  pub for_sessions : q.book.sessions ≡ sessions
  pub of_book : q.desk.view.about ≡ q.book

-- Hands

-- a hand's table and worker
pub record Key : Type 0 where
  pub table : TableId
  pub worker : ℕ

abbrev pub key_of : Desk → Key
key_of d = record { table = d.table; worker = d.view.worker }

-- the keys of so many workers of a table, from one on
abbrev pub keys_from : TableId → ℕ → ℕ → List Key
keys_from t w zero = []
keys_from t w (suc n) = record { table = t; worker = w } ∷ keys_from t (suc w) n

abbrev pub finished_of : Desk → ℕ
finished_of d = d.view.finished
