-- A pool of workers.
use Rattle.std.specs.Prelude.{◌≡◌, ℕ, ◌+◌, is_some, List, map, length, take}
use Rattle.std.specs.Arc.{arc_value}
use Rattle.crypto_model.specs.Counts.{capped}
use Rattle.crypto_op.specs.Op.{Entry}
use Rattle.dev_core.specs.declared.driver.Driver.{Ghosts}
use Rattle.dev_core.specs.declared.driver.LogEntry.{LogEntry}
use Rattle.sched_core.specs.declared.mode.Mode.{Mode}
use Rattle.sched_core.specs.Stopped.{Stopped}
use Rattle.sched_modes.specs.Crew.{Crew, account, stalls_of, total}
use Rattle.sched_modes.specs.Workers.{together, pending_with, places, ring_cap, Serves}
use Rattle.sched_modes.specs.declared.pool.Pool.{Pool}

-- what its workers hold
abbrev pub held_in : {C D : Type 0} {m : Ghosts D C} → Pool C D m → List (Entry C)
held_in {m = m} p = together m p.workers p.devs.items

-- what is pending: with a ring in the order of its slots
abbrev pub pending_in : {C D : Type 0} {m : Ghosts D C} → Pool C D m → List (Entry C)
pending_in {m = m} p = pending_with m p.ring p.workers p.devs.items

-- its workers as plain data, where this is whose turn it is
abbrev pub crew : {C D : Type 0} {m : Ghosts D C} → ℕ → Pool C D m → Crew
crew {m = m} turn p = record { turn = turn; workers = map (account m) (take p.workers p.devs.items); ring = places p.ring }

abbrev pub stalls_in : {C D : Type 0} {m : Ghosts D C} → Pool C D m → ℕ
stalls_in p = stalls_of (crew 0 p)

-- what it is made of, once it is stopped
abbrev pub stopped : {C D : Type 0} {m : Ghosts D C} → Mode → Pool C D m → Stopped D
stopped mode p = record {
  mode = mode;
  ordering = is_some p.ring;
  threshold = p.threshold;
  sessions = arc_value p.sessions;
  devs = p.devs.items;
  workers = p.workers;
}

-- each worker went on, and took its part
pub record WentOn {C D : Type 0} {m : Ghosts D C} (parts : ℕ → List LogEntry) (p q : Pool C D m) : Type 0 where
  pub workers : q.workers ≡ p.workers
  pub threshold : q.threshold ≡ p.threshold
  pub sessions : q.sessions ≡ p.sessions
  pub cap : ring_cap q.ring ≡ ring_cap p.ring
  pub devs : Serves m parts p.workers p.devs.items q.devs.items

-- What burst calls keep. For some lists of operations, each worker went on and took its own, and the lengths of these lists
-- together are what its own count of enqueued operations rose by.
pub record Follows {C D : Type 0} {m : Ghosts D C} (p q : Pool C D m) : Type 0 where
  pub parts : ℕ → List LogEntry
  pub went : WentOn parts p q
  pub enqueued : capped q.stats.enqueued ≡ capped (p.stats.enqueued + total p.workers (λ k. length (parts k)))
