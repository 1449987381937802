-- A scheduler that runs, in whichever mode.
use Rattle.std.specs.Prelude.{◌≡◌, ◌<◌, ℕ, List, [], Option, None, Some, Bool, if◌then◌else◌, slice_index_or}
use Rattle.crypto_op.specs.Op.{Entry}
use Rattle.dev_core.specs.declared.driver.Driver.{Ghosts}
use Rattle.dev_core.specs.declared.driver.LogEntry.{LogEntry}
use Rattle.dev_core.specs.Stats.{no_stats}
use Rattle.sched_core.specs.declared.mode.Mode.{Mode}
use Rattle.sched_core.specs.declared.mode.Mode.TheVariants.{RoundRobin, PacketSize, FailOver, MultiCore}
use Rattle.sched_core.specs.Stopped.{Stopped}
use Rattle.sched_modes.specs.Admits.{fail_admits, round_admits, size_admits}
use Rattle.dev_core.specs.Calls.{Call}
use Rattle.sched_modes.specs.Crew.{Crew, Does, FailOffers, Places, RoundOffers, SizeOffers}
use Rattle.sched_modes.specs.Pool.{Follows, crew, held_in, pending_in, stopped}
use Rattle.sched_modes.specs.Workers.{places}
use Rattle.sched_modes.specs.declared.pool.Pool.{Pool}
use Rattle.sched_modes.specs.declared.running.Running.{Running}
use Rattle.sched_modes.specs.declared.running.Running.TheVariants.{Round, Size, Fail}

abbrev pub pool_of : {C D : Type 0} {m : Ghosts D C} → Running C D m → Pool C D m
pool_of (Round t) = t.pool
pool_of (Size t) = t.pool
pool_of (Fail t) = t.pool

abbrev pub mode_of : {C D : Type 0} {m : Ghosts D C} → Running C D m → Mode
mode_of (Round t) = RoundRobin
mode_of (Size t) = PacketSize
mode_of (Fail t) = FailOver

-- whose turn it is
abbrev pub turn_of : {C D : Type 0} {m : Ghosts D C} → Running C D m → ℕ
turn_of (Round t) = t.turn
turn_of (Size t) = 0
turn_of (Fail t) = 0

abbrev pub crew_of : {C D : Type 0} {m : Ghosts D C} → Running C D m → Crew
crew_of r = crew (turn_of r) (pool_of r)

-- what is accepted and not returned
abbrev pub pending : {C D : Type 0} {m : Ghosts D C} → Running C D m → List (Entry C)
pending r = pending_in (pool_of r)

-- what its workers hold
abbrev pub at_work : {C D : Type 0} {m : Ghosts D C} → Running C D m → List (Entry C)
at_work r = held_in (pool_of r)

abbrev pub stopped_of : {C D : Type 0} {m : Ghosts D C} → Running C D m → Stopped D
stopped_of r = stopped (mode_of r) (pool_of r)

-- how many are accepted if nothing stalls
abbrev pub admits_by : Mode → (threshold : ℕ) → Crew → List ℕ → Option ℕ
admits_by RoundRobin threshold = round_admits
admits_by PacketSize threshold = size_admits threshold
admits_by FailOver threshold = fail_admits
admits_by MultiCore threshold = λ c lens. None

-- what an enqueue call does
abbrev pub offers_by : Mode → (threshold : ℕ) → Crew → List LogEntry → ℕ → Crew → Type 0
offers_by RoundRobin threshold = RoundOffers
offers_by PacketSize threshold = SizeOffers threshold
offers_by FailOver threshold = FailOffers
offers_by MultiCore threshold = λ old ops n new. ⊥

-- What a burst call does: the scheduler goes on in its mode, and its crew does what the mode says.
pub record DoesCall {C D : Type 0} {m : Ghosts D C} (old : Running C D m) (call : Call) (new : Running C D m) : Type 0 where
  pub mode : mode_of new ≡ mode_of old
  pub follows : Follows (pool_of old) (pool_of new)
  pub crew : Does (offers_by (mode_of old) (pool_of old).threshold) (crew_of old) call (crew_of new)

-- the first w hold nothing
abbrev pub AreIdle : {C D : Type 0} → Ghosts D C → ℕ → List D → Type 0
AreIdle {D = D} m w devs = (k : ℕ) (d : D) → k < w → m.held (slice_index_or devs k d) ≡ []

abbrev pub first_places : Bool → ℕ → Option Places
first_places ordering cap = if ordering then Some (record { cap = cap; slots = 0; next = 0 }) else None

-- This scheduler was started, with a ring of this capacity where it orders, and nothing is pending.
pub record IsStarted {C D : Type 0} {m : Ghosts D C} (s : Stopped D) (cap : ℕ) (r : Running C D m) : Type 0 where
  pub stopped : stopped_of r ≡ s
  pub turn : turn_of r ≡ 0
  pub ring : places (pool_of r).ring ≡ first_places s.ordering cap
  pub pending : pending_in (pool_of r) ≡ []
  pub stats : (pool_of r).stats ≡ no_stats
