-- What the devices of a run were set up for, and took.
use Rattle.std.specs.Prelude.{◌≡◌, ◌≤◌, ◌<◌, ℕ, List, [], length, option_map, Option, slice_index_or}
use Rattle.dev_core.specs.declared.driver.LogEntry.{LogEntry}
use Rattle.session_file.specs.declared.plan.Plan.{Plan}
use Rattle.packet_plan.specs.Asked.{sessions_of}
use Rattle.sched_modes.specs.Dealing.{IsFrontOf}
use Rattle.capcrypt.specs.Dealing.{IsKnown, dealt_to, workers_of}
use Rattle.capcrypt.specs.Devices.{DeviceNow, at, taken_together}
use Rattle.capcrypt.specs.Start.{Settings}

-- This run has set the device up for the plan, and it has taken these operations since. Its log, where it tells one,
-- is the list of them.
pub record HasServed (plan : Plan) (taken : List LogEntry) (before : Option (List LogEntry)) (d : DeviceNow) : Type 0 where
  pub depth : d.depth ≡ 128
  pub sessions : d.sessions ≡ sessions_of plan
  pub enqueued : d.enqueued ≡ length taken
  pub log : d.log ≡ option_map (λ l. taken) before

-- It was set up, and holds and took nothing since.
pub record WasSetUp (plan : Plan) (before d : DeviceNow) : Type 0 where
  pub served : HasServed plan [] before.log d
  pub held : d.held ≡ []
  pub stalls : d.stalls ≡ before.stalls

-- so were the first n of some devices, as `f` shows them
abbrev pub WereSetUp : {D : Type 0} → (D → DeviceNow) → Plan → (n : ℕ) → List D → List D → Type 0
WereSetUp {D} f plan n old new = (k : ℕ) (d : D) → k < n → WasSetUp plan (f (slice_index_or old k d)) (f (slice_index_or new k d))

-- The used devices took some of these operations, each a list of its own. Where it is known who gets what, this is the
-- front of what is dealt to it, and all of that where together they took all.
pub record HaveServed (s : Settings) (ops : List LogEntry) (before now : List DeviceNow) : Type 0 where
  pub given : ℕ → List LogEntry
  pub each : (k : ℕ) → k < workers_of s.dealing → HasServed s.plan (given k) (at before k).log (at now k)
  pub few : taken_together (workers_of s.dealing) now ≤ length ops
  pub fronts : IsKnown s.dealing before now → (k : ℕ) → k < workers_of s.dealing → IsFrontOf (dealt_to s.dealing s.burst ops k) (given k)
  pub whole : IsKnown s.dealing before now → taken_together (workers_of s.dealing) now ≡ length ops → (k : ℕ) → k < workers_of s.dealing
      → given k ≡ dealt_to s.dealing s.burst ops k
