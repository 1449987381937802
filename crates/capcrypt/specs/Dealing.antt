-- Who deals the operations of a run to which devices.
use Rattle.std.specs.Prelude.{ℕ, List, []}
use Rattle.crypto_model.specs.Process.{Transform}
use Rattle.dev_core.specs.declared.driver.LogEntry.{LogEntry}
use Rattle.sched_core.specs.declared.text.SchedText.{SchedText}
use Rattle.sched_core.specs.Stopped.{Stopped}
use Rattle.sched_modes.specs.Assign.{assign}
use Rattle.capcrypt.specs.declared.dealing.Dealing.{Dealing}
use Rattle.capcrypt.specs.declared.dealing.Dealing.TheVariants.{Alone, Scheduled, Forwarded}
use Rattle.capcrypt.specs.Devices.{DeviceNow, NoneRose}

-- how many devices are used
abbrev pub workers_of : Dealing → ℕ
workers_of Alone = 1
workers_of (Scheduled text) = text.workers
workers_of (Forwarded text) = text.workers

-- what device k gets of these operations, where that is known
abbrev pub dealt_to : Dealing → (burst : ℕ) → List LogEntry → (k : ℕ) → List LogEntry
dealt_to Alone burst ops k = ops
dealt_to (Scheduled text) burst ops k = assign text.mode text.threshold 128 text.workers burst ops k
dealt_to (Forwarded text) burst ops k = []

-- It is known who gets what: one device gets all, and with a scheduler it hangs on who stalls. Of an adapter over a scheduler
-- it isn't: how many operations it offers at once hangs on what the devices gave back.
abbrev pub IsKnown : Dealing → (before now : List DeviceNow) → Type 0
IsKnown Alone before now = Unit {0}
IsKnown (Scheduled text) before now = NoneRose text.workers before now
IsKnown (Forwarded text) before now = ⊥

-- a scheduler as the text says, over these devices
abbrev pub scheduler_of : {D : Type 0} → SchedText → (sessions : List (List Transform)) → List D → Stopped D
scheduler_of text sessions devs = record {
  mode = text.mode;
  ordering = text.ordering;
  threshold = text.threshold;
  sessions = sessions;
  devs = devs;
  workers = text.workers;
}
