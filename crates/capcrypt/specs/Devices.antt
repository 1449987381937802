-- The devices of a run.
use Rattle.std.specs.Prelude.{ℕ, ◌+◌, ◌*◌, ◌<◌, ◌≤◌, List, [], map, take, get_or, Option, None}
use Rattle.crypto_model.specs.Counts.{capped, Rose}
use Rattle.crypto_model.specs.Process.{Transform}
use Rattle.crypto_op.specs.declared.spec.Card.{Card}
use Rattle.crypto_op.specs.Op.{Entry}
use Rattle.dev_core.specs.declared.driver.LogEntry.{LogEntry}
use Rattle.dev_core.specs.declared.stats.Stats.{Stats}
use Rattle.packet_flow.specs.declared.flow.TheConstants.{PATIENCE}
use Rattle.sched_modes.specs.Crew.{total}

-- a device, as far as a run speaks of it
pub record DeviceNow : Type 0 where
  pub depth : ℕ
  pub sessions : List (List Transform)
  pub held : List (Entry Card)
  pub room : Option ℕ
  pub stalls : ℕ
  pub enqueued : ℕ
  pub log : Option (List LogEntry)

-- a device in this state, by the members of its bounds
abbrev pub device_now : {D : Type 0} → (D → ℕ) → (D → List (List Transform)) → (D → List (Entry Card)) → (D → Option ℕ) → (D → ℕ)
    → (D → Stats) → (D → Option (List LogEntry)) → D → DeviceNow
device_now limit sessions held room stalls stats log d = record {
  depth = limit d;
  sessions = sessions d;
  held = held d;
  room = room d;
  stalls = stalls d;
  enqueued = (stats d).enqueued;
  log = log d;
}

abbrev pub devices_now : {D : Type 0} → (D → ℕ) → (D → List (List Transform)) → (D → List (Entry Card)) → (D → Option ℕ) → (D → ℕ)
    → (D → Stats) → (D → Option (List LogEntry)) → List D → List DeviceNow
devices_now limit sessions held room stalls stats log ds = map (device_now limit sessions held room stalls stats log) ds

-- device i of a list
abbrev pub at : List DeviceNow → ℕ → DeviceNow
at ds i = get_or ds i (record { depth = 0; sessions = []; held = []; room = None; stalls = 0; enqueued = 0; log = None })

-- how many operations each of the first w devices has taken
abbrev pub operations_of : (w : ℕ) → List DeviceNow → List ℕ
operations_of w ds = map (λ d. d.enqueued) (take w ds)

-- how many they have taken together
abbrev pub taken_together : (w : ℕ) → List DeviceNow → ℕ
taken_together w ds = total w (λ i. (at ds i).enqueued)

-- how often they have stalled together
abbrev pub stalled_together : (w : ℕ) → List DeviceNow → ℕ
stalled_together w ds = total w (λ i. (at ds i).stalls)

-- the stalls of none of them rose
abbrev pub NoneRose : (w : ℕ) → List DeviceNow → List DeviceNow → Type 0
NoneRose w before now = (i : ℕ) → i < w → ¬ (Rose (at before i).stalls (at now i).stalls)

-- Between two counts of stalls are as many as a run suffers: a flow's patience, and as many for each operation taken. A count that
-- stands still at its last value is such a one.
abbrev pub HasStalledOut : ℕ → ℕ → ℕ → Type 0
HasStalledOut before enqueued now = capped (before + PATIENCE * (1 + enqueued)) ≤ now

-- the first w devices together have stalled so
abbrev pub HaveStalledOut : (w : ℕ) → List DeviceNow → List DeviceNow → Type 0
HaveStalledOut w before now = HasStalledOut (stalled_together w before) (taken_together w now) (stalled_together w now)
