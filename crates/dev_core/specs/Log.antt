-- What is known of a logging device.
use Rattle.std.specs.Prelude.{◌≡◌, ℕ, ◌-◌, List, [], length, None, Some}
use Rattle.dev_core.specs.Calls.{Call, Offers, Asks}
use Rattle.dev_core.specs.Over.{DequeuesUpto, EnqueuesUpto}
use Rattle.dev_core.specs.declared.driver.Driver.{Ghosts}
use Rattle.dev_core.specs.declared.driver.LogEntry.{LogEntry}
use Rattle.dev_core.specs.declared.stats.Stats.{Stats}
use Rattle.dev_core.specs.Stats.{no_stats}
use Rattle.dev_core.specs.declared.log.LogDriver.{LogDriver}

abbrev pub logged_of : {D : Type 0} → LogDriver D → D
logged_of d = d.over.inner

-- how many entries it logs at most
abbrev pub cap_of : {D : Type 0} → LogDriver D → ℕ
cap_of d = d.cap

abbrev pub log_of : {D : Type 0} → LogDriver D → List LogEntry
log_of d = d.log.items

-- how many entries it logs more
abbrev pub log_room_of : {D : Type 0} → LogDriver D → ℕ
log_room_of d = cap_of d - length (log_of d)

-- in how many calls the cap cut the number
abbrev pub log_cuts : {D : Type 0} → LogDriver D → ℕ
log_cuts d = d.over.cuts

abbrev pub log_stats : {D : Type 0} → LogDriver D → Stats
log_stats d = d.over.stats

-- made over this device, with nothing logged and nothing counted
pub record IsNewLog {D : Type 0} (inner : D) (cap : ℕ) (d : LogDriver D) : Type 0 where
  pub is_over : logged_of d ≡ inner
  pub capacity : cap_of d ≡ cap
  pub log : log_of d ≡ []
  pub cuts : log_cuts d ≡ 0
  pub stats : log_stats d ≡ no_stats

-- What a call does: the room for entries is the limit of what goes in, and what comes out has none.
abbrev pub LogDoes : {C D : Type 0} → Ghosts D C → LogDriver D → Call → LogDriver D → Type 0
LogDoes m old (Offers ops n) new = EnqueuesUpto m (Some (log_room_of old)) ops n old.over new.over × (cap_of new ≡ cap_of old)
LogDoes m old (Asks most n) new = DequeuesUpto m None most n old.over new.over × (cap_of new ≡ cap_of old)
