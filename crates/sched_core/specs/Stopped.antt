-- A scheduler that is stopped.
use Rattle.std.specs.Prelude.{◌≡◌, ◌≢◌, ◌<◌, ℕ, Bool, IsTrue, ◌&&◌, nat_le, List, length, slice_index_or}
use Rattle.std.specs.Arc.{arc_value}
use Rattle.std.specs.Int.{is_power_of_two}
use Rattle.crypto_model.specs.Process.{Transform}
use Rattle.sched_core.specs.Mode.{most_workers}
use Rattle.sched_core.specs.declared.mode.Mode.{Mode}
use Rattle.sched_core.specs.declared.scheduler.Parts.{Parts}
use Rattle.sched_core.specs.declared.scheduler.TheConstants.{MAX_THRESHOLD}

-- of its devices the first `workers` are attached
pub record Stopped (D : Type 0) : Type 0 where
  pub mode : Mode
  pub ordering : Bool
  pub threshold : ℕ
  pub sessions : List (List Transform)
  pub devs : List D
  pub workers : ℕ

abbrev pub made_of : {D : Type 0} → Parts D → Stopped D
made_of p = record { mode = p.mode; ordering = p.ordering; threshold = p.threshold; sessions = arc_value p.sessions; devs = p.devs.items; workers = p.workers }

-- a power of two from 1 to 262,144
abbrev pub is_threshold : ℕ → Bool
is_threshold n = is_power_of_two n && nat_le n MAX_THRESHOLD

-- the first w devices have these sessions
abbrev pub EachAlike : {D : Type 0} → (D → List (List Transform)) → List (List Transform) → ℕ → List D → Type 0
EachAlike {D} sessions_of sessions w devs = (k : ℕ) (d : D) → k < w → sessions_of (slice_index_or devs k d) ≡ sessions

-- another device can be attached
abbrev pub HasNext : {D : Type 0} → Stopped D → Type 0
HasNext s = (s.workers < most_workers s.mode) × (s.workers < length s.devs)

-- the next device has other sessions
abbrev pub NextDiffers : {D : Type 0} → (D → List (List Transform)) → Stopped D → Type 0
NextDiffers {D} sessions_of s = (d : D) → sessions_of (slice_index_or s.devs s.workers d) ≢ s.sessions

-- its workers have its sessions
abbrev pub AreAlike : {D : Type 0} → (D → List (List Transform)) → Stopped D → Type 0
AreAlike sessions_of s = EachAlike sessions_of s.sessions s.workers s.devs
