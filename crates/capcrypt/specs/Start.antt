-- What a run works by.
use Rattle.std.specs.Prelude.{◌≤◌, ◌+◌, ℕ, true, codes, List, [], ◌∷◌, length, nat_lt, Option, Some, None, Result, Ok, Err, if◌then◌else◌}
use Rattle.dev_core.specs.declared.driver.Kind.TheVariants.{Plain}
use Rattle.sched_core.specs.declared.mode.Mode.TheVariants.{RoundRobin}
use Rattle.sched_core.specs.declared.text.SchedText.{SchedText}
use Rattle.session_file.specs.declared.plan.Plan.{Plan}
use Rattle.session_file.specs.Plan.{plan_of}
use Rattle.packet_plan.specs.Quick.{quick_plan}
use Rattle.command_words.specs.Asked.{Wanted, AsksQuick, AsksCrypt, AsksForward, AsksGen, Fault, NotLegal, BadText, wanted}
use Rattle.command_words.specs.Gives.{RunsOnOneThread}
use Rattle.capcrypt.specs.declared.ending.Ending.{Ending}
use Rattle.capcrypt.specs.declared.ending.Ending.TheVariants.{Usage, Vdev, Sessions, TooLarge}
use Rattle.capcrypt.specs.declared.start.Task.{Task}
use Rattle.capcrypt.specs.declared.start.TheConstants.{MAX_TEXT}
use Rattle.capcrypt.specs.declared.dealing.Dealing.{Dealing}
use Rattle.capcrypt.specs.declared.dealing.Dealing.TheVariants.{Alone, Scheduled, Forwarded}
use Rattle.capcrypt.specs.Dealing.{workers_of}

-- what a run works by: its plan, how many operations make a burst, and who deals them
pub record Settings : Type 0 where
  pub plan : Plan
  pub burst : ℕ
  pub dealing : Dealing

abbrev pub settings_of : Task → Settings
settings_of t = record { plan = t.plan; burst = t.burst; dealing = t.dealing }

-- a run begins, or ends before the capture is read
pub data Start : Type 0 where
  Begins : Settings → Start
  Stops : Ending → Start

-- a scheduler that can be made, and runs on one thread
abbrev pub IsLegal : Dealing → Type 0
IsLegal Alone = Unit {0}
IsLegal (Scheduled text) = RunsOnOneThread text
IsLegal (Forwarded text) = RunsOnOneThread text

-- A task for which there are devices enough.
pub record CanStart (t : Task) (most : ℕ) : Type 0 where
  pub burst : (1 ≤ t.burst) × (t.burst ≤ 256)
  pub devices : (1 ≤ workers_of t.dealing) × (workers_of t.dealing ≤ most)
  pub legal : IsLegal t.dealing

abbrev pub start_by : Dealing → ℕ → Result Plan (ℕ × ℕ) → Start
start_by dealing burst (Ok plan) = Begins (record { plan = plan; burst = burst; dealing = dealing })
start_by dealing burst (Err fault) = Stops (Sessions fault.0 fault.1)

-- in bursts of this size, by a session text of at most a mebibyte
abbrev pub start_with : Dealing → ℕ → List ℕ → Start
start_with dealing burst text = if nat_lt MAX_TEXT (length text) then Stops (TooLarge (MAX_TEXT + 1)) else start_by dealing burst (plan_of text)

-- the session text of a generated capture: UDP under GCM, and TCP under CTR and a code
unfoldable pub stated_sessions : List ℕ
stated_sessions = codes "capcrypt 1\nsession a gcm encrypt 000102030405060708090a0b0c0d0e0f 00000001 16 14\nsession b ctr encrypt 101112131415161718191a1b1c1d1e1f 00000002 + hmac-sha256 generate 202122232425262728292a2b2c2d2e2f 16\nrule 23 11 a 14\ndefault b 14\n"

-- and its scheduler: two workers by turns, in order
abbrev pub stated_scheduler : SchedText
stated_scheduler = record {
  mode = RoundRobin;
  kinds = Plain ∷ Plain ∷ Plain ∷ Plain ∷ Plain ∷ Plain ∷ Plain ∷ Plain ∷ [];
  workers = 2;
  ordering = true;
  threshold = 128;
}

-- by what the words ask for, and by the text of the session source
abbrev pub start_of : Result Wanted Fault → List ℕ → Start
start_of (Ok (AsksQuick key salt)) text = Begins (record { plan = quick_plan key salt; burst = 1; dealing = Alone })
start_of (Ok (AsksCrypt scheduler sessions burst)) text = start_with (Scheduled scheduler) burst text
start_of (Ok (AsksForward scheduler sessions)) text = start_with (Forwarded scheduler) 32 text
start_of (Ok (AsksGen packets number)) text = start_by (Scheduled stated_scheduler) 32 (plan_of stated_sessions)
start_of (Err NotLegal) text = Stops Usage
start_of (Err (BadText at)) text = Stops (Vdev at)

-- by the words, where so many devices are there
abbrev pub started : List (List ℕ) → ℕ → List ℕ → Start
started words devices text = start_of (wanted words devices) text

-- how many devices a run uses
abbrev pub workers_in : Start → ℕ
workers_in (Begins s) = workers_of s.dealing
workers_in (Stops e) = 0

-- how many devices the words use, where they are legal
abbrev pub workers_asked : Result Wanted Fault → ℕ
workers_asked (Ok (AsksQuick key salt)) = 1
workers_asked (Ok (AsksCrypt scheduler sessions burst)) = scheduler.workers
workers_asked (Ok (AsksForward scheduler sessions)) = scheduler.workers
workers_asked (Ok (AsksGen packets number)) = 2
workers_asked (Err fault) = 0

-- the burst size of the words, where they are legal
abbrev pub burst_asked : Result Wanted Fault → Option ℕ
burst_asked (Ok (AsksQuick key salt)) = Some 1
burst_asked (Ok (AsksCrypt scheduler sessions burst)) = Some burst
burst_asked (Ok (AsksForward scheduler sessions)) = Some 32
burst_asked (Ok (AsksGen packets number)) = Some 32
burst_asked (Err fault) = None

-- the words don't ask for the session source
abbrev pub LeavesSessions : Result Wanted Fault → Type 0
LeavesSessions (Ok (AsksCrypt scheduler sessions burst)) = ⊥
LeavesSessions (Ok (AsksForward scheduler sessions)) = ⊥
LeavesSessions _ = Unit {0}
