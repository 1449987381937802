-- A scheduler that is started for a run.
use Rattle.std.specs.Prelude.{◌≡◌, ◌≤◌, ℕ, List, length, drop}
use Rattle.crypto_model.specs.Process.{Transform}
use Rattle.crypto_op.specs.declared.spec.Card.{Card}
use Rattle.dev_core.specs.declared.driver.Driver.{Ghosts}
use Rattle.session_file.specs.declared.plan.Plan.{Plan}
use Rattle.packet_plan.specs.Asked.{sessions_of}
use Rattle.sched_core.specs.declared.text.SchedText.{SchedText}
use Rattle.sched_modes.specs.Running.{IsStarted}
use Rattle.sched_modes.specs.declared.running.Running.{Running}
use Rattle.capcrypt.specs.Dealing.{scheduler_of}
use Rattle.capcrypt.specs.Devices.{DeviceNow}
use Rattle.capcrypt.specs.Served.{WereSetUp}

-- It was started for a plan, as the text says, over these devices, of which it uses the first: those were set up.
pub record IsLaunched {D : Type 0} {m : Ghosts D Card} (now : D → DeviceNow) (plan : Plan) (text : SchedText) (devs : List D)
    (r : Running Card D m) : Type 0 where
  pub mid : List D
  pub sessions : List (List Transform)
  pub table : sessions ≡ sessions_of plan
  pub count : length mid ≡ length devs
  pub ready : WereSetUp now plan text.workers devs mid
  pub others : drop text.workers mid ≡ drop text.workers devs
  pub started : IsStarted (scheduler_of text sessions mid) 1024 r

-- Memory was wanting: of the devices that it was to use, the first n were set up.
pub record IsWanting {D : Type 0} (now : D → DeviceNow) (plan : Plan) (workers : ℕ) (devs back : List D) : Type 0 where
  pub n : ℕ
  pub few : n ≤ workers
  pub count : length back ≡ length devs
  pub ready : WereSetUp now plan n devs back
  pub others : drop n back ≡ drop n devs
