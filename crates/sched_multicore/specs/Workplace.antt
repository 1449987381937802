-- What a worker has.
use Rattle.std.specs.Prelude.{◌≡◌, ℕ, List}
use Rattle.dev_core.specs.declared.driver.Device.{Ghosts as DeviceGhosts}
use Rattle.dev_core.specs.declared.driver.Driver.{Ghosts as DriverGhosts}
use Rattle.flight_table.specs.Call.{Desk}
use Rattle.flight_table.specs.Note.{NoteData}
use Rattle.sched_multicore.specs.declared.worker.Worker.{Worker}

module _ {D : Type 0} {m : DeviceGhosts D NoteData} {n : DriverGhosts D NoteData} where
  abbrev pub device_in : Worker D m n → D
  device_in w = w.dev

  abbrev pub hands_in : Worker D m n → List Desk
  hands_in w = w.carrier.hands.items

  -- the number of slots of each hand
  abbrev pub slots_in : Worker D m n → ℕ
  slots_in w = w.carrier.slots

  -- its own number
  abbrev pub index_in : Worker D m n → ℕ
  index_in w = w.carrier.index

  -- what its device had taken when it was opened
  abbrev pub enqueued_before : Worker D m n → ℕ
  enqueued_before w = w.opened.value

  -- its hands when it was opened
  abbrev pub hands_before : Worker D m n → List Desk
  hands_before w = w.had.value.items

  -- the same worker at a later time
  pub record SameWorker (v w : Worker D m n) : Type 0 where
    pub slots : slots_in w ≡ slots_in v
    pub index : index_in w ≡ index_in v
    pub opened : (enqueued_before w ≡ enqueued_before v) × (hands_before w ≡ hands_before v)
