-- What a run did.
use Rattle.std.specs.Prelude.{◌≡◌, ◌≤◌, ◌<◌, ◌+◌, ◌^◌, ◌⊎◌, ◌++◌, ℕ, true, List, length, take, Option, option_map}
use Rattle.crypto_model.specs.Counts.{capped}
use Rattle.dev_core.specs.declared.driver.LogEntry.{LogEntry}
use Rattle.dev_core.specs.Calls.{Call}
use Rattle.dev_core.specs.Offers.{Flows, taken_by}
use Rattle.capture_io.specs.declared.header.ReadStop.{ReadStop}
use Rattle.capture_io.specs.declared.header.ReadStop.TheVariants.{Fault, BadCapture, OutOfMemory}
use Rattle.capture_io.specs.Capture.{Reading, NoHeader, Holds}
use Rattle.packet_flow.specs.declared.flow.FlowEnd.{FlowEnd}
use Rattle.packet_flow.specs.declared.flow.FlowEnd.TheVariants as flow
use Rattle.packet_flow.specs.Entries.{entries_from}
use Rattle.sched_modes.specs.Dealing.{IsFrontOf}
use Rattle.capcrypt.specs.declared.ending.Outcome.{Outcome}
use Rattle.capcrypt.specs.declared.ending.Ending.{Ending}
use Rattle.capcrypt.specs.declared.ending.Ending.TheVariants.{Done, Memory, Usage, Vdev, Capture, Sessions, ReadFault, WriteFault, Stalled, TooLarge}
use Rattle.capcrypt.specs.Dealing.{workers_of}
use Rattle.command_words.specs.declared.generated.Gen.{Gen}
use Rattle.capcrypt.specs.Place.{IsPlace, digest_of}
use Rattle.capcrypt.specs.Devices.{DeviceNow, at, operations_of, taken_together}
use Rattle.capcrypt.specs.Served.{HaveServed, WasSetUp}
use Rattle.capcrypt.specs.Start.{Start, Begins, Stops, workers_in}
use Rattle.capcrypt.specs.Written.{answers_of, counts_upto, written_of, written_upto, ending_of, reads_header}
use Rattle.capcrypt.specs.Report.{status_of, report_of}

abbrev pub stop_ending : ReadStop → Ending
stop_ending ReadStop.End = Done
stop_ending (BadCapture at cause) = Capture at cause
stop_ending (ReadStop.TooLarge value) = TooLarge value
stop_ending Fault = ReadFault
stop_ending OutOfMemory = Memory

abbrev pub flow_ending : FlowEnd → Ending
flow_ending (flow.Stopped stop) = stop_ending stop
flow_ending flow.WriteFault = WriteFault
flow_ending flow.Stalled = Stalled
flow_ending flow.OutOfMemory = Memory

-- an ending that words, session text and capture decide
abbrev pub IsDecided : Ending → Type 0
IsDecided Memory = ⊥
IsDecided ReadFault = ⊥
IsDecided WriteFault = ⊥
IsDecided Stalled = ⊥
IsDecided _ = Unit {0}

-- an ending behind the reading of the words and of the session text
abbrev pub IsLate : Ending → Type 0
IsLate Usage = ⊥
IsLate (Vdev at) = ⊥
IsLate (Sessions line kind) = ⊥
IsLate _ = Unit {0}

-- `new` is `old` with a front of these bytes at its end
abbrev pub AppendsFront : List ℕ → List ℕ → List ℕ → Type 0
AppendsFront old new bytes = (k : ℕ) × (new ≡ old ++ take k bytes)

-- A front of what a whole run writes, in which n records stand whole, and no more.
pub record AppendsUpto (start : Start) (reading : Reading) (n : ℕ) (old new : List ℕ) : Type 0 where
  pub k : ℕ
  pub front : new ≡ old ++ take k (written_of start reading)
  pub whole : (n ≡ 0) ⊎ (length (written_upto start reading n) ≤ k)
  pub no_more : (n ≡ length (answers_of start reading)) ⊎ (k < length (written_upto start reading (n + 1)))

-- nothing, or whole records behind the header
abbrev pub AppendsRecords : Start → Reading → ℕ → List ℕ → List ℕ → Type 0
AppendsRecords start reading n old new = ((new ≡ old) × (n ≡ 0)) ⊎ (new ≡ old ++ written_upto start reading n)

-- What was written, by how the run ended, where n records are counted.
abbrev pub IsWritten : Ending → Start → Reading → ℕ → List ℕ → List ℕ → Type 0
IsWritten Memory start reading n old new = AppendsUpto start reading n old new
IsWritten WriteFault start reading n old new = AppendsUpto start reading n old new
IsWritten ReadFault start reading n old new = AppendsRecords start reading n old new
IsWritten Stalled start reading n old new = AppendsRecords start reading n old new
IsWritten _ start reading n old new = new ≡ old ++ written_of start reading

-- The used devices have served, on the operations that the plan makes of the records.
abbrev pub DevicesServe : Start → Reading → List DeviceNow → List DeviceNow → Type 0
DevicesServe (Begins s) (Holds h rs rest) before now = HaveServed s (entries_from s.plan 0 rs) before now
DevicesServe (Begins s) (NoHeader at cause) before now = ⊥
DevicesServe (Stops e) reading before now = ⊥

-- They have taken all of them.
abbrev pub DevicesServeWhole : Start → Reading → List DeviceNow → List DeviceNow → Type 0
DevicesServeWhole (Begins s) (Holds h rs rest) before now =
    HaveServed s (entries_from s.plan 0 rs) before now × (taken_together (workers_of s.dealing) now ≡ length (entries_from s.plan 0 rs))
DevicesServeWhole (Begins s) (NoHeader at cause) before now = Unit {0}
DevicesServeWhole (Stops e) reading before now = Unit {0}

-- The first n of the devices that were to be used are ready, and then memory was wanting.
abbrev pub AreSetUp : Start → (n : ℕ) → Outcome → List DeviceNow → List DeviceNow → Type 0
AreSetUp (Begins s) n o before now = (o.ending ≡ Memory) × (o.header ≡ true) × (n ≤ workers_of s.dealing)
    × ((k : ℕ) → k < n → WasSetUp s.plan (at before k) (at now k))
AreSetUp (Stops e) n o before now = ⊥

-- No device was used: but for some that were set up, all are as they were (`kept n`: all behind the first n).
pub record UsesNone (start : Start) (o : Outcome) (kept : ℕ → Type 0) (before now : List DeviceNow) : Type 0 where
  pub n : ℕ
  pub some : (n ≡ 0) ⊎ AreSetUp start n o before now
  pub others : kept n

-- What a driver was offered and took where the run ended so: calls offered it these operations in bursts, and it took
-- the first of them, or all where the words and the capture decide the ending.
pub record IsDriven (burst : ℕ) (ops : List LogEntry) (e : Ending) (past : List Call) (enqueued : ℕ) (before now : Option (List LogEntry)) : Type 0 where
  pub taken : List LogEntry
  pub front : IsFrontOf ops taken
  pub whole : IsDecided e → taken ≡ ops
  pub count : length taken ≡ taken_by past
  pub enqueued_is : enqueued ≡ capped (length taken)
  pub log_is : now ≡ option_map (λ l. taken) before
  pub flows : Flows burst ops past
  pub few : length ops < 2 ^ 32

-- How many of these operations a driver accepted where the run ended so: all, where the words and the capture decide the ending.
pub record IsAccepted (ops : List LogEntry) (e : Ending) (accepted : ℕ) : Type 0 where
  pub most : accepted ≤ length ops
  pub whole : IsDecided e → accepted ≡ length ops
  pub few : length ops < 2 ^ 32

-- What a run whose outcome is this appended, which wrote n records whole.
pub record HasAppended (start : Start) (reading : Reading) (o : Outcome) (old new : List ℕ) : Type 0 where
  pub n : ℕ
  pub within : n ≤ length (answers_of start reading)
  pub counts : o.counts ≡ counts_upto start reading n
  pub written : IsWritten o.ending start reading n old new
  pub whole : IsDecided o.ending → (o.ending ≡ ending_of start reading) × (n ≡ length (answers_of start reading)) × (o.header ≡ reads_header start reading)

-- A run but for its report: what it wrote, and what its devices did.
pub record Job (start : Start) (reading : Reading) (o : Outcome) (old new : List ℕ) (kept : ℕ → Type 0) (before now : List DeviceNow) : Type 0 where
  pub wrote : HasAppended start reading o old new
  pub used : o.header ≡ true → o.devices ≡ workers_in start
  pub devices : UsesNone start o kept before now ⊎ DevicesServe start reading before now
  pub stalled : o.ending ≡ Stalled → (o.header ≡ true) × DevicesServe start reading before now
  pub decided : IsDecided o.ending → DevicesServeWhole start reading before now

-- The same with the report: the status is that of the outcome that the report tells, or the report failed.
pub record HasRun (made : Option Gen) (start : Start) (reading : Reading) (status : ℕ) (out_old out_new : List ℕ)
    (kept : ℕ → Type 0) (before now : List DeviceNow)
    (report_old report_new : List ℕ) (report_rose : Type 0) : Type 0 where
  pub outcome : Outcome
  pub old : List ℕ
  pub new : List ℕ
  pub place : IsPlace made out_old out_new old new
  pub job : Job start reading outcome old new kept before now
  pub reported : ((status ≡ status_of outcome.ending) × (report_new ≡ report_old ++ report_of outcome (operations_of outcome.devices now) (digest_of made new)))
      ⊎ ((status ≡ 6) × report_rose × AppendsFront report_old report_new (report_of outcome (operations_of outcome.devices now) (digest_of made new)))
