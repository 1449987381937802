-- What is written for a capture, each packet by itself, and how a run ends where nothing outside fails.
use Rattle.std.specs.Prelude.{ℕ, Bool, true, false, List, [], ◌++◌, max, take}
use Rattle.std.specs.List.{flat_map}
use Rattle.capture_io.specs.declared.header.Header.{Header}
use Rattle.capture_io.specs.Capture.{Rest, End, Bad, Large, Reading, NoHeader, Holds, header_bytes}
use Rattle.packet_plan.specs.Answered.{Answered, answered_from}
use Rattle.packet_flow.specs.declared.counts.Counts.{Counts}
use Rattle.packet_flow.specs.Counts.{counts_of}
use Rattle.packet_flow.specs.Flowed.{answer_bytes}
use Rattle.capcrypt.specs.declared.ending.Ending.{Ending}
use Rattle.capcrypt.specs.declared.ending.Ending.TheVariants.{Done, Capture, TooLarge}
use Rattle.capcrypt.specs.declared.work.TheConstants.{SNAPLEN}
use Rattle.capcrypt.specs.Start.{Start, Begins, Stops}

abbrev pub raised : Header → Header
raised h = record { big = h.big; nanos = h.nanos; zone = h.zone; sigfigs = h.sigfigs; snaplen = max h.snaplen SNAPLEN; link = h.link }

-- the records of a whole run, answered
abbrev pub answers_of : Start → Reading → List Answered
answers_of (Begins s) (Holds h rs rest) = answered_from s.plan 0 rs
answers_of (Begins s) (NoHeader at cause) = []
answers_of (Stops e) reading = []

-- the header, and these records
abbrev pub capture_bytes : Header → List Answered → List ℕ
capture_bytes h answers = header_bytes (raised h) ++ flat_map (answer_bytes h.big) answers

-- what is written up to n records
abbrev pub written_upto : Start → Reading → ℕ → List ℕ
written_upto (Begins s) (Holds h rs rest) n = capture_bytes h (take n (answers_of (Begins s) (Holds h rs rest)))
written_upto (Begins s) (NoHeader at cause) n = []
written_upto (Stops e) reading n = []

-- what a whole run writes
abbrev pub written_of : Start → Reading → List ℕ
written_of (Begins s) (Holds h rs rest) = capture_bytes h (answers_of (Begins s) (Holds h rs rest))
written_of (Begins s) (NoHeader at cause) = []
written_of (Stops e) reading = []

-- the counts of the first n records
abbrev pub counts_upto : Start → Reading → ℕ → Counts
counts_upto start reading n = counts_of (take n (answers_of start reading))

abbrev pub ending_at : Rest → Ending
ending_at End = Done
ending_at (Bad at cause) = Capture at cause
ending_at (Large value) = TooLarge value

-- how a run ends where nothing outside fails
abbrev pub ending_of : Start → Reading → Ending
ending_of (Stops e) reading = e
ending_of (Begins s) (NoHeader at cause) = Capture at cause
ending_of (Begins s) (Holds h rs rest) = ending_at rest

abbrev pub reads_header : Start → Reading → Bool
reads_header (Begins s) (Holds h rs rest) = true
reads_header (Begins s) (NoHeader at cause) = false
reads_header (Stops e) reading = false
