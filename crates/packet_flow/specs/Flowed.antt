-- What was done with the records of a capture.
use Rattle.std.specs.Prelude.{◌≡◌, ◌≤◌, ◌++◌, ◌∷◌, ℕ, Bool, List, take, length}
use Rattle.std.specs.List.{flat_map}
use Rattle.dev_core.specs.declared.driver.LogEntry.{LogEntry}
use Rattle.capture_io.specs.Capture.{Rec, Rest, record_bytes}
use Rattle.capture_io.specs.Pieces.{AppendsPart}
use Rattle.session_file.specs.declared.plan.Plan.{Plan}
use Rattle.packet_plan.specs.Answered.{Answered, answered_from}
use Rattle.packet_flow.specs.declared.counts.Counts.{Counts}
use Rattle.packet_flow.specs.declared.flow.FlowEnd.{FlowEnd}
use Rattle.packet_flow.specs.declared.flow.FlowEnd.TheVariants.{Stopped, WriteFault}
use Rattle.packet_flow.specs.Counts.{counts_of}
use Rattle.packet_flow.specs.Entries.{entries_from}
use Rattle.packet_flow.specs.Reads.{ReadsAs, IsWholeStop}

abbrev pub answer_bytes : Bool → Answered → List ℕ
answer_bytes big a = record_bytes big a.rec

-- The first n of these records were appended, and of the next one a front, and not all of it.
pub record CutAt (big : Bool) (answers : List Answered) (n : ℕ) (old new : List ℕ) : Type 0 where
  pub next : Answered
  pub others : List Answered
  pub split : answers ≡ take n answers ++ next ∷ others
  pub part : AppendsPart (old ++ flat_map (answer_bytes big) (take n answers)) new (answer_bytes big next)

-- how many records stand whole, and what of the next
abbrev pub IsWrittenBy : FlowEnd → Bool → List Answered → ℕ → List ℕ → List ℕ → Type 0
IsWrittenBy WriteFault big answers n old new = CutAt big answers n old new
IsWrittenBy _ big answers n old new = new ≡ old ++ flat_map (answer_bytes big) (take n answers)

-- the end came with the whole capture read, written and worked on
abbrev pub EndsWhole : FlowEnd → Type 0
EndsWhole (Stopped stop) = IsWholeStop stop
EndsWhole _ = ⊥

abbrev pub StopsAs : FlowEnd → List Rec → Rest → Type 0
StopsAs (Stopped stop) rs rest = ReadsAs rs stop rs rest
StopsAs _ rs rest = Unit {0}

pub record IsWholeFlow (plan : Plan) (rs : List Rec) (rest : Rest) (end : FlowEnd) (n : ℕ) (ops : List LogEntry) : Type 0 where
  pub records : n ≡ length rs
  pub stop : StopsAs end rs rest
  pub taken : ops ≡ entries_from plan 0 rs

-- The first n records of these were answered and written, and the driver has taken these operations.
pub record Flowed (plan : Plan) (big : Bool) (rs : List Rec) (rest : Rest) (end : FlowEnd) (counts : Counts) (old new : List ℕ)
    (taken : List LogEntry) : Type 0 where
  pub n : ℕ
  pub within : n ≤ length rs
  pub counts_are : counts ≡ counts_of (take n (answered_from plan 0 rs))
  pub written : IsWrittenBy end big (answered_from plan 0 rs) n old new
  pub k : ℕ
  pub front : taken ≡ take k (entries_from plan 0 rs)
  pub whole : EndsWhole end → IsWholeFlow plan rs rest end n taken
