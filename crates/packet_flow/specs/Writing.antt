-- What is written of the packets in slots.
use Rattle.std.specs.Prelude.{◌≡◌, ◌++◌, ℕ, Bool, List, ◌∷◌}
use Rattle.std.specs.List.{flat_map}
use Rattle.crypto_op.specs.declared.spec.Card.{Card}
use Rattle.crypto_op.specs.Op.{Entry}
use Rattle.capture_io.specs.Pieces.{AppendsPart}
use Rattle.session_file.specs.declared.plan.Plan.{Plan}
use Rattle.packet_plan.specs.Answered.{Answered, answered}
use Rattle.packet_flow.specs.Seats.{Seat}
use Rattle.packet_flow.specs.declared.counts.Counts.{Counts}
use Rattle.packet_flow.specs.Counts.{counts_of}
use Rattle.packet_flow.specs.Flowed.{answer_bytes}
use Rattle.packet_flow.specs.Numbered.{Numbered, answers_to}
use Rattle.packet_flow.specs.Slots.{StandFor}

-- Of these packets some in front are written and counted, and the places are for the others.
pub record HasWritten (plan : Plan) (ps : List Numbered) (entries : List (Entry Card)) (ss : List Seat) (before after : Counts)
    (Says : (gone left : List Numbered) → Type 0) : Type 0 where
  pub gone : List Numbered
  pub left : List Numbered
  pub split : ps ≡ gone ++ left
  pub stand : StandFor plan left ss entries
  pub counts : (answers : List Answered) → before ≡ counts_of answers → after ≡ counts_of (answers ++ answers_to plan gone)
  pub says : Says gone left

-- the records of the packets that are gone were appended
abbrev pub Appends : Plan → (big : Bool) → (k_tells : Type 0) → (old new : List ℕ) → (gone left : List Numbered) → Type 0
Appends plan big k_tells old new gone left = k_tells → new ≡ old ++ flat_map (answer_bytes big) (answers_to plan gone)

-- and of the next one a front, and not all of it
abbrev pub CutsNext : Plan → (big : Bool) → (k_tells : Type 0) → (old new : List ℕ) → (gone left : List Numbered) → Type 0
CutsNext plan big k_tells old new gone left = k_tells → (next : Numbered) × (others : List Numbered) × (left ≡ next ∷ others)
    × AppendsPart (old ++ flat_map (answer_bytes big) (answers_to plan gone)) new (answer_bytes big (answered plan next.number next.rec))
