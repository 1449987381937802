-- How far a capture was read.
use Rattle.std.specs.Prelude.{◌≡◌, ◌++◌, ◌⊎◌, ℕ, Bool, List, [], Option, None, Some}
use Rattle.capture_io.specs.declared.header.ReadStop.{ReadStop}
use Rattle.capture_io.specs.declared.header.ReadStop.TheVariants.{Fault, BadCapture, OutOfMemory}
use Rattle.capture_io.specs.declared.header.Place.{Place}
use Rattle.capture_io.specs.Capture.{Rec, Rest, End, Bad, Large, Records, first_place}
use Rattle.packet_flow.specs.Window.{Ahead, IsInRange}

-- The records so far and the stop, against the records and the rest that the capture has.
abbrev pub ReadsAs : List Rec → ReadStop → List Rec → Rest → Type 0
ReadsAs so_far ReadStop.End rs rest = (rs ≡ so_far) × (rest ≡ End)
ReadsAs so_far (BadCapture at cause) rs rest = (rs ≡ so_far) × (rest ≡ Bad at cause)
ReadsAs so_far (ReadStop.TooLarge value) rs rest = (rs ≡ so_far) × (rest ≡ Large value)
ReadsAs so_far Fault rs rest = (more : List Rec) × (rs ≡ so_far ++ more)
ReadsAs so_far OutOfMemory rs rest = (more : List Rec) × (rs ≡ so_far ++ more)

-- What was read so far is the front of any reading, and what is left goes on with the rest of it.
abbrev pub HasRead : Bool → List ℕ → List Rec → Place → List ℕ → Type 0
HasRead big bytes so_far place left = (rs : List Rec) (rest : Rest) → Records big first_place bytes rs rest
    → (more : List Rec) × (rs ≡ so_far ++ more) × Records big place left more rest

-- The reading goes on from here, or it stopped.
abbrev pub GoesOn : Bool → List ℕ → List Rec → Place → List ℕ → Option ReadStop → Type 0
GoesOn big bytes so_far place left None = HasRead big bytes so_far place left
GoesOn big bytes so_far place left (Some stop) = (rs : List Rec) (rest : Rest) → Records big first_place bytes rs rest → ReadsAs so_far stop rs rest

-- the whole of the capture is known, but for what stands behind the stop
abbrev pub IsWholeStop : ReadStop → Type 0
IsWholeStop Fault = ⊥
IsWholeStop OutOfMemory = ⊥
IsWholeStop _ = Unit {0}

-- From one window to the next the reading goes on, whatever was given before. A stop is one that stood there, or a whole one.
pub record Moves (big : Bool) (tells : Type 0) (left left' : List ℕ) (old new : Ahead) : Type 0 where
  pub reads : tells → (bytes : List ℕ) (given : List Rec) → GoesOn big bytes (given ++ old.waiting) old.place left old.stop
      → GoesOn big bytes (given ++ new.waiting) new.place left' new.stop
  pub next : new.next ≡ old.next
  pub range : IsInRange new
  pub stops : (stop : ReadStop) → new.stop ≡ Some stop
      → ((old.stop ≡ Some stop) × (left' ≡ left)) ⊎ (IsWholeStop stop × (tells → stop ≡ ReadStop.End → left' ≡ []))
