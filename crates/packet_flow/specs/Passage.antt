-- A capture on its way: what was read, begun, taken and written so far.
use Rattle.std.specs.Prelude.{◌≡◌, ◌<◌, ◌≤◌, ◌++◌, ◌⊎◌, ℕ, Bool, List, [], length, map, Option, Some, option_map}
use Rattle.std.specs.List.{All, flat_map}
use Rattle.crypto_model.specs.Counts.{capped}
use Rattle.crypto_op.specs.declared.spec.Card.{Card}
use Rattle.crypto_op.specs.Op.{Entry, IsFresh, entry_of}
use Rattle.dev_core.specs.declared.driver.LogEntry.{LogEntry}
use Rattle.dev_core.specs.declared.stats.Stats.{Stats}
use Rattle.dev_core.specs.Burst.{log_entry}
use Rattle.capture_io.specs.Capture.{Rec, Rest, Records, first_place}
use Rattle.session_file.specs.declared.plan.Plan.{Plan}
use Rattle.packet_flow.specs.declared.counts.Counts.{Counts}
use Rattle.packet_flow.specs.declared.passage.Passage.{Passage}
use Rattle.packet_flow.specs.declared.flow.FlowEnd.{FlowEnd}
use Rattle.packet_flow.specs.Counts.{counts_of}
use Rattle.packet_flow.specs.Entries.{entries_from}
use Rattle.dev_core.specs.Calls.{Call}
use Rattle.dev_core.specs.Offers.{Flows, taken_by}
use Rattle.packet_flow.specs.Flowed.{EndsWhole, Flowed, answer_bytes}
use Rattle.capture_io.specs.declared.header.ReadStop.{ReadStop}
use Rattle.packet_flow.specs.Reads.{GoesOn, IsWholeStop}
use Rattle.packet_flow.specs.Numbered.{Numbered, answers_to, numbered}
use Rattle.packet_flow.specs.Slots.{StandFor}
use Rattle.packet_flow.specs.Seats.{AllIn, WaitsAtFront}
use Rattle.packet_flow.specs.Window.{IsInRange, fresh_window}

-- what there was before the first packet: the capture behind its header, what was written, the driver's log, and the
-- burst size
pub record Before : Type 0 where
  pub big : Bool
  pub bytes : List ℕ
  pub base : List ℕ
  pub log : Option (List LogEntry)
  pub size : ℕ

abbrev pub before : Bool → (bytes base : List ℕ) → (log : Option (List LogEntry)) → (size : ℕ) → Before
before big bytes base log size = record { big = big; bytes = bytes; base = base; log = log; size = size }

-- what there is now outside: what is left of the capture, what is written, what the driver holds and counts, and the
-- calls that it has answered
pub record Outside : Type 0 where
  pub left : List ℕ
  pub written : List ℕ
  pub held : List (Entry Card)
  pub enqueued : ℕ
  pub log : Option (List LogEntry)
  pub past : List Call

abbrev pub outside : (left written : List ℕ) → (held : List (Entry Card)) → Stats → (log : Option (List LogEntry)) → (past : List Call) → Outside
outside left written held stats log past = record { left = left; written = written; held = held; enqueued = stats.enqueued; log = log; past = past }

-- the driver counts these operations, and its log tells them, if it tells any
pub record TellsTaken (b : Before) (taken : List LogEntry) (enqueued : ℕ) (log : Option (List LogEntry)) : Type 0 where
  pub enqueued_is : enqueued ≡ capped (length taken)
  pub log_is : log ≡ option_map (λ l. taken) b.log

-- On the way: `used` are the records that were begun, of which those of `done` are written, and `taken` are the
-- operations that the driver took. What was read or written is known where source or sink tell it.
pub record IsUnderway (plan : Plan) (b : Before) (s_tells k_tells : Type 0) (p : Passage) (o : Outside) : Type 0 where
  pub used : List Rec
  pub done : List Numbered
  pub waiting : List Numbered
  pub taken : List LogEntry
  pub split : numbered 0 used ≡ done ++ waiting
  pub reads : s_tells → GoesOn b.big b.bytes (used ++ p.window.waiting) p.window.place o.left p.window.stop
  pub writes : k_tells → o.written ≡ b.base ++ flat_map (answer_bytes b.big) (answers_to plan done)
  pub stand : StandFor plan waiting p.slots (o.held ++ map entry_of p.burst.ops)
  pub counts : p.counts ≡ counts_of (answers_to plan done)
  pub made : p.made ≡ length (entries_from plan 0 used)
  pub queued : taken ++ map log_entry p.burst.ops ≡ entries_from plan 0 used
  pub device : TellsTaken b taken o.enqueued o.log
  pub few : length o.held ≤ length taken
  pub fresh : All IsFresh p.burst.ops
  pub front : WaitsAtFront p.slots
  pub order : AllIn b.big p.slots
  pub stopped : (stop : ReadStop) → p.window.stop ≡ Some stop → IsWholeStop stop × (s_tells → stop ≡ ReadStop.End → o.left ≡ [])
  pub next : p.window.next ≡ length used
  pub range : IsInRange p.window
  pub back : p.back.ops ≡ []
  pub sizes : (p.burst.cap ≡ b.size) × (p.back.cap ≡ b.size) × (0 < b.size)
  pub took : length taken ≡ taken_by o.past
  pub offers : (more : List LogEntry) → ((stop : ReadStop) → p.window.stop ≡ Some stop → p.window.waiting ≡ [] → more ≡ [])
      → Flows b.size (entries_from plan 0 used ++ more) o.past

-- It ended so, by every reading of the capture.
abbrev pub EndsAs : Plan → Before → Type 0 → Type 0 → FlowEnd → Counts → Outside → Type 0
EndsAs plan b s_tells k_tells end counts o = s_tells → k_tells → (rs : List Rec) (rest : Rest) → Records b.big first_place b.bytes rs rest
    → (taken : List LogEntry) × TellsTaken b taken o.enqueued o.log × Flowed plan b.big rs rest end counts b.base o.written taken
    × (length taken ≡ taken_by o.past) × Flows b.size (entries_from plan 0 rs) o.past

-- The burst is as it was, where something was left of it. Else it is full, or the capture ended.
abbrev pub IsFilled : Passage → Passage → Type 0
IsFilled old new = ((0 < length old.burst.ops) × (new.burst ≡ old.burst))
    ⊎ ((old.burst.ops ≡ []) × (length new.burst.ops ≤ new.burst.cap)
    × ((length new.burst.ops ≡ new.burst.cap) ⊎ ((new.window.waiting ≡ []) × (stop : ReadStop) × (new.window.stop ≡ Some stop))))

-- nothing is read yet
pub record IsUnbegun (size : ℕ) (p : Passage) : Type 0 where
  pub window : p.window ≡ fresh_window
  pub slots : p.slots ≡ []
  pub made : p.made ≡ 0
  pub counts : p.counts ≡ counts_of []
  pub burst : p.burst ≡ record { cap = size; ops = [] }
  pub back : p.back ≡ record { cap = size; ops = [] }

-- an end before the capture is read, written and worked on whole
abbrev pub IsEarly : FlowEnd → Type 0
IsEarly end = EndsWhole end → ⊥
