-- The operations that a plan makes of a capture, in its order.
use Rattle.std.specs.Prelude.{◌≡◌, ℕ, ◌+◌, ◌==◌, List, [], ◌++◌, ◌∷◌, if◌then◌else◌}
use Rattle.crypto_model.specs.Process.{Input}
use Rattle.dev_core.specs.declared.driver.LogEntry.{LogEntry}
use Rattle.capture_io.specs.Capture.{Rec}
use Rattle.session_file.specs.declared.plan.Plan.{Plan}
use Rattle.packet_plan.specs.Asked.{asked, inputs_of}

-- what is asked for of the records from number n on: nothing of one that passes or is short
unfoldable pub inputs_from : Plan → (n : ℕ) → List Rec → List Input
inputs_from plan n [] = []
inputs_from plan n (r ∷ rs) = inputs_of (asked plan n r.packet) ++ inputs_from plan (n + 1) rs

-- what a log tells of operation k: its data are those of the cipher, or of the code where that has none
abbrev pub entry_for : (k : ℕ) → Input → LogEntry
entry_for k input = record {
  session = input.session;
  data_len = if input.cipher.len == 0 then input.auth.len else input.cipher.len;
  pos = k;
}

-- the operations on these inputs, numbered from k on
unfoldable pub entries_of : (k : ℕ) → List Input → List LogEntry
entries_of k [] = []
entries_of k (input ∷ inputs) = entry_for k input ∷ entries_of (k + 1) inputs

-- the operations of a capture, numbered from k on
abbrev pub entries_from : Plan → (k : ℕ) → List Rec → List LogEntry
entries_from plan k rs = entries_of k (inputs_from plan 0 rs)

-- their numbers are k, k + 1, k + 2 ..
abbrev pub IsNumbered : (k : ℕ) → List LogEntry → Type 0
IsNumbered k [] = Unit {0}
IsNumbered k (e ∷ es) = (e.pos ≡ k) × IsNumbered (k + 1) es
