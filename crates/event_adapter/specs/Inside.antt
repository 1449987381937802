-- What is inside an adapter.
use Rattle.std.specs.Prelude.{◌≡◌, ℕ, ◌-◌, ◌<◌, ◌==◌, min, List, [], ◌∷◌, ◌++◌, length, map, Bool, not, slice_index_or}
use Rattle.std.specs.List.{count_by, filter, flat_map, list_any}
use Rattle.crypto_op.specs.declared.op.Op.{Op}
use Rattle.crypto_op.specs.Op.{Entry, entry_of}
use Rattle.crypto_op.specs.Burst.{Burst}
use Rattle.dev_core.specs.declared.driver.Driver.{Ghosts}
use Rattle.event_adapter.specs.declared.event.Event.{Event}
use Rattle.event_adapter.specs.declared.queue_pair.QueuePair.{QueuePair}
use Rattle.event_adapter.specs.Source.{Source, entries_for, source_of, tagged}

abbrev pub ids : {C D : Type 0} → List (QueuePair C D) → List ℕ
ids ps = map (λ p. p.id) ps

abbrev pub is_known : {C D : Type 0} → List (QueuePair C D) → ℕ → Bool
is_known ps id = list_any (λ x. x == id) (ids ps)

-- the events of no queue pair
abbrev pub strangers : {C D : Type 0} → List (QueuePair C D) → List (Event C) → List (Event C)
strangers ps es = filter (λ e. not (is_known ps e.qp)) es

-- no number twice
abbrev pub IsDistinct : List ℕ → Type 0
IsDistinct xs = (i j : ℕ) → i < length xs → j < length xs → slice_index_or xs i 0 ≡ slice_index_or xs j 0 → i ≡ j

-- an empty in buffer
abbrev pub IsIdle : {C : Type 0} → Burst (Op C) → Type 0
IsIdle b = b ≡ record { cap = 32; ops = [] }

-- the least room of an in buffer, and 32 where there is none
abbrev pub least_room : {C D : Type 0} → List (QueuePair C D) → ℕ
least_room [] = 32
least_room (p ∷ ps) = min (32 - length p.waiting.ops) (least_room ps)

-- what waits for a queue pair's device and what that holds
abbrev pub bag_of : {C D : Type 0} → Ghosts D C → QueuePair C D → List (Source C)
bag_of driver p = map (tagged p.id) (map entry_of p.waiting.ops ++ driver.held p.dev)

-- with what is in the out buffer
abbrev pub inside : {C D : Type 0} → Ghosts D C → List (QueuePair C D) → List (Event C) → List (Source C)
inside driver ps out = flat_map (bag_of driver) ps ++ map source_of out

-- how much of that is of one queue pair
abbrev pub inside_at : {C D : Type 0} → Ghosts D C → List (QueuePair C D) → List (Event C) → ℕ → ℕ
inside_at driver ps out id = count_by (λ s. s.qp == id) (inside driver ps out)

-- what is inside of a queue pair, the first to leave first: in the out buffer, in its device, in its in buffer
abbrev pub line_of : {C D : Type 0} → Ghosts D C → QueuePair C D → List (Event C) → List (Entry C)
line_of driver p out = entries_for p.id out ++ (driver.held p.dev ++ map entry_of p.waiting.ops)
