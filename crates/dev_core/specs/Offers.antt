-- Which operations a flow of calls offers: each burst once, what is left of it before a new one.
use Rattle.std.specs.Prelude.{◌≡◌, ◌≤◌, ◌<◌, ℕ, ◌+◌, List, [], ◌∷◌, length, take, drop}
use Rattle.dev_core.specs.declared.driver.LogEntry.{LogEntry}
use Rattle.dev_core.specs.Calls.{Call, Offers, Asks}

-- how many operations these calls took
abbrev pub taken_by : List Call → ℕ
taken_by [] = 0
taken_by (Offers ops n ∷ past) = taken_by past + n
taken_by (Asks most n ∷ past) = taken_by past

-- what the last enqueue call left of the burst
abbrev pub rest_of_burst : List Call → List LogEntry
rest_of_burst [] = []
rest_of_burst (Offers ops n ∷ past) = drop n ops
rest_of_burst (Asks most n ∷ past) = rest_of_burst past

-- What is offered next of these operations, where k are taken: what is left of the last burst or, where nothing is left
-- of it, the next operations up to the burst size.
abbrev pub next_burst : (size : ℕ) → List LogEntry → (k : ℕ) → (left : List LogEntry) → List LogEntry
next_burst size ops k [] = take size (drop k ops)
next_burst size ops k (e ∷ es) = e ∷ es

-- since the last burst a call gave fewer than it was asked for
abbrev pub IsDrained : List Call → Type 0
IsDrained [] = Unit {0}
IsDrained (Offers ops n ∷ past) = ⊥
IsDrained (Asks most n ∷ past) = n < most

-- Calls, the newest first, that offer these operations in bursts of at most `size`: each burst is the right one and isn't
-- empty, and is offered when the driver was drained behind the one before it.
abbrev pub Flows : ℕ → List LogEntry → List Call → Type 0
Flows size ops [] = Unit {0}
Flows size ops (Offers burst n ∷ past) =
    (burst ≡ next_burst size ops (taken_by past) (rest_of_burst past)) × (0 < length burst) × (n ≤ length burst) × IsDrained past × Flows size ops past
Flows size ops (Asks most n ∷ past) = Flows size ops past
