-- Which worker gets which operations of a run in which none of them stalls.
use Rattle.std.specs.Prelude.{◌≡◌, ℕ, zero, suc, ◌+◌, Bool, List, [], ◌∷◌, ◌++◌, length, take, drop, count_by}
use Rattle.std.specs.List.{flat_map}
use Rattle.dev_core.specs.declared.driver.LogEntry.{LogEntry}
use Rattle.sched_core.specs.declared.mode.Mode.{Mode}
use Rattle.sched_core.specs.declared.mode.Mode.TheVariants.{RoundRobin, PacketSize, FailOver, MultiCore}
use Rattle.sched_modes.specs.Crew.{next, of_size, only_for, total}

-- at most m pieces of n elements, of which the last may have fewer
unfoldable pub pieces : {X : Type 0} → (m n : ℕ) → List X → List (List X)
pieces zero n xs = []
pieces (suc m) n [] = []
pieces (suc m) n (x ∷ xs) = take n (x ∷ xs) ∷ pieces m n (drop n (x ∷ xs))

-- the list in pieces of n elements, of which the last may have fewer
abbrev pub chunks : {X : Type 0} → ℕ → List X → List (List X)
chunks n xs = pieces (length xs) n xs

-- What the calls take, one after another: the operations are offered in bursts of `size`, a call takes at most `most` of a
-- burst, and the rest of a burst is offered before a new one is begun.
abbrev pub calls : (most size : ℕ) → List LogEntry → List (List LogEntry)
calls most size ops = flat_map (chunks most) (chunks size ops)

-- what worker k gets of these calls, where the turn moves behind each
unfoldable pub in_turn : (workers turn : ℕ) → List (List LogEntry) → (k : ℕ) → List LogEntry
in_turn workers turn [] k = []
in_turn workers turn (taken ∷ calls) k = only_for turn taken k ++ in_turn workers (next workers turn) calls k

-- what worker k gets of one call by fail-over: worker 0 the first, as many as it has room for, and worker 1 the others
abbrev pub fail_share : (depth : ℕ) → List LogEntry → (k : ℕ) → List LogEntry
fail_share depth taken k = only_for 0 (take depth taken) k ++ only_for 1 (drop depth taken) k

-- What worker k gets, from workers that have room for `depth` whenever a burst is offered. (Multi-core is no mode of a
-- scheduler on one thread.)
abbrev pub assign : Mode → (threshold : ℕ) → (depth workers size : ℕ) → List LogEntry → ℕ → List LogEntry
assign RoundRobin threshold depth workers size ops k = in_turn workers 0 (calls depth size ops) k
assign PacketSize threshold depth workers size ops k = of_size threshold k ops
assign FailOver threshold depth workers size ops k = flat_map (λ taken. fail_share depth taken k) (calls (depth + depth) size ops)
assign MultiCore threshold depth workers size ops k = []

-- each element is in exactly one of these lists: of every kind they have together as many as there are
abbrev pub AreDealtOut : {X : Type 0} → (workers : ℕ) → (ℕ → List X) → List X → Type 0
AreDealtOut {X} workers parts xs = (p : X → Bool) → total workers (λ k. count_by p (parts k)) ≡ count_by p xs
