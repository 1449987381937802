-- How many operations a scheduler accepts if none of its workers stalls, where they tell their rooms.
use Rattle.std.specs.Prelude.{ℕ, zero, suc, ◌+◌, ◌-◌, min, nat_lt, List, [], ◌∷◌, length, take, Option, None, Some, option_map, if◌then◌else◌}
use Rattle.sched_modes.specs.Crew.{Crew, worker, free, one_at, size_worker}

-- round-robin: as many as the worker whose turn it is has room for
abbrev pub round_admits : Crew → List ℕ → Option ℕ
round_admits c lens = option_map (λ r. min (free c.ring (length lens)) r) (worker c c.turn).room

-- both rooms together, where both are told
abbrev pub both : Option ℕ → Option ℕ → Option ℕ
both None b = None
both (Some a) None = None
both (Some a) (Some b) = Some (a + b)

-- fail-over: as many as both workers have room for
abbrev pub fail_admits : Crew → List ℕ → Option ℕ
fail_admits c lens = option_map (λ r. min (free c.ring (length lens)) r) (both (worker c 0).room (worker c 1).room)

-- of two rooms that of worker j
abbrev pub room_for : ℕ → ℕ → ℕ → ℕ
room_for zero r s = r
room_for (suc j) r s = s

-- the length of the longest prefix in which neither worker's share passes its room
abbrev pub longest : ℕ → ℕ → ℕ → List ℕ → ℕ
longest threshold r s [] = 0
longest threshold r s (l ∷ ls) =
    if nat_lt 0 (room_for (size_worker threshold l) r s)
    then suc (longest threshold (r - one_at (size_worker threshold l) 0) (s - one_at (size_worker threshold l) 1) ls)
    else 0

abbrev pub longest_told : ℕ → Option ℕ → Option ℕ → List ℕ → Option ℕ
longest_told threshold None s ls = None
longest_told threshold (Some r) None ls = None
longest_told threshold (Some r) (Some s) ls = Some (longest threshold r s ls)

-- by packet size: the longest prefix that fits both rooms
abbrev pub size_admits : ℕ → Crew → List ℕ → Option ℕ
size_admits threshold c lens = longest_told threshold (worker c 0).room (worker c 1).room (take (free c.ring (length lens)) lens)
