-- Counts that stand still at the last value of a u64.
use Rattle.std.specs.Prelude.{ℕ, ◌+◌, ◌-◌, ◌^◌, ◌≤◌, min}

abbrev pub capped : ℕ → ℕ
capped n = min n (2 ^ 64 - 1)

-- a count rose, or stands at its last value
abbrev pub Rose : ℕ → ℕ → Type 0
Rose before now = capped (before + 1) ≤ now
