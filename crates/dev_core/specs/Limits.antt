-- How many operations the calls of one kind may move.
use Rattle.std.specs.Prelude.{ℕ, ◌+◌, min, Bool, false, nat_lt, if◌then◌else◌, Option, None, Some, slice_get}
use Rattle.crypto_model.specs.Counts.{capped}
use Rattle.dev_core.specs.declared.limits.Limits.{Limits}
use Rattle.dev_core.specs.declared.limits.Limits.TheVariants.{Never, Always, Listed}
use Rattle.dev_core.specs.declared.limits.LimitedCalls.{LimitedCalls}

-- the limit of call i, counted from 0
abbrev pub limit_at : Limits → ℕ → Option ℕ
limit_at Never i = None
limit_at (Always limit) i = Some limit
limit_at (Listed limits) i = slice_get limits i

-- the limit of the next call
abbrev pub next_limit : LimitedCalls → Option ℕ
next_limit c = limit_at c.limits c.calls

-- after one call more
abbrev pub counted : LimitedCalls → LimitedCalls
counted c = record c { calls = capped (c.calls + 1) }

-- the least of a number and a limit
abbrev pub least : Option ℕ → ℕ → ℕ
least None n = n
least (Some limit) n = min n limit

-- whether a limit cuts a number
abbrev pub is_cut : Option ℕ → ℕ → Bool
is_cut None n = false
is_cut (Some limit) n = nat_lt limit n

-- a count of the calls in which a limit cut the number, after a call that could move n
abbrev pub cuts_after : Option ℕ → ℕ → ℕ → ℕ
cuts_after limit n cuts = if is_cut limit n then capped (cuts + 1) else cuts
