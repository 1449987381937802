-- A port in memory.
use Rattle.std.specs.Prelude.{ℕ, min, Option, None, Some, List, length}
use Rattle.crypto_op.specs.Burst.{Burst}
use Rattle.dev_core.specs.Burst.{room_of}
use Rattle.dev_core.specs.Limits.{next_limit, least}
use Rattle.dev_core.specs.declared.limits.Limits.{Limits}
use Rattle.dev_core.specs.declared.limits.Limits.TheVariants.{Never, Always, Listed}
use Rattle.dev_core.specs.declared.limits.LimitedCalls.{LimitedCalls}
use Rattle.event_adapter.specs.declared.event.Event.{Event}

-- how many events a dequeue could move
abbrev pub could_give : {C : Type 0} → ℕ → Burst (Event C) → List (Event C) → ℕ
could_give max out inbox = min (min max (room_of out)) (length inbox)

-- how many of a burst a send moves: no more than its limit, and than there is room for
abbrev pub can_send : {C : Type 0} → LimitedCalls → ℕ → Burst (Event C) → ℕ
can_send sends room burst = min (least (next_limit sends) (length burst.ops)) room

-- the room that is left, which a port tells exactly where it has no limits
abbrev pub told_room : Limits → Limits → ℕ → Option ℕ
told_room Never Never n = Some n
told_room Never (Always m) n = None
told_room Never (Listed ms) n = None
told_room (Always m) l n = None
told_room (Listed ms) l n = None
