-- What is known of a stalling device.
use Rattle.std.specs.Prelude.{◌≡◌, ℕ}
use Rattle.dev_core.specs.Calls.{Call, Offers, Asks}
use Rattle.dev_core.specs.Limits.{counted, next_limit}
use Rattle.dev_core.specs.Over.{DequeuesUpto, EnqueuesUpto}
use Rattle.dev_core.specs.declared.driver.Driver.{Ghosts}
use Rattle.dev_core.specs.declared.stats.Stats.{Stats}
use Rattle.dev_core.specs.declared.limits.LimitedCalls.{LimitedCalls}
use Rattle.dev_core.specs.declared.stall.StallDriver.{StallDriver}

abbrev pub inner_of : {D : Type 0} → StallDriver D → D
inner_of d = d.over.inner

-- the limits of enqueue calls, and how many such calls were made
abbrev pub enqueues_of : {D : Type 0} → StallDriver D → LimitedCalls
enqueues_of d = d.enqueues

abbrev pub dequeues_of : {D : Type 0} → StallDriver D → LimitedCalls
dequeues_of d = d.dequeues

-- in how many calls a limit cut the number
abbrev pub stall_cuts : {D : Type 0} → StallDriver D → ℕ
stall_cuts d = d.over.cuts

abbrev pub stall_stats : {D : Type 0} → StallDriver D → Stats
stall_stats d = d.over.stats

-- What a call does: each kind of call has its own limits.
abbrev pub StallDoes : {C D : Type 0} → Ghosts D C → StallDriver D → Call → StallDriver D → Type 0
StallDoes m old (Offers ops n) new = EnqueuesUpto m (next_limit old.enqueues) ops n old.over new.over × (new.enqueues ≡ counted old.enqueues)
    × (new.dequeues ≡ old.dequeues)
StallDoes m old (Asks most n) new = DequeuesUpto m (next_limit old.dequeues) most n old.over new.over × (new.dequeues ≡ counted old.dequeues)
    × (new.enqueues ≡ old.enqueues)
