-- A capture on its way through an event adapter.
use Rattle.std.specs.Prelude.{◌≡◌, ◌+◌, ◌-◌, ◌*◌, ◌^◌, ◌≤◌, ◌⊎◌, ℕ, List, [], length, None, Some}
use Rattle.crypto_op.specs.declared.spec.Card.{Card}
use Rattle.crypto_op.specs.Op.{Entry}
use Rattle.dev_core.specs.declared.driver.Driver.{Ghosts}
use Rattle.dev_core.specs.declared.driver.LogEntry.{LogEntry}
use Rattle.dev_core.specs.Calls.{Call}
use Rattle.event_adapter.specs.Adapter.{moved_of}
use Rattle.capture_io.specs.Capture.{Rec, Rest, Records, first_place}
use Rattle.capture_io.specs.declared.header.ReadStop.{ReadStop}
use Rattle.session_file.specs.declared.plan.Plan.{Plan}
use Rattle.packet_plan.specs.Asked.{sessions_of}
use Rattle.packet_flow.specs.declared.counts.Counts.{Counts}
use Rattle.packet_flow.specs.declared.flow.FlowEnd.{FlowEnd}
use Rattle.packet_flow.specs.declared.flow.TheConstants.{PATIENCE}
use Rattle.packet_flow.specs.declared.passage.Passage.{Passage}
use Rattle.packet_flow.specs.declared.route.Route.{Route}
use Rattle.packet_flow.specs.Flowed.{EndsWhole, Flowed}
use Rattle.packet_flow.specs.Passage.{Before, IsUnderway, Outside}
use Rattle.packet_flow.specs.Routes.{Carries, ahead, back_in, inbox_of, on_way, steps}
use Rattle.packet_flow.specs.Turns.{IsAt}

-- What is outside where operations go by events: those that were put into the port are taken, and what is on its way is held.
abbrev pub beyond : (left written : List ℕ) → (way : List (Entry Card)) → (put : ℕ) → (past : List Call) → Outside
beyond left written way put past = record { left = left; written = written; held = way; enqueued = put; log = None; past = past }

-- Between two turns: all operations that were made were put into the port, in bursts of 32, and those that the device did not
-- accept are ahead of it.
pub record IsForwarding {D : Type 0} (driver : Ghosts D Card) (plan : Plan) (b : Before) (s_tells k_tells : Type 0)
    (first : D) (stalled : ℕ) (p : Passage) (r : Route D) (left written : List ℕ) : Type 0 where
  pub carries : Carries driver (sessions_of plan) first stalled r
  pub past : List Call
  pub at : IsAt past p.burst.ops
  pub underway : IsUnderway plan b s_tells k_tells p (beyond left written (on_way driver r) p.made past)
  pub put : p.burst.ops ≡ []
  pub size : b.size ≡ 32
  pub none_back : back_in r ≡ []
  pub balance : (moved_of r.adapter).submitted + ahead r ≡ p.made

-- It ended so, by every reading of the capture: these operations were put into the port, and the device accepted as many of
-- them, or fewer where the end is an early one.
abbrev pub ForwardsAs : Plan → Before → Type 0 → Type 0 → FlowEnd → Counts → (written : List ℕ) → (accepted : ℕ) → Type 0
ForwardsAs plan b s_tells k_tells end counts written accepted = s_tells → k_tells → (rs : List Rec) (rest : Rest) → Records b.big first_place b.bytes rs rest
    → (put : List LogEntry) × Flowed plan b.big rs rest end counts b.base written put × (accepted ≤ length put) × (EndsWhole end → accepted ≡ length put)

-- It is over, and the device went on from the first to what it is now.
pub record IsOver {D : Type 0} (driver : Ghosts D Card) (plan : Plan) (b : Before) (s_tells k_tells : Type 0)
    (first : D) (stalled : ℕ) (end : FlowEnd) (counts : Counts) (r : Route D) (written : List ℕ) : Type 0 where
  pub carries : Carries driver (sessions_of plan) first stalled r
  pub ends : ForwardsAs plan b s_tells k_tells end counts written (driver.stats carries.serves.pair.dev).enqueued
  pub patience : end ≡ FlowEnd.Stalled → PATIENCE * (1 + (driver.stats carries.serves.pair.dev).enqueued) ≤ stalled

-- enough for a run of the adapter: as many as it takes at once, or all that are left of the capture
abbrev pub IsFed : {D : Type 0} → Passage → Route D → Type 0
IsFed p r = (32 ≤ length (inbox_of r)) ⊎ ((p.window.waiting ≡ []) × (stop : ReadStop) × (p.window.stop ≡ Some stop))

-- how many steps all operations have ahead, with those that may still be put into the port
abbrev pub steps_ahead : {D : Type 0} → Ghosts D Card → Passage → Route D → ℕ
steps_ahead driver p r = steps driver r + 4 * (2 ^ 32 - p.made)
