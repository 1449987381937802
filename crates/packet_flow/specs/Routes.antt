-- A device behind an event adapter, and the port that leads there.
use Rattle.std.specs.Prelude.{◌≡◌, ◌==◌, ◌+◌, ◌*◌, ◌≤◌, ◌++◌, ℕ, List, [], ◌∷◌, length, map, IsPermutation}
use Rattle.std.specs.Int.{from_bool}
use Rattle.std.specs.List.{All}
use Rattle.crypto_model.specs.Counts.{capped}
use Rattle.crypto_model.specs.Process.{Transform}
use Rattle.crypto_op.specs.declared.spec.Card.{Card}
use Rattle.crypto_op.specs.Op.{Entry}
use Rattle.dev_core.specs.declared.driver.Driver.{Ghosts}
use Rattle.dev_core.specs.declared.limits.Limits.TheVariants.{Never}
use Rattle.event_adapter.specs.declared.event.Event.{Event}
use Rattle.event_adapter.specs.declared.event.EventKind.TheVariants as kind
use Rattle.event_adapter.specs.declared.mem_port.MemPort.{MemPort}
use Rattle.event_adapter.specs.declared.moved.AdapterMode.TheVariants.{Forward}
use Rattle.event_adapter.specs.declared.queue_pair.QueuePair.{QueuePair}
use Rattle.event_adapter.specs.Adapter.{mode_of, moved_of, out_of, pairs_of}
use Rattle.event_adapter.specs.Inside.{inside}
use Rattle.event_adapter.specs.Source.{IsAnswer, Source, entry_in}
use Rattle.packet_flow.specs.declared.route.Route.{Route}
use Rattle.packet_flow.specs.Turns.{NeverIdle}

-- the events that the adapter didn't take yet
abbrev pub inbox_of : {D : Type 0} → Route D → List (Event Card)
inbox_of r = r.port.inbox.items

-- the events that came back and weren't taken yet
abbrev pub back_in : {D : Type 0} → Route D → List (Event Card)
back_in r = r.port.sent.items

abbrev pub entry_from : Source Card → Entry Card
entry_from s = s.entry

-- the operations on their way: in the adapter, in its device, and those that the adapter didn't take yet
abbrev pub on_way : {D : Type 0} → Ghosts D Card → Route D → List (Entry Card)
on_way driver r = map entry_from (inside driver (pairs_of r.adapter) (out_of r.adapter)) ++ map entry_in (inbox_of r)

abbrev pub IsForFirst : Event Card → Type 0
IsForFirst e = e.qp ≡ 0

-- a port with room for 128 events, and no limits
pub record IsWide (port : MemPort Card) : Type 0 where
  pub cap : port.cap ≡ 128
  pub takes : port.takes.limits ≡ Never
  pub sends : port.sends.limits ≡ Never

-- One device with these sessions serves the events, as queue pair 0. What goes back are its answers.
pub record Serves {D : Type 0} (driver : Ghosts D Card) (sessions : List (List Transform)) (r : Route D) : Type 0 where
  pub pair : QueuePair Card D
  pub alone : pairs_of r.adapter ≡ pair ∷ []
  pub id : pair.id ≡ 0
  pub mode : mode_of r.adapter ≡ Forward
  pub table : driver.sessions pair.dev ≡ sessions
  pub back : All (IsAnswer kind.Forward 0 sessions) (out_of r.adapter)
  pub few_out : length (out_of r.adapter) ≤ 64
  pub inbox : All IsForFirst (inbox_of r)
  pub few_in : length (inbox_of r) ≤ 64
  pub wide : IsWide r.port
  pub counted : capped (driver.stats pair.dev).enqueued ≡ (moved_of r.adapter).submitted

-- The device goes on from this one, which is never idle, and stalled so many times more at least.
pub record Carries {D : Type 0} (driver : Ghosts D Card) (sessions : List (List Transform)) (first : D) (stalled : ℕ) (r : Route D) : Type 0 where
  pub serves : Serves driver sessions r
  pub works : (d : D) → driver.follows first d → NeverIdle driver.admits driver.held d
  pub follows : driver.follows first serves.pair.dev
  pub later : driver.stalls first ≤ driver.stalls serves.pair.dev
  pub stalls : capped (driver.stalls first + stalled) ≤ driver.stalls serves.pair.dev

-- how many steps the operations at queue pairs have ahead until they are sent
abbrev pub steps_in : {D : Type 0} → Ghosts D Card → List (QueuePair Card D) → ℕ
steps_in driver [] = 0
steps_in driver (p ∷ ps) = 3 * length p.waiting.ops + 2 * length (driver.held p.dev) + steps_in driver ps

-- and all of them: into the adapter, into the device, out of it, and to the port
abbrev pub steps : {D : Type 0} → Ghosts D Card → Route D → ℕ
steps driver r = 4 * length (inbox_of r) + steps_in driver (pairs_of r.adapter) + length (out_of r.adapter)

-- how many operations the device did not accept yet
abbrev pub ahead_in : {D : Type 0} → List (QueuePair Card D) → ℕ
ahead_in [] = 0
ahead_in (p ∷ ps) = length p.waiting.ops + ahead_in ps

abbrev pub ahead : {D : Type 0} → Route D → ℕ
ahead r = length (inbox_of r) + ahead_in (pairs_of r.adapter)

-- a new route to this device
pub record IsNewRoute {D : Type 0} (driver : Ghosts D Card) (dev : D) (r : Route D) : Type 0 where
  pub pair : QueuePair Card D
  pub alone : pairs_of r.adapter ≡ pair ∷ []
  pub id : pair.id ≡ 0
  pub dev_is : pair.dev ≡ dev
  pub none_waits : pair.waiting.ops ≡ []
  pub mode : mode_of r.adapter ≡ Forward
  pub none_out : out_of r.adapter ≡ []
  pub none_in : inbox_of r ≡ []
  pub none_back : back_in r ≡ []
  pub wide : IsWide r.port
  pub none_submitted : (moved_of r.adapter).submitted ≡ 0

-- A run of the adapter moved so much in its steps, or its device stalled. It accepted some of the operations.
pub record HasMoved {D : Type 0} (driver : Ghosts D Card) (sessions : List (List Transform)) (first : D) (stalled : ℕ)
    (old new : Route D) (moved : ℕ) : Type 0 where
  pub carries : Carries driver sessions first (stalled + from_bool (moved == 0)) new
  pub falls : moved + steps driver new ≡ steps driver old
  pub accepted : ℕ
  pub fewer : accepted + ahead new ≡ ahead old
  pub counts : (moved_of new.adapter).submitted ≡ capped ((moved_of old.adapter).submitted + accepted)

-- And what was on its way came back as answers, or is still on its way.
pub record HasRun {D : Type 0} (driver : Ghosts D Card) (sessions : List (List Transform)) (first : D) (stalled : ℕ)
    (old new : Route D) (moved : ℕ) : Type 0 where
  pub moves : HasMoved driver sessions first stalled old new moved
  pub answers : All (IsAnswer kind.Forward 0 sessions) (back_in new)
  pub same : IsPermutation (on_way driver old) (map entry_in (back_in new) ++ on_way driver new)
