-- What one run of an adapter's steps does.
use Rattle.std.specs.Prelude.{◌≡◌, ℕ, ◌+◌, ◌-◌, ◌<◌, ◌≤◌, min, List, ◌++◌, length, map, take, drop, option_map, IsPermutation, slice_index_or}
use Rattle.std.specs.Option.{ForSome}
use Rattle.crypto_op.specs.declared.op.Op.{Op}
use Rattle.crypto_op.specs.Burst.{Burst}
use Rattle.dev_core.specs.Burst.{with_ops}
use Rattle.crypto_model.specs.Counts.{capped, Rose}
use Rattle.dev_core.specs.declared.driver.Driver.{Ghosts}
use Rattle.event_adapter.specs.declared.port.EventPort.{Ghosts as PortGhosts}
use Rattle.event_adapter.specs.declared.event.Event.{Event}
use Rattle.event_adapter.specs.declared.event.EventKind.{EventKind}
use Rattle.event_adapter.specs.declared.event.EventKind.TheVariants as Kind
use Rattle.event_adapter.specs.declared.queue_pair.QueuePair.{QueuePair}
use Rattle.event_adapter.specs.declared.moved.Moved.{Moved}
use Rattle.event_adapter.specs.declared.moved.AdapterMode.{AdapterMode}
use Rattle.event_adapter.specs.declared.moved.AdapterMode.TheVariants.{New, Forward}
use Rattle.event_adapter.specs.Source.{entries_for, ops_for, source_of}
use Rattle.event_adapter.specs.Inside.{ids, inside, least_room, line_of, strangers}
use Rattle.event_adapter.specs.Steps.{Along, Completed, Dealt, Each, Kept, Offered}

abbrev pub none_moved : Moved
none_moved = record { sent = 0; completed = 0; submitted = 0; taken = 0 }

-- sums that stand still at their last value
abbrev pub plus : Moved → Moved → Moved
plus a b = record {
  sent = capped (a.sent + b.sent);
  completed = capped (a.completed + b.completed);
  submitted = capped (a.submitted + b.submitted);
  taken = capped (a.taken + b.taken);
}

-- the kind of the events of completions
abbrev pub kind_of : AdapterMode → EventKind
kind_of New = Kind.New
kind_of Forward = Kind.Forward

-- What a run does to a queue pair of whose events it takes these from the port: its device goes on to the state in which
-- what waits is offered, and from there to the end.
pub record Served {C D : Type 0} (driver : Ghosts D C) (es : List (Event C)) (p mid q : QueuePair C D) : Type 0 where
  pub accepted : ℕ
  pub before : driver.follows p.dev mid.dev
  pub after : driver.follows mid.dev q.dev
  pub kept : Kept driver accepted p.dev q.dev
  pub counted : length p.waiting.ops + length (ops_for p.id es) ≡ accepted + length q.waiting.ops

-- Where its device is ordered, what is taken for a queue pair joins the end of its line, and what is sent leaves the front.
abbrev pub KeepsOrder : {C D : Type 0} → Ghosts D C → (sent taken out0 out1 : List (Event C)) → (p q : QueuePair C D) → Type 0
KeepsOrder driver sent taken out0 out1 p q =
    driver.ordered p.dev → line_of driver p out0 ++ entries_for p.id taken ≡ entries_for p.id sent ++ line_of driver q out1

-- how many events could be taken
abbrev pub most_taken : {C D : Type 0} → List (QueuePair C D) → (out inbox : List (Event C)) → ℕ
most_taken ps out inbox = min (min (least_room ps) (64 - length out)) (length inbox)

-- The steps of a run in their order, behind the sending of `m.sent` events: each device gives answers, as far as the out
-- buffer has room; each is offered what waits; events are taken, and join the in buffer of their queue pair, or go out as
-- they are.
pub record Ran {C D P : Type 0} (driver : Ghosts D C) (port : PortGhosts P C) (mode : AdapterMode) (old new : P) (ps qs : List (QueuePair C D))
    (out0 out1 : List (Event C)) (m : Moved) : Type 0 where
  pub mids : List (QueuePair C D)
  pub laters : List (QueuePair C D)
  pub answers : List (Event C)
  pub accepted : List (Op C)
  pub completing : Along (Completed driver (kind_of mode)) (64 - length (drop m.sent out0)) ps mids answers
  pub offering : Along (Offered driver) 0 mids laters accepted
  pub dealing : Each (Dealt (take m.taken (port.inbox old))) laters qs
  pub out : out1 ≡ (drop m.sent out0 ++ answers) ++ strangers ps (take m.taken (port.inbox old))
  pub served : (k : ℕ) (d : QueuePair C D) → k < length ps
      → Served driver (take m.taken (port.inbox old)) (slice_index_or ps k d) (slice_index_or mids k d) (slice_index_or qs k d)
  pub completed : m.completed ≡ length answers
  pub submitted : m.submitted ≡ length accepted
  pub none_taken : mode ≡ New → m.taken ≡ 0
  pub taken : m.taken ≤ most_taken laters (drop m.sent out0 ++ answers) (port.inbox old)
  pub cause : mode ≡ Forward → m.taken < most_taken laters (drop m.sent out0 ++ answers) (port.inbox old) → Rose (port.balks old) (port.balks new)
  pub told : mode ≡ Forward → ForSome (port.spare old) (λ _. m.taken ≡ most_taken laters (drop m.sent out0 ++ answers) (port.inbox old))

-- n events go from a port to the in buffers of their queue pairs, or out as they are
pub record TakesFrom {C D P : Type 0} (driver : Ghosts D C) (port : PortGhosts P C) (n : ℕ) (old new : P) (ps qs : List (QueuePair C D))
    (out0 out1 : Burst (Event C)) : Type 0 where
  pub within : n ≤ most_taken ps out0.ops (port.inbox old)
  pub dealing : Each (Dealt (take n (port.inbox old))) ps qs
  pub ids : ids qs ≡ ids ps
  pub out : out1 ≡ with_ops (strangers ps (take n (port.inbox old))) out0
  pub bag : IsPermutation (inside driver ps out0.ops ++ map source_of (take n (port.inbox old))) (inside driver qs out1.ops)
  pub inbox : port.inbox new ≡ drop n (port.inbox old)
  pub sent : port.sent new ≡ port.sent old
  pub spare : port.spare new ≡ option_map (λ s. s + n) (port.spare old)
  pub balks : port.balks old ≤ port.balks new
