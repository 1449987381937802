-- What is known of an adapter.
use Rattle.std.specs.Prelude.{◌≡◌, List}
use Rattle.event_adapter.specs.declared.adapter.Adapter.{Adapter}
use Rattle.event_adapter.specs.declared.event.Event.{Event}
use Rattle.event_adapter.specs.declared.moved.Moved.{Moved}
use Rattle.event_adapter.specs.declared.moved.AdapterMode.{AdapterMode}
use Rattle.event_adapter.specs.declared.queue_pair.QueuePair.{QueuePair}

-- its queue pairs, in the order of adding
abbrev pub pairs_of : {C D : Type 0} → Adapter C D → List (QueuePair C D)
pairs_of a = a.pairs.items

-- what is in its out buffer
abbrev pub out_of : {C D : Type 0} → Adapter C D → List (Event C)
out_of a = a.out.ops

abbrev pub mode_of : {C D : Type 0} → Adapter C D → AdapterMode
mode_of a = a.mode

-- what its runs moved
abbrev pub moved_of : {C D : Type 0} → Adapter C D → Moved
moved_of a = a.stats

-- all but its queue pairs is as it was
pub record KeepsRest {C D : Type 0} (old new : Adapter C D) : Type 0 where
  pub out : out_of new ≡ out_of old
  pub mode : mode_of new ≡ mode_of old
  pub moved : moved_of new ≡ moved_of old
