-- What a carrier has, beside others that its hands took.
use Rattle.std.specs.Prelude.{◌≡◌, List, [], ◌++◌, length, map}
use Rattle.crypto_model.specs.Process.{Transform}
use Rattle.crypto_op.specs.Op.{entry_of}
use Rattle.sched_multicore.specs.Carry.{Carried, Parcel}
use Rattle.sched_multicore.specs.Sweep.{SameHands}
use Rattle.sched_multicore.specs.declared.carrier.Carrier.{Carrier}

-- the hands have taken these and nothing else
abbrev pub Laden : List (List Transform) → Carrier → List Parcel → Type 0
Laden sessions c held = Carried c.index c.slots sessions c.hands.items c.saved.items held

-- the hands have taken what is in the burst, and something else
abbrev pub IsLaden : Carrier → Type 0
IsLaden c = (sessions : List (List Transform)) × (held : List Parcel) × Laden sessions c (map entry_of c.burst.ops ++ held)

pub record SameCarrier (b c : Carrier) : Type 0 where
  pub hands : SameHands b.hands.items c.hands.items
  pub codes : length c.saved.items ≡ length b.saved.items
  pub cap : c.burst.cap ≡ b.burst.cap
  pub slots : c.slots ≡ b.slots
  pub index : c.index ≡ b.index

-- the burst was emptied, and its operations are back in their slots
pub record Unloads (b c : Carrier) : Type 0 where
  pub empty : c.burst.ops ≡ []
  pub laden : (sessions : List (List Transform)) (held : List Parcel) → Laden sessions b (map entry_of b.burst.ops ++ held) → Laden sessions c held
  pub same : SameCarrier b c
