-- The elements of a chain that may be there.
use Rattle.std.specs.Prelude.{◌<◌, List, [], length, drop}
use Rattle.std.specs.Prelude.{Option, None, Some}
use Rattle.seg_list.specs.Buffer.{Buffer}
use Rattle.seg_list.specs.declared.chain.Chain.{Chain}
use Rattle.seg_list.specs.declared.iter.Spot.{Spot}

abbrev pub items_of : {X : Type 0} → Option (Chain X) → List X
items_of None = []
items_of (Some c) = c.items

-- a chain that is there has a node
abbrev pub IsFilled : {X : Type 0} → Option (Chain X) → Type 0
IsFilled None = Unit {0}
IsFilled (Some c) = 0 < length c.items

-- those from a place on
abbrev pub from_spot : Option Spot → List Buffer
from_spot None = []
from_spot (Some s) = drop s.i s.chain.now.items
