-- The places of packets that are begun and not written.
use Rattle.std.specs.Prelude.{◌≡◌, ℕ, Bool, List, [], ◌∷◌, Option, Some, None}
use Rattle.std.specs.List.{All}
use Rattle.packet_plan.specs.Answered.{Answered}
use Rattle.packet_plan.specs.declared.written.Kept.{Kept}

-- A packet with this number waits for its operation, or is ready: as a record, or as bytes in this order.
pub data Seat : Type 0 where
  Open : ℕ → Kept → Seat
  Ready : ℕ → Answered → Option Bool → Seat

abbrev pub number_of : Seat → ℕ
number_of (Open n kept) = n
number_of (Ready n a order) = n

-- what waits as bytes waits in this order
abbrev pub IsIn : Bool → Seat → Type 0
IsIn big (Open n kept) = Unit {0}
IsIn big (Ready n a None) = Unit {0}
IsIn big (Ready n a (Some order)) = order ≡ big

abbrev pub AllIn : Bool → List Seat → Type 0
AllIn big ps = All (IsIn big) ps

-- the first is ready
pub record IsReadyFirst (ps : List Seat) : Type 0 where
  pub number : ℕ
  pub answer : Answered
  pub order : Option Bool
  pub rest : List Seat
  pub split : ps ≡ Ready number answer order ∷ rest

-- none is ready at the front
abbrev pub WaitsAtFront : List Seat → Type 0
WaitsAtFront [] = Unit {0}
WaitsAtFront (Open n kept ∷ ps) = Unit {0}
WaitsAtFront (Ready n a order ∷ ps) = ⊥
