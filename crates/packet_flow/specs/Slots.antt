-- The places of packets that are begun and not written.
use Rattle.std.specs.Prelude.{◌≡◌, ◌==◌, ℕ, Bool, List, [], ◌∷◌, count_by, slice_get, Option, Some}
use Rattle.std.specs.List.{All}
use Rattle.crypto_op.specs.declared.spec.Card.{Card}
use Rattle.crypto_op.specs.declared.op.Op.{Op}
use Rattle.crypto_op.specs.Op.{Entry, input_of}
use Rattle.session_file.specs.declared.plan.Plan.{Plan}
use Rattle.packet_plan.specs.Asked.{Works, asked}
use Rattle.packet_plan.specs.Answered.{answered}
use Rattle.packet_plan.specs.Work.{kept_rec, written_view}
use Rattle.packet_plan.specs.declared.written.Work.{Work}
use Rattle.packet_plan.specs.declared.written.Work.TheVariants as work
use Rattle.packet_flow.specs.Seats.{Seat, Open, Ready}
use Rattle.packet_flow.specs.Numbered.{Numbered, RisesFrom, numbers_of}

-- what a record that was begun has: a place, where it waits in this order if it does so as bytes, and an operation or none
abbrev pub seat_for : ℕ → Work → Option Bool → Seat
seat_for n (work.Ready w) order = Ready n (written_view w) order
seat_for n (work.Needs kept op) order = Open n kept

abbrev pub ops_of : Work → List (Op Card)
ops_of (work.Ready w) = []
ops_of (work.Needs kept op) = op ∷ []

-- a place is for this packet: it waits with the record as it was read, or has the one that is written
abbrev pub SeatSays : Plan → Seat → Numbered → Type 0
SeatSays plan (Open n kept) p = (n ≡ p.number) × (kept_rec kept ≡ p.rec)
SeatSays plan (Ready n a order) p = (n ≡ p.number) × (a ≡ answered plan p.number p.rec)

unfoldable pub SeatsSay : Plan → List Seat → List Numbered → Type 0
SeatsSay plan [] [] = Unit {0}
SeatsSay plan [] (p ∷ ps) = ⊥
SeatsSay plan (s ∷ ss) [] = ⊥
SeatsSay plan (s ∷ ss) (p ∷ ps) = SeatSays plan s p × SeatsSay plan ss ps

-- the numbers of the places that wait for an operation
unfoldable pub open_numbers : List Seat → List ℕ
open_numbers [] = []
open_numbers (Open n kept ∷ ss) = n ∷ open_numbers ss
open_numbers (Ready n a order ∷ ss) = open_numbers ss

-- an entry was made for the one of these packets whose number its card has
pub record IsFor (plan : Plan) (ps : List Numbered) (e : Entry Card) : Type 0 where
  pub i : ℕ
  pub packet : Numbered
  pub there : slice_get ps i ≡ Some packet
  pub number : packet.number ≡ e.cargo.packet
  pub asked : asked plan packet.number packet.rec.packet ≡ Works e.cargo (input_of e.request)

-- The places are for these packets, in this order, and the open ones wait for just these entries' operations.
pub record StandFor (plan : Plan) (ps : List Numbered) (ss : List Seat) (entries : List (Entry Card)) : Type 0 where
  pub slots : SeatsSay plan ss ps
  pub rising : RisesFrom 0 (numbers_of ps)
  pub made : All (IsFor plan ps) entries
  pub waits : (n : ℕ) → count_by (λ e. e.cargo.packet == n) entries ≡ count_by (λ m. m == n) (open_numbers ss)
