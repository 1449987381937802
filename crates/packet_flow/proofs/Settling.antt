-- An answer comes into the slot that waits for it.
use Rattle.std.proofs.Common.{◌≡◌, ◌<◌, ◌==◌, ℕ, List, [], ◌∷◌, length, map, get_or, set, zero, suc, ap, sym, subst, ◌∙◌, arith}
use Rattle.std.specs.List.{slice_get}
use Rattle.std.specs.Prelude.{Bool, Option, Some}
use Rattle.std.proofs.lemmas.Option.{get_or_from_slice_get}
use Rattle.std.proofs.lemmas.List.Elements.{All-head, All-tail}
use Rattle.crypto_op.specs.declared.spec.Card.{Card}
use Rattle.crypto_op.specs.Op.{Entry, input_of}
use Rattle.session_file.specs.declared.plan.Plan.{Plan}
use Rattle.packet_plan.specs.declared.written.Kept.{Kept}
use Rattle.packet_plan.specs.Asked.{Works, asked}
use Rattle.packet_plan.specs.Answered.{Answered, answered}
use Rattle.packet_plan.specs.Work.{kept_rec}
use Rattle.packet_flow.specs.Seats.{AllIn, IsIn, Seat, Open, Ready, number_of}
use Rattle.packet_flow.specs.Numbered.{Numbered, RisesFrom, numbers_of}
use Rattle.packet_flow.specs.Slots.{StandFor, IsFor}
use Rattle.packet_flow.proofs.InSlots.{WaitsAt, waits_at, count-cons, one, same_numbers, same_told, packet_at_slot, SeatsSay-settled, times-settled}
use Rattle.packet_flow.proofs.Rising.{one_place}
use Rattle.packet_flow.specs.declared.slots.Slot.{Slot}
use Rattle.packet_flow.specs.declared.slots.Slot.TheVariants as slot
use Rattle.packet_flow.specs.Laid.{laid_out, seats_of, slot_number}
use Rattle.packet_flow.proofs.Rooms.{OpenSlot, in_order_set, open_slot, rising_numbers}

pub slice_get-map : {X Y : Type 0} (f : X → Y) (xs : List X) (i : ℕ) (x : X) → slice_get xs i ≡ Some x → slice_get (map f xs) i ≡ Some (f x)
slice_get-map f [] i x is = cc
slice_get-map f (y ∷ ys) zero x is = let same : y ≡ x = cc in ap (λ (z : _). Some (f z)) same
slice_get-map f (y ∷ ys) (suc i) x is = slice_get-map f ys i x is

pub slice_get-inside : {X : Type 0} (xs : List X) (i : ℕ) (x : X) → slice_get xs i ≡ Some x → i < length xs
slice_get-inside [] i x is = cc
slice_get-inside (y ∷ ys) zero x is = omega arith
slice_get-inside (y ∷ ys) (suc i) x is = omega (arith, slice_get-inside ys i x is)

module _ (plan : Plan) (ps : List Numbered) (ss : List Seat) (e : Entry Card) (rest : List (Entry Card)) (b : StandFor plan ps ss (e ∷ rest)) where
  abbrev number : ℕ
  number = e.cargo.packet

  pub slot_of : WaitsAt number ss
  slot_of =
      let own = count-cons (λ (x : Entry Card). x.cargo.packet == number) e rest in
      let once : one (number == number) ≡ 1 = ap one (same_told number) in
      waits_at number ss (omega (arith, own, once, b.waits number))

  pub rising_slots : RisesFrom 0 (map number_of ss)
  rising_slots = subst (RisesFrom 0) (sym (same_numbers plan ss ps b.slots)) b.rising

  pub number_there : slice_get (map number_of ss) slot_of.i ≡ Some number
  number_there = slice_get-map number_of ss slot_of.i (Open number slot_of.kept) slot_of.open_is

  pub asked_there : (kept : Kept) → kept ≡ slot_of.kept → asked plan number (kept_rec kept).packet ≡ Works e.cargo (input_of e.request)
  asked_there kept same =
      let mine = All-head (IsFor plan ps) e rest b.made in
      let packet : Numbered = record { number = number; rec = kept_rec slot_of.kept } in
      let there : slice_get ps slot_of.i ≡ Some packet = packet_at_slot plan number slot_of.i ss ps slot_of.kept b.slots slot_of.open_is in
      let numbers : slice_get (numbers_of ps) mine.i ≡ Some number = slice_get-map (λ (p : Numbered). p.number) ps mine.i mine.packet mine.there ∙ ap Some mine.number in
      let same_place : mine.i ≡ slot_of.i = one_place 0 mine.i slot_of.i number (numbers_of ps) b.rising numbers (slice_get-map (λ (p : Numbered). p.number) ps slot_of.i packet there) in
      let own : mine.packet ≡ packet = (let both : Some mine.packet ≡ Some packet = sym mine.there ∙ ap (slice_get ps) same_place ∙ there in cc) in
      subst (λ (k : Kept). asked plan number (kept_rec k).packet ≡ Works e.cargo (input_of e.request)) (sym same)
      (subst (λ (p : Numbered). asked plan p.number p.rec.packet ≡ Works e.cargo (input_of e.request)) own mine.asked)

  pub settled : (kept : Kept) (a : Answered) (order : Option Bool) → kept ≡ slot_of.kept → a ≡ answered plan number (kept_rec kept) → StandFor plan ps (set ss slot_of.i (Ready number a order)) rest
  settled kept a order same now = record {
    slots = SeatsSay-settled plan number slot_of.i ss ps slot_of.kept a order b.slots slot_of.open_is (now ∙ ap (λ (k : Kept). answered plan number (kept_rec k)) same);
    rising = b.rising;
    made = All-tail (IsFor plan ps) e rest b.made;
    waits = λ n.
        let before = b.waits n in
        let own = count-cons (λ (x : Entry Card). x.cargo.packet == n) e rest in
        let after = times-settled n number slot_of.i ss slot_of.kept a order slot_of.open_is in
        omega (arith, before, own, after);
  }

-- ---- the same among slots in memory

-- the number of the slot at a place
pub number_at : (ss : List Slot) (i : ℕ) (x : Slot) → i < length ss → x ≡ get_or ss i x → slice_get (map slot_number ss) i ≡ Some (slot_number x)
number_at [] i x inside is = absurd (omega (arith, inside))
number_at (s ∷ ss) zero x inside is = ap (λ (z : Slot). Some (slot_number z)) (sym is)
number_at (s ∷ ss) (suc i) x inside is = number_at ss i x (omega (arith, inside)) is

module _ (plan : Plan) (ps : List Numbered) (ss : List Slot) (e : Entry Card) (rest : List (Entry Card)) (b : StandFor plan ps (laid_out ss) (e ∷ rest)) where
  abbrev own_number : ℕ
  own_number = e.cargo.packet

  abbrev pub waits : WaitsAt own_number (laid_out ss)
  waits = slot_of plan ps (laid_out ss) e rest b

  room : OpenSlot own_number waits.kept ss waits.i
  room = open_slot own_number waits.kept ss waits.i waits.open_is

  pub rising_rooms : RisesFrom 0 (map slot_number ss)
  rising_rooms = rising_numbers 0 ss (rising_slots plan ps (laid_out ss) e rest b)

  room_at : slice_get (map slot_number ss) room.i ≡ Some own_number
  room_at = slice_get-map slot_number ss room.i (slot.Open own_number waits.kept) room.there

  pub room_there : (i : ℕ) × (slice_get (map slot_number ss) i ≡ Some own_number)
  room_there = (room.i, room_at)

  module _ (place : ℕ) (at : slice_get (map slot_number ss) place ≡ Some own_number) where
    is_place : room.i ≡ place
    is_place = one_place 0 room.i place own_number (map slot_number ss) rising_rooms room_at at

    open_there : slice_get ss place ≡ Some (slot.Open own_number waits.kept)
    open_there = subst (λ (i : ℕ). slice_get ss i ≡ Some (slot.Open own_number waits.kept)) is_place room.there

    pub place_inside : place < length ss
    place_inside = slice_get-inside ss place (slot.Open own_number waits.kept) open_there

    pub slot_is : (d x : Slot) → x ≡ get_or ss place d → x ≡ slot.Open own_number waits.kept
    slot_is d x is = is ∙ get_or_from_slice_get ss place (slot.Open own_number waits.kept) d open_there

    pub kept_is : (d x : Slot) (n : ℕ) (kept : Kept) → x ≡ get_or ss place d → x ≡ slot.Open n kept → kept ≡ waits.kept
    kept_is d x n kept is own = let same : slot.Open n kept ≡ slot.Open own_number waits.kept = sym own ∙ slot_is d x is in cc

    laid_set : (s : Slot) (a : Answered) (order : Option Bool) → seats_of s ≡ Ready own_number a order ∷ [] → set (laid_out ss) waits.i (Ready own_number a order) ≡ laid_out (set ss place s)
    laid_set s a order one = sym (room.settled s (Ready own_number a order) one) ∙ ap (λ (i : ℕ). laid_out (set ss i s)) is_place

    pub settled_room : (kept : Kept) (s : Slot) (a : Answered) (order : Option Bool) → kept ≡ waits.kept → seats_of s ≡ Ready own_number a order ∷ []
        → a ≡ answered plan own_number (kept_rec kept) → StandFor plan ps (laid_out (set ss place s)) rest
    settled_room kept s a order same one now =
        subst (λ (l : List Seat). StandFor plan ps l rest) (laid_set s a order one) (settled plan ps (laid_out ss) e rest b kept a order same now)

    pub settled_order : (big : Bool) (s : Slot) (a : Answered) (order : Option Bool) → seats_of s ≡ Ready own_number a order ∷ [] → IsIn big (Ready own_number a order)
        → AllIn big (laid_out ss) → AllIn big (laid_out (set ss place s))
    settled_order big s a order one own all =
        subst (AllIn big) (laid_set s a order one) (in_order_set big (laid_out ss) waits.i (Ready own_number a order) own all)

-- the same slot under the number that is its own
pub numbered_own : (s : Slot) (big : Bool) (a : Answered) (n m : ℕ) → n ≡ m → (order : Option Bool) × (seats_of s ≡ Ready n a order ∷ []) × IsIn big (Ready n a order)
    → (order : Option Bool) × (seats_of s ≡ Ready m a order ∷ []) × IsIn big (Ready m a order)
numbered_own s big a n m is told = subst (λ (k : ℕ). (order : Option Bool) × (seats_of s ≡ Ready k a order ∷ []) × IsIn big (Ready k a order)) is told
