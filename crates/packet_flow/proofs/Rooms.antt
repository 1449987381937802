-- Slots in memory, and the places that they stand for.
use Rattle.std.proofs.Common.{◌≡◌, ◌<◌, ◌≤◌, ◌+◌, ◌==◌, ℕ, Bool, false, zero, suc, List, [], ◌∷◌, ◌++◌, length, map, drop, set, refl, ap, sym, subst, ◌∙◌, arith, append_assoc, length-append}
use Rattle.std.specs.Prelude.{Some, None, Option}
use Rattle.std.specs.Option.{IfSome, IsSome}
use Rattle.std.specs.List.{slice_get}
use Rattle.std.proofs.lemmas.List.{append-nil, length-map, map-append}
use Rattle.std.proofs.lemmas.List.Elements.{All-append, All-cons, All-head, All-nil, All-tail}
use Rattle.std.proofs.lemmas.Bool.Decides.{nat_tests}
use Rattle.packet_plan.specs.Work.{written_view}
use Rattle.packet_plan.specs.declared.written.Kept.{Kept}
use Rattle.packet_plan.specs.declared.written.Written.{Written}
use Rattle.packet_flow.specs.declared.mark.Mark.{Mark}
use Rattle.packet_flow.specs.declared.run.Run.{Run}
use Rattle.packet_flow.specs.declared.slots.Slot.{Slot}
use Rattle.packet_flow.specs.declared.slots.Slot.TheVariants as slot
use Rattle.packet_flow.specs.Laid.{first_number, laid_out, seats_of, slot_number}
use Rattle.packet_flow.specs.Marks.{answer_of, seat_of_mark}
use Rattle.packet_flow.specs.Numbered.{RisesFrom}
use Rattle.packet_flow.specs.Seats.{AllIn, IsIn, IsReadyFirst, Seat, Open, Ready, WaitsAtFront, number_of}
use Rattle.packet_flow.specs.Runs.{seats_in}
use Rattle.packet_flow.proofs.Rising.{rises_behind}

pub laid-none : laid_out [] ≡ []
unfolding laid_out
laid-none = refl

pub laid-cons : (s : Slot) (ss : List Slot) → laid_out (s ∷ ss) ≡ seats_of s ++ laid_out ss
unfolding laid_out
laid-cons s ss = refl

pub laid-append : (ss more : List Slot) → laid_out (ss ++ more) ≡ laid_out ss ++ laid_out more
unfolding laid_out
laid-append [] more = refl
laid-append (s ∷ ss) more = ap (λ (l : List Seat). seats_of s ++ l) (laid-append ss more) ∙ sym (append_assoc (seats_of s) (laid_out ss) (laid_out more))

pub laid-one : (s : Slot) → laid_out (s ∷ []) ≡ seats_of s
unfolding laid_out
laid-one s = append-nil (seats_of s)

-- a slot has a place at least, which has its number
pub record First (s : Slot) : Type 0 where
  pub place : Seat
  pub rest : List Seat
  pub split : seats_of s ≡ place ∷ rest
  pub number : number_of place ≡ slot_number s

by_marks : (run : Run) (ms : List Mark) → run.marks.items ≡ ms → 0 < length ms → First (slot.Waits run)
by_marks run [] is some = absurd (omega (arith, some))
by_marks run (m ∷ ms) is some = record {
  place = seat_of_mark run.big m;
  rest = map (seat_of_mark run.big) ms;
  split = ap (map (seat_of_mark run.big)) is;
  number = sym (ap first_number is);
}

pub first_of : (s : Slot) → First s
first_of (slot.Open n kept) = record { place = Open n kept; rest = []; split = refl; number = refl }
first_of (slot.Ready n w) = record { place = Ready n (written_view w) None; rest = []; split = refl; number = refl }
first_of (slot.Waits run) = by_marks run run.marks.items refl run.some

-- the numbers of slots rise where those of their places do
pub rising_numbers : (n : ℕ) (ss : List Slot) → RisesFrom n (map number_of (laid_out ss)) → RisesFrom n (map slot_number ss)
unfolding laid_out
rising_numbers n [] rises = tt
rising_numbers n (s ∷ ss) rises =
    let f = first_of s in
    let all : RisesFrom n (number_of f.place ∷ map number_of (f.rest ++ laid_out ss)) =
    subst (λ (l : List Seat). RisesFrom n (map number_of (l ++ laid_out ss))) f.split rises in
    let here : n ≤ slot_number s = omega (arith, all.0, f.number) in
    let behind : RisesFrom (number_of f.place + 1) (map number_of (laid_out ss)) =
    rises_behind (number_of f.place + 1) (map number_of f.rest) (map number_of (laid_out ss)) (subst (RisesFrom (number_of f.place + 1)) (map-append number_of f.rest (laid_out ss)) all.1) in
    (here, rising_numbers (slot_number s + 1) ss (subst (λ (k : ℕ). RisesFrom (k + 1) (map number_of (laid_out ss))) f.number behind))

-- ---- the slot of an open place

-- slot i is open, and its place is number j of all
pub record OpenSlot (m : ℕ) (kept : Kept) (ss : List Slot) (j : ℕ) : Type 0 where
  pub i : ℕ
  pub there : slice_get ss i ≡ Some (slot.Open m kept)
  pub settled : (s : Slot) (p : Seat) → seats_of s ≡ p ∷ [] → laid_out (set ss i s) ≡ set (laid_out ss) j p

in_mark : (big : Bool) (ms : List Mark) (more : List Seat) (m j : ℕ) (kept : Kept) → slice_get (map (seat_of_mark big) ms ++ more) j ≡ Some (Open m kept)
    → (k : ℕ) × (j ≡ length ms + k) × (slice_get more k ≡ Some (Open m kept))
in_mark big [] more m j kept is = (j, omega arith, is)
in_mark big (x ∷ ms) more m zero kept is = cc
in_mark big (x ∷ ms) more m (suc j) kept is = let k = in_mark big ms more m j kept is in (k.0, omega (arith, k.1), k.2)

set_behind : {X : Type 0} (xs more : List X) (k : ℕ) (x : X) → set (xs ++ more) (length xs + k) x ≡ xs ++ set more k x
set_behind [] more k x = let none : 0 + k ≡ k = omega arith in ap (λ (i : ℕ). set more i x) none
set_behind (y ∷ ys) more k x =
    let more_is : suc (length ys) + k ≡ suc (length ys + k) = omega arith in
    ap (λ (i : ℕ). set (y ∷ (ys ++ more)) i x) more_is ∙ ap (λ (l : List _). y ∷ l) (set_behind ys more k x)

pub open_slot : (m : ℕ) (kept : Kept) (ss : List Slot) (j : ℕ) → slice_get (laid_out ss) j ≡ Some (Open m kept) → OpenSlot m kept ss j
unfolding laid_out
open_slot m kept [] j is = cc
open_slot m kept (slot.Open n k ∷ ss) zero is =
    let same : Open n k ≡ Open m kept = cc in
    let number : n ≡ m = cc in
    let record_is : k ≡ kept = cc in
    record {
      i = 0;
      there = ap (λ (x : ℕ). Some (slot.Open x k)) number ∙ ap (λ (x : Kept). Some (slot.Open m x)) record_is;
      settled = λ s p one. ap (λ (l : List Seat). l ++ laid_out ss) one;
    }
open_slot m kept (slot.Open n k ∷ ss) (suc j) is =
    let o = open_slot m kept ss j is in
    record { i = suc o.i; there = o.there; settled = λ s p one. ap (λ (l : List Seat). Open n k ∷ l) (o.settled s p one) }
open_slot m kept (slot.Ready n w ∷ ss) zero is = cc
open_slot m kept (slot.Ready n w ∷ ss) (suc j) is =
    let o = open_slot m kept ss j is in
    record { i = suc o.i; there = o.there; settled = λ s p one. ap (λ (l : List Seat). Ready n (written_view w) None ∷ l) (o.settled s p one) }
open_slot m kept (slot.Waits run ∷ ss) j is =
    let k = in_mark run.big run.marks.items (laid_out ss) m j kept is in
    let o = open_slot m kept ss k.0 k.2 in
    let at : length (seats_in run) + k.0 ≡ j = omega (arith, k.1, length-map run.marks.items (seat_of_mark run.big)) in
    record {
      i = suc o.i;
      there = o.there;
      settled = λ s p one.
          ap (λ (l : List Seat). seats_in run ++ l) (o.settled s p one) ∙ sym (set_behind (seats_in run) (laid_out ss) k.0 p)
          ∙ ap (λ (x : ℕ). set (seats_in run ++ laid_out ss) x p) at;
    }

-- ---- orders

pub in_order_set : (big : Bool) (ps : List Seat) (j : ℕ) (p : Seat) → IsIn big p → AllIn big ps → AllIn big (set ps j p)
in_order_set big [] j p own all = all
in_order_set big (q ∷ ps) zero p own all = All-cons (IsIn big) p ps own (All-tail (IsIn big) q ps all)
in_order_set big (q ∷ ps) (suc j) p own all = All-cons (IsIn big) q (set ps j p) (All-head (IsIn big) q ps all) (in_order_set big ps j p own (All-tail (IsIn big) q ps all))

pub in_order_more : (big : Bool) (ps : List Seat) (p : Seat) → IsIn big p → AllIn big ps → AllIn big (ps ++ p ∷ [])
in_order_more big ps p own all = All-append (IsIn big) ps (p ∷ []) all (All-cons (IsIn big) p [] own (All-nil (IsIn big)))

pub in_order_front : (big : Bool) (ps more : List Seat) → AllIn big (ps ++ more) → AllIn big ps
in_order_front big [] more all = All-nil (IsIn big)
in_order_front big (p ∷ ps) more all = All-cons (IsIn big) p ps (All-head (IsIn big) p (ps ++ more) all) (in_order_front big ps more (All-tail (IsIn big) p (ps ++ more) all))

pub in_order_behind : (big : Bool) (ps : List Seat) → AllIn big ps → AllIn big (drop 1 ps)
in_order_behind big [] all = all
in_order_behind big (p ∷ ps) all = All-tail (IsIn big) p ps all

-- ---- the first place

pub leads : (s : Slot) (ss more : List Slot) → ss ≡ s ∷ more → (f : IsReadyFirst (seats_of s)) → laid_out ss ≡ Ready f.number f.answer f.order ∷ (f.rest ++ laid_out more)
leads s ss more is f = ap laid_out is ∙ laid-cons s more ∙ ap (λ (l : List Seat). l ++ laid_out more) f.split

-- ---- a slot more, and one less

pub laid-push : (ss : List Slot) (s : Slot) → laid_out (ss ++ s ∷ []) ≡ laid_out ss ++ seats_of s
laid-push ss s = laid-append ss (s ∷ []) ∙ ap (λ (l : List Seat). laid_out ss ++ l) (laid-one s)

-- the last slot was taken off, and comes back with the new one joined to it, or before it
pub laid_joined : (old rest : List Slot) (last s last' : Slot) → old ≡ rest ++ last ∷ [] → seats_of last ++ seats_of s ≡ seats_of last' ++ []
    → laid_out (rest ++ last' ∷ []) ≡ laid_out old ++ seats_of s
laid_joined old rest last s last' is same =
    laid-push rest last' ∙ ap (λ (l : List Seat). laid_out rest ++ l) (sym (append-nil (seats_of last')) ∙ sym same)
    ∙ sym (append_assoc (laid_out rest) (seats_of last) (seats_of s)) ∙ ap (λ (l : List Seat). l ++ seats_of s) (sym (laid-push rest last) ∙ ap laid_out (sym is))

pub laid_beside : (old rest : List Slot) (last s last' more : Slot) → old ≡ rest ++ last ∷ [] → seats_of last ++ seats_of s ≡ seats_of last' ++ seats_of more
    → laid_out ((rest ++ last' ∷ []) ++ more ∷ []) ≡ laid_out old ++ seats_of s
laid_beside old rest last s last' more is same =
    laid-push (rest ++ last' ∷ []) more ∙ ap (λ (l : List Seat). l ++ seats_of more) (laid-push rest last') ∙ append_assoc (laid_out rest) (seats_of last') (seats_of more)
    ∙ ap (λ (l : List Seat). laid_out rest ++ l) (sym same)
    ∙ sym (append_assoc (laid_out rest) (seats_of last) (seats_of s)) ∙ ap (λ (l : List Seat). l ++ seats_of s) (sym (laid-push rest last) ∙ ap laid_out (sym is))

pub laid_back : (old rest : List Slot) (last last' : Slot) → old ≡ rest ++ last ∷ [] → seats_of last' ≡ seats_of last → laid_out (rest ++ last' ∷ []) ≡ laid_out old
laid_back old rest last last' is same =
    laid-push rest last' ∙ ap (λ (l : List Seat). laid_out rest ++ l) same ∙ sym (laid-push rest last) ∙ ap laid_out (sym is)

first_off : (xs more : List Seat) → 0 < length xs → drop 1 (xs ++ more) ≡ drop 1 xs ++ more
first_off [] more some = absurd (omega (arith, some))
first_off (x ∷ xs) more some = refl

pub some_seats : (s : Slot) → 0 < length (seats_of s)
some_seats s = let f = first_of s in omega (arith, ap length f.split)

pub laid_behind : (old rest : List Slot) (s : Slot) → old ≡ s ∷ rest → drop 1 (laid_out old) ≡ drop 1 (seats_of s) ++ laid_out rest
laid_behind old rest s is = ap (λ (l : List Slot). drop 1 (laid_out l)) is ∙ ap (drop 1) (laid-cons s rest) ∙ first_off (seats_of s) (laid_out rest) (some_seats s)

pub none_laid : (ss : List Slot) → length ss ≡ 0 → laid_out ss ≡ []
none_laid [] none = laid-none
none_laid (s ∷ ss) none = absurd (omega (arith, none))

pub some_laid : (ss : List Slot) → 0 < length ss → 0 < length (laid_out ss)
some_laid [] some = absurd (omega (arith, some))
some_laid (s ∷ ss) some = omega (arith, ap length (laid-cons s ss), length-append (seats_of s) (laid_out ss), some_seats s)

waits_more : (xs more : List Seat) → 0 < length xs → WaitsAtFront xs → WaitsAtFront (xs ++ more)
waits_more [] more some waits = absurd (omega (arith, some))
waits_more (Open n k ∷ xs) more some waits = tt
waits_more (Ready n a o ∷ xs) more some waits = absurd waits

-- none is ready at the front of slots whose first one waits
pub waits_first : (ss more : List Slot) (s : Slot) → ss ≡ s ∷ more → WaitsAtFront (seats_of s) → WaitsAtFront (laid_out ss)
waits_first ss more s is waits =
    subst (λ (l : List Slot). WaitsAtFront (laid_out l)) (sym is) (subst WaitsAtFront (sym (laid-cons s more)) (waits_more (seats_of s) (laid_out more) (some_seats s) waits))

pub front_slot : (old rest : List Slot) (s t : Slot) → old ≡ s ∷ rest → s ≡ t → old ≡ t ∷ rest
front_slot old rest s t is same = is ∙ ap (λ (x : Slot). x ∷ rest) same

pub none_behind : (old new : List Slot) → length old ≡ 0 → old ≡ new → laid_out new ≡ drop 1 (laid_out old)
none_behind old new none same = ap laid_out (sym same) ∙ none_laid old none ∙ sym (ap (drop 1) (none_laid old none))

pub with_more : (o : Option Slot) (s : Slot) (P : Slot → Type 0) → o ≡ Some s → IfSome o P → P s
with_more o s P is holds = subst (λ (x : Option Slot). IfSome x P) is holds

not_zero : (n : ℕ) → 0 < n → (n == 0) ≡ false
not_zero zero some = absurd (omega (arith, some))
not_zero (suc n) some = grind (arith, nat_tests)

pub same_emptiness : (ss : List Slot) (n : ℕ) → n ≡ length ss → (n == 0) ≡ (length (laid_out ss) == 0)
same_emptiness [] n is = ap (λ (k : ℕ). k == 0) (is ∙ sym (ap length laid-none))
same_emptiness (s ∷ ss) n is = not_zero n (omega (arith, is)) ∙ sym (not_zero (length (laid_out (s ∷ ss))) (some_laid (s ∷ ss) (omega arith)))

pub told_some : {X : Type 0} (o : Option X) (x : X) (P : X → Type 0) → o ≡ Some x → IfSome o P → P x
told_some o x P is holds = subst (λ (y : Option _). IfSome y P) is holds

pub waits_none : {X : Type 0} (ss : List Slot) (r : Option X) → r ≡ None → (0 < length ss → IsSome r) → WaitsAtFront (laid_out ss)
waits_none [] r is some = subst WaitsAtFront (sym laid-none) tt
waits_none (s ∷ ss) r is some = absurd (let no = subst IsSome is (some (omega arith)) in cc)

-- the first place of a slot that is ready
abbrev pub ready_first : (s : Slot) (n : ℕ) (w : Written) → s ≡ slot.Ready n w → IsReadyFirst (seats_of s)
ready_first s n w is = record { number = n; answer = written_view w; order = None; rest = []; split = ap seats_of is }

abbrev pub run_first : (s : Slot) (run : Run) (m : Mark) (ms : List Mark) → s ≡ slot.Waits run → run.marks.items ≡ m ∷ ms → IsReadyFirst (seats_of s)
run_first s run m ms is front = record {
  number = m.number;
  answer = answer_of m;
  order = Some run.big;
  rest = map (seat_of_mark run.big) ms;
  split = ap seats_of is ∙ ap (map (seat_of_mark run.big)) front;
}

pub run_told : (s : Slot) (run : Run) (m : Mark) (ms : List Mark) (big : Bool) → s ≡ slot.Waits run → run.marks.items ≡ m ∷ ms → AllIn big (seats_of s) → run.big ≡ big
run_told s run m ms big is front all =
    All-head (IsIn big) (seat_of_mark run.big m) (map (seat_of_mark run.big) ms) (subst (AllIn big) (ap seats_of is ∙ ap (map (seat_of_mark run.big)) front) all)
