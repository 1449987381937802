-- A packet more gets a slot.
use Rattle.std.proofs.Common.{◌≡◌, ◌+◌, ◌==◌, ◌++◌, ◌∷◌, ℕ, zero, suc, List, [], length, map, count_by, refl, ap, sym, subst, ◌∙◌}
use Rattle.std.specs.Prelude.{Bool, Option, Some}
use Rattle.std.specs.List.{All, slice_get}
use Rattle.std.proofs.lemmas.List.{append-nil}
use Rattle.std.proofs.lemmas.List.Elements.{All-append, All-cons, All-nil, All-weaker}
use Rattle.crypto_op.specs.declared.spec.Card.{Card}
use Rattle.crypto_op.specs.declared.op.Op.{Op}
use Rattle.crypto_op.specs.Op.{Entry, IsFresh, Request, entry_of, input_of, made}
use Rattle.dev_core.specs.Burst.{log_entry}
use Rattle.dev_core.specs.declared.driver.LogEntry.{LogEntry}
use Rattle.session_file.specs.declared.plan.Plan.{Plan}
use Rattle.packet_plan.specs.Asked.{Asked, Works, asked, inputs_of}
use Rattle.packet_plan.specs.Work.{IsBegun, written_view}
use Rattle.packet_plan.specs.declared.written.Work.{Work}
use Rattle.packet_plan.specs.declared.written.Work.TheVariants as work
use Rattle.packet_flow.specs.Seats.{Seat}
use Rattle.packet_flow.specs.Entries.{entries_of, entry_for}
use Rattle.packet_flow.specs.Numbered.{Numbered, RisesFrom, numbers_of}
use Rattle.packet_flow.specs.Slots.{IsFor, SeatSays, StandFor, open_numbers, ops_of, seat_for}
use Rattle.packet_flow.proofs.Bags.{count-append}
use Rattle.packet_flow.proofs.InSlots.{SeatsSay-push, open_numbers-open, open_numbers-ready}
use Rattle.packet_flow.proofs.Numbers.{entries_of-none, entries_of-one}

longer : {X : Type 0} (xs more : List X) (i : ℕ) (x : X) → slice_get xs i ≡ Some x → slice_get (xs ++ more) i ≡ Some x
longer [] more i x is = cc
longer (y ∷ ys) more zero x is = is
longer (y ∷ ys) more (suc i) x is = longer ys more i x is

last_of : {X : Type 0} (xs : List X) (x : X) → slice_get (xs ++ x ∷ []) (length xs) ≡ Some x
last_of [] x = refl
last_of (y ∷ ys) x = last_of ys x

for_longer : (plan : Plan) (ps more : List Numbered) (e : Entry Card) → IsFor plan ps e → IsFor plan (ps ++ more) e
for_longer plan ps more e f = record { i = f.i; packet = f.packet; there = longer ps more f.i f.packet f.there; number = f.number; asked = f.asked }

for_new : (plan : Plan) (ps : List Numbered) (p : Numbered) (op : Op Card) → op.cargo.packet ≡ p.number → asked plan p.number p.rec.packet ≡ Works op.cargo (input_of (made op))
    → IsFor plan (ps ++ p ∷ []) (entry_of op)
for_new plan ps p op number is = record { i = length ps; packet = p; there = last_of ps p; number = sym number; asked = is }

says_new : (plan : Plan) (i : ℕ) (p : Numbered) (w : Work) (order : Option Bool) → IsBegun plan p.number i p.rec w → SeatSays plan (seat_for p.number w order) p
says_new plan i p (work.Ready w) order is = (refl, is.0)
says_new plan i p (work.Needs kept op) order is = (refl, is.kept)

-- the slots stand for one packet more, and its operation is waited for too
pub stand_more : (plan : Plan) (i : ℕ) (ps : List Numbered) (p : Numbered) (ss : List Seat) (es : List (Entry Card)) (w : Work) (order : Option Bool) → RisesFrom 0 (numbers_of (ps ++ p ∷ []))
    → IsBegun plan p.number i p.rec w → StandFor plan ps ss es → StandFor plan (ps ++ p ∷ []) (ss ++ seat_for p.number w order ∷ []) (es ++ map entry_of (ops_of w))
stand_more plan i ps p ss es (work.Ready w) order rises is b =
    subst (StandFor plan (ps ++ p ∷ []) (ss ++ seat_for p.number (work.Ready w) order ∷ [])) (sym (append-nil es)) (record {
      slots = SeatsSay-push plan ss ps (seat_for p.number (work.Ready w) order) p b.slots (says_new plan i p (work.Ready w) order is);
      rising = rises;
      made = All-weaker (IsFor plan ps) (IsFor plan (ps ++ p ∷ [])) (for_longer plan ps (p ∷ [])) es b.made;
      waits = λ m. b.waits m ∙ ap (count_by (λ (k : ℕ). k == m)) (sym (open_numbers-ready ss p.number (written_view w) order));
    })
stand_more plan i ps p ss es (work.Needs kept op) order rises is b = record {
  slots = SeatsSay-push plan ss ps (seat_for p.number (work.Needs kept op) order) p b.slots (says_new plan i p (work.Needs kept op) order is);
  rising = rises;
  made = All-append (IsFor plan (ps ++ p ∷ [])) es (entry_of op ∷ [])
      (All-weaker (IsFor plan ps) (IsFor plan (ps ++ p ∷ [])) (for_longer plan ps (p ∷ [])) es b.made)
      (All-cons (IsFor plan (ps ++ p ∷ [])) (entry_of op) [] (for_new plan ps p op is.number is.asked) (All-nil (IsFor plan (ps ++ p ∷ []))));
  waits = λ m.
      count-append (λ (e : Entry Card). e.cargo.packet == m) es (entry_of op ∷ [])
      ∙ ap (λ (k : ℕ). k + count_by (λ (x : ℕ). x == m) (op.cargo.packet ∷ [])) (b.waits m)
      ∙ ap (λ (k : ℕ). count_by (λ (x : ℕ). x == m) (open_numbers ss) + count_by (λ (x : ℕ). x == m) (k ∷ [])) is.number
      ∙ sym (count-append (λ (x : ℕ). x == m) (open_numbers ss) (p.number ∷ []))
      ∙ ap (count_by (λ (x : ℕ). x == m)) (sym (open_numbers-open ss p.number kept));
}

-- the operation as a log tells it
fresh_entry : (i : ℕ) (op : Op Card) → IsFresh op → op.spec.pos ≡ i → log_entry op ≡ entry_for i (input_of (made op))
fresh_entry i op fresh pos = ap (λ (q : Request). entry_for op.spec.pos (input_of q)) fresh.request ∙ ap (λ (k : ℕ). entry_for k (input_of (made op))) pos

pub entries_new : (plan : Plan) (i : ℕ) (p : Numbered) (w : Work) → IsBegun plan p.number i p.rec w → map log_entry (ops_of w) ≡ entries_of i (inputs_of (asked plan p.number p.rec.packet))
entries_new plan i p (work.Ready w) is = sym (ap (entries_of i) is.1 ∙ entries_of-none i)
entries_new plan i p (work.Needs kept op) is =
    ap (λ (e : LogEntry). e ∷ []) (fresh_entry i op is.fresh is.pos) ∙ sym (ap (λ (a : Asked). entries_of i (inputs_of a)) is.asked ∙ entries_of-one i (input_of (made op)))

pub fresh_new : (plan : Plan) (i : ℕ) (p : Numbered) (w : Work) → IsBegun plan p.number i p.rec w → All IsFresh (ops_of w)
fresh_new plan i p (work.Ready w) is = All-nil IsFresh
fresh_new plan i p (work.Needs kept op) is = All-cons IsFresh op [] is.fresh (All-nil IsFresh)
