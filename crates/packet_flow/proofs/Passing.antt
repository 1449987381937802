-- A packet that passes is written at once, where none is in a slot.
use Rattle.std.proofs.Common.{◌≡◌, ◌+◌, ◌==◌, ◌++◌, ◌∷◌, ℕ, Bool, true, false, List, [], length, map, refl, ap, sym, subst, ◌∙◌, arith}
use Rattle.std.specs.Prelude.{None}
use Rattle.std.specs.List.{flat_map}
use Rattle.std.proofs.lemmas.Bool.Decides.{nat_tests}
use Rattle.std.proofs.lemmas.List.{append-nil}
use Rattle.std.proofs.lemmas.List.Elements.{All-nil}
use Rattle.crypto_op.specs.declared.spec.Card.{Card}
use Rattle.crypto_op.specs.declared.op.Op.{Op}
use Rattle.crypto_op.specs.Op.{entry_of}
use Rattle.capture_io.specs.Capture.{record_bytes, view}
use Rattle.capture_io.specs.Pieces.{AppendsPart}
use Rattle.session_file.specs.declared.plan.Plan.{Plan}
use Rattle.packet_plan.specs.Answered.{Answered, answered}
use Rattle.packet_plan.specs.Asked.{lets_pass}
use Rattle.packet_plan.specs.Work.{IsBegun, written_view}
use Rattle.packet_plan.specs.declared.written.Fate.TheVariants.{Passed}
use Rattle.packet_plan.specs.declared.written.Work.TheVariants as work
use Rattle.packet_plan.specs.declared.written.Written.{Written}
use Rattle.packet_plan.proofs.Begun.{passes_as}
use Rattle.packet_flow.specs.declared.counts.Counts.{Counts}
use Rattle.packet_flow.specs.declared.flow.FlowEnd.TheVariants.{WriteFault}
use Rattle.packet_flow.specs.declared.passage.Passage.{Passage}
use Rattle.packet_flow.specs.declared.window.Packet.{Packet}
use Rattle.packet_flow.specs.Counts.{counts_of}
use Rattle.packet_flow.specs.Filling.{AddsSlot}
use Rattle.packet_flow.specs.Flowed.{answer_bytes}
use Rattle.packet_flow.specs.Numbered.{Numbered, answers_to}
use Rattle.packet_flow.specs.Packet.{numbered_view, put_back}
use Rattle.packet_flow.specs.Passage.{Before, EndsAs, IsUnderway, Outside}
use Rattle.packet_flow.specs.Seats.{AllIn, IsIn, Seat, WaitsAtFront}
use Rattle.packet_flow.specs.Slots.{SeatsSay, StandFor, seat_for}
use Rattle.packet_flow.specs.Window.{Ahead, IsInRange}
use Rattle.packet_flow.specs.Writing.{Appends, CutsNext, HasWritten}
use Rattle.packet_flow.proofs.Begun.{begun_and_cut, begun_and_written, stand}

none_waits : (plan : Plan) (ss : List Seat) (ps : List Numbered) → ss ≡ [] → SeatsSay plan ss ps → ps ≡ []
unfolding SeatsSay
none_waits plan [] [] none says = refl
none_waits plan [] (p ∷ ps) none says = absurd says
none_waits plan (s ∷ ss) ps none says = absurd (let no : s ∷ ss ≡ [] = none in cc)

-- the passage has a packet at the front of its window that passes, and no slot
module _ (plan : Plan) (b : Before) (s_tells k_tells : Type 0) (p : Passage) (o : Outside) (u : IsUnderway plan b s_tells k_tells p o) (packet : Packet) (w : Ahead)
    (taken : p.window ≡ put_back packet w) (after : w.next ≡ packet.number + 1) (fits : IsInRange w) (empty : p.slots ≡ []) (passes : lets_pass plan (view packet.rec).packet ≡ true) where
  abbrev passed : Written
  passed = record { rec = packet.rec; fate = Passed }

  begun : IsBegun plan packet.number p.made (view packet.rec) (work.Ready passed)
  begun = passes_as plan packet.number p.made (view packet.rec) passed passes refl

  abbrev ss : List Seat
  ss = p.slots ++ seat_for packet.number (work.Ready passed) None ∷ []

  adds : AddsSlot plan b.big (numbered_view packet) p.made p.made p.slots ss p.burst p.burst
  adds = record {
    work = work.Ready passed;
    order = None;
    in_order = tt;
    begun = begun;
    count = omega arith;
    slots = refl;
    burst = ap (λ (l : List (Op Card)). record p.burst { ops = l }) (sym (append-nil p.burst.ops));
  }

  none : u.waiting ≡ []
  none = none_waits plan p.slots u.waiting empty u.stand.slots

  -- it is the only one that waits to be written
  alone : u.waiting ++ numbered_view packet ∷ [] ≡ numbered_view packet ∷ []
  alone = ap (λ (l : List Numbered). l ++ numbered_view packet ∷ []) none

  answers_are : answers_to plan (u.waiting ++ numbered_view packet ∷ []) ≡ written_view passed ∷ []
  answers_are = ap (answers_to plan) alone ∙ ap (λ (a : Answered). a ∷ []) (sym begun.0)

  -- it was written, and the passage is now q
  pub passed_and_written : (big : Bool) (old wrote : List ℕ) (q : Passage) → b.big ≡ big → o.written ≡ old → q.window ≡ w → q.burst ≡ p.burst → q.made ≡ p.made → q.back ≡ p.back → q.slots ≡ p.slots
      → ((answers : List Answered) (a : Answered) → p.counts ≡ counts_of answers → a.fate ≡ Passed → q.counts ≡ counts_of (answers ++ a ∷ []))
      → (k_tells → wrote ≡ old ++ record_bytes big (view packet.rec)) → IsUnderway plan b s_tells k_tells q (record o { written = wrote })
  passed_and_written big old wrote q big_is old_is window_is burst_is made_is back_is slots_is counted written =
      let gone = u.waiting ++ numbered_view packet ∷ [] in
      let there : q.slots ≡ [] = slots_is ∙ empty in
      let kept : StandFor plan [] [] (o.held ++ map entry_of p.burst.ops) =
      subst (λ (l : List Seat). StandFor plan [] l (o.held ++ map entry_of p.burst.ops)) empty (subst (λ (l : List Numbered). StandFor plan l p.slots (o.held ++ map entry_of p.burst.ops)) none u.stand) in
      let h : HasWritten plan gone (o.held ++ map entry_of p.burst.ops) q.slots p.counts q.counts (Appends plan b.big k_tells o.written wrote) = record {
        gone = gone;
        left = [];
        split = sym (append-nil gone);
        stand = subst (λ (l : List Seat). StandFor plan [] l (o.held ++ map entry_of p.burst.ops)) (sym there) kept;
        counts = λ answers is. counted answers (written_view passed) is refl ∙ ap (λ (l : List Answered). counts_of (answers ++ l)) (sym answers_are);
        says = λ told. written told ∙ ap (λ (l : List ℕ). l ++ record_bytes big (view packet.rec)) (sym old_is)
            ∙ ap (λ (x : Bool). o.written ++ record_bytes x (view packet.rec)) (sym big_is)
            ∙ ap (λ (l : List ℕ). o.written ++ l) (sym (append-nil (record_bytes b.big (view packet.rec))))
            ∙ ap (λ (l : List Answered). o.written ++ flat_map (answer_bytes b.big) l) (sym answers_are);
      } in
      begun_and_written plan b s_tells k_tells p o u packet w taken after fits ss p.burst p.made adds wrote q window_is burst_is made_is back_is h
      (subst WaitsAtFront (sym there) tt) (subst (AllIn b.big) (sym there) (All-nil (IsIn b.big)))

  -- it was cut
  pub passed_and_cut : (big : Bool) (old wrote : List ℕ) (counts : Counts) → b.big ≡ big → o.written ≡ old → counts ≡ p.counts → (k_tells → AppendsPart old wrote (record_bytes big (view packet.rec)))
      → EndsAs plan b s_tells k_tells WriteFault counts (record o { written = wrote })
  passed_and_cut big old wrote counts big_is old_is same cut =
      let all = u.waiting ++ numbered_view packet ∷ [] in
      let es = o.held ++ map entry_of p.burst.ops in
      let here : k_tells → AppendsPart (o.written ++ []) wrote (answer_bytes b.big (answered plan packet.number (view packet.rec))) = λ told.
      subst (λ (l : List ℕ). AppendsPart l wrote (answer_bytes b.big (answered plan packet.number (view packet.rec)))) (sym old_is ∙ sym (append-nil o.written))
      (subst (λ (a : Answered). AppendsPart old wrote (answer_bytes b.big a)) begun.0
      (subst (λ (x : Bool). AppendsPart old wrote (record_bytes x (view packet.rec))) (sym big_is) (cut told))) in
      let h : HasWritten plan all es ss p.counts counts (CutsNext plan b.big k_tells o.written wrote) = record {
        gone = [];
        left = all;
        split = refl;
        stand = stand plan b s_tells k_tells p o u packet w taken after fits ss p.burst p.made adds;
        counts = λ answers is. same ∙ is ∙ ap counts_of (sym (append-nil answers));
        says = λ told. (numbered_view packet, [], alone, here told);
      } in
      begun_and_cut plan b s_tells k_tells p o u packet w taken after fits ss p.burst p.made adds wrote counts ss h

pub none_in_slots : (seats : List Seat) (told : Bool) → told ≡ (length seats == 0) → told ≡ true → seats ≡ []
none_in_slots [] told is true_is = refl
none_in_slots (s ∷ seats) told is true_is =
    let other : (length (s ∷ seats) == 0) ≡ false = grind (arith, nat_tests) in
    absurd (let not : false ≡ true = sym other ∙ sym is ∙ true_is in cc)
