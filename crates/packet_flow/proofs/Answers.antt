-- Records that are answered one after another, from a number on.
use Rattle.std.proofs.Common.{◌≡◌, ◌≤◌, ◌+◌, ◌==◌, ℕ, Bool, zero, suc, List, [], ◌∷◌, ◌++◌, length, take, drop, count_by, refl, ap, sym, subst, ◌∙◌, arith, add-zero, append_assoc, length-append}
use Rattle.std.specs.Prelude.{Option, Some}
use Rattle.std.specs.List.{All, flat_map, slice_get}
use Rattle.std.proofs.Math.Seq.{take-append_seam}
use Rattle.std.proofs.lemmas.List.{append-nil, length-map, map-append}
use Rattle.std.proofs.lemmas.List.Elements.{All-cons, All-head, All-nil, All-tail}
use Rattle.std.proofs.lemmas.List.Concat.{flat_map-append}
use Rattle.crypto_op.specs.declared.spec.Card.{Card}
use Rattle.crypto_op.specs.Op.{Entry, input_of}
use Rattle.capture_io.specs.Capture.{Rec}
use Rattle.capture_io.specs.Pieces.{AppendsPart}
use Rattle.session_file.specs.declared.plan.Plan.{Plan}
use Rattle.packet_plan.specs.Answered.{Answered, answered, answered_from}
use Rattle.packet_plan.specs.Asked.{Works, asked}
use Rattle.packet_flow.specs.declared.counts.Counts.{Counts}
use Rattle.packet_flow.specs.Seats.{Seat, Ready}
use Rattle.packet_flow.specs.Counts.{counts_of}
use Rattle.packet_flow.specs.Flowed.{CutAt, answer_bytes}
use Rattle.packet_flow.specs.Numbered.{Numbered, answers_to, numbered, numbers_of}
use Rattle.packet_flow.specs.Slots.{IsFor, SeatsSay, StandFor, open_numbers}
use Rattle.packet_flow.specs.Writing.{Appends, CutsNext, HasWritten}
use Rattle.packet_flow.proofs.InSlots.{count-cons, none_below, one, same_told, times}
use Rattle.packet_flow.proofs.Rising.{length-numbered, rises_lower}

-- ---- a list behind its first n elements

pub take_more : {X : Type 0} (n : ℕ) (xs more : List X) (x : X) → drop n xs ≡ x ∷ more → take (suc n) xs ≡ take n xs ++ x ∷ []
take_more zero [] more x is = cc
take_more zero (y ∷ ys) more x is = let same : y ≡ x = cc in ap (λ (z : _). z ∷ []) same
take_more (suc n) [] more x is = cc
take_more (suc n) (y ∷ ys) more x is = ap (λ (l : List _). y ∷ l) (take_more n ys more x is)

pub drop_more : {X : Type 0} (n : ℕ) (xs more : List X) (x : X) → drop n xs ≡ x ∷ more → drop (suc n) xs ≡ more
drop_more zero [] more x is = cc
drop_more zero (y ∷ ys) more x is = cc
drop_more (suc n) [] more x is = cc
drop_more (suc n) (y ∷ ys) more x is = drop_more n ys more x is

-- ---- answers

pub length-answered_from : (plan : Plan) (n : ℕ) (rs : List Rec) → length (answered_from plan n rs) ≡ length rs
unfolding answered_from
length-answered_from plan n [] = refl
length-answered_from plan n (r ∷ rs) = omega (arith, length-answered_from plan (n + 1) rs)

pub answered_from-append : (plan : Plan) (n : ℕ) (rs more : List Rec) → answered_from plan n (rs ++ more) ≡ answered_from plan n rs ++ answered_from plan (n + length rs) more
unfolding answered_from
answered_from-append plan n [] more = ap (λ (k : ℕ). answered_from plan k more) (sym (add-zero n))
answered_from-append plan n (r ∷ rs) more =
    let at : (n + 1) + length rs ≡ n + length (r ∷ rs) = omega arith in
    ap (λ (l : List Answered). answered plan n r ∷ l) (answered_from-append plan (n + 1) rs more ∙ ap (λ (k : ℕ). answered_from plan (n + 1) rs ++ answered_from plan k more) at)

-- the same with their numbers beside them
pub answers_to-numbered : (plan : Plan) (n : ℕ) (rs : List Rec) → answers_to plan (numbered n rs) ≡ answered_from plan n rs
unfolding answered_from numbered
answers_to-numbered plan n [] = refl
answers_to-numbered plan n (r ∷ rs) = ap (λ (l : List Answered). answered plan n r ∷ l) (answers_to-numbered plan (n + 1) rs)

pub answers_to-append : (plan : Plan) (ps more : List Numbered) → answers_to plan (ps ++ more) ≡ answers_to plan ps ++ answers_to plan more
answers_to-append plan ps more = map-append (λ (p : Numbered). answered plan p.number p.rec) ps more

-- the first of a capture's answers are those to its first packets
pub first_answers_to : (plan : Plan) (used : List Rec) (done waiting : List Numbered) → numbered 0 used ≡ done ++ waiting
    → take (length done) (answered_from plan 0 used) ≡ answers_to plan done
first_answers_to plan used done waiting split =
    let all : answered_from plan 0 used ≡ answers_to plan done ++ answers_to plan waiting =
    sym (answers_to-numbered plan 0 used) ∙ ap (answers_to plan) split ∙ answers_to-append plan done waiting in
    let count : length done ≡ length (answers_to plan done) = sym (length-map done (λ (p : Numbered). answered plan p.number p.rec)) in
    ap (take (length done)) all ∙ ap (λ (n : ℕ). take n (answers_to plan done ++ answers_to plan waiting)) count ∙ take-append_seam (answers_to plan done) (answers_to plan waiting)

pub few_done : (used : List Rec) (done waiting : List Numbered) → numbered 0 used ≡ done ++ waiting → length done + length waiting ≡ length used
few_done used done waiting split = omega (arith, ap length split, length-numbered 0 used, length-append done waiting)

-- ---- the slot at the front is ready

for_behind : (plan : Plan) (p : Numbered) (ps : List Numbered) (e : Entry Card) → IsFor plan (p ∷ ps) e → one (e.cargo.packet == p.number) ≡ 0 → IsFor plan ps e
for_behind plan p ps e f other = by_place f.i f.packet f.there f.number f.asked where
  by_place : (i : ℕ) (q : Numbered) → slice_get (p ∷ ps) i ≡ Some q → q.number ≡ e.cargo.packet → asked plan q.number q.rec.packet ≡ Works e.cargo (input_of e.request) → IsFor plan ps e
  by_place zero q there number asks =
      let same : p ≡ q = cc in
      let here : e.cargo.packet ≡ p.number = sym number ∙ ap (λ (x : Numbered). x.number) (sym same) in
      let told : one (e.cargo.packet == p.number) ≡ 1 = ap (λ (n : ℕ). one (n == p.number)) here ∙ ap one (same_told p.number) in
      absurd (omega (arith, told, other))
  by_place (suc i) q there number asks = record { i = i; packet = q; there = there; number = number; asked = asks }

all_behind : (plan : Plan) (p : Numbered) (ps : List Numbered) (es : List (Entry Card)) → All (IsFor plan (p ∷ ps)) es → count_by (λ e. e.cargo.packet == p.number) es ≡ 0 → All (IsFor plan ps) es
all_behind plan p ps [] all none = All-nil (IsFor plan ps)
all_behind plan p ps (e ∷ es) all none =
    let split = count-cons (λ (x : Entry Card). x.cargo.packet == p.number) e es in
    All-cons (IsFor plan ps) e es (for_behind plan p ps e (All-head (IsFor plan (p ∷ ps)) e es all) (omega (arith, split, none)))
    (all_behind plan p ps es (All-tail (IsFor plan (p ∷ ps)) e es all) (omega (arith, split, none)))

-- it is that of the first packet, and the others stand for the packets behind
pub record FrontReady (plan : Plan) (ps : List Numbered) (ss : List Seat) (a : Answered) (entries : List (Entry Card)) : Type 0 where
  pub packet : Numbered
  pub others : List Numbered
  pub split : ps ≡ packet ∷ others
  pub view : a ≡ answered plan packet.number packet.rec
  pub stand : StandFor plan others ss entries

ready_step : (plan : Plan) (ps : List Numbered) (ss : List Seat) (n : ℕ) (a : Answered) (order : Option Bool) (entries : List (Entry Card)) → SeatsSay plan (Ready n a order ∷ ss) ps → StandFor plan ps (Ready n a order ∷ ss) entries
    → FrontReady plan ps ss a entries
unfolding SeatsSay open_numbers
ready_step plan [] ss n a order entries say b = absurd say
ready_step plan (p ∷ ps) ss n a order entries say b =
    let none : times p.number (open_numbers ss) ≡ 0 = none_below plan p.number (p.number + 1) ss ps say.1 b.rising.1 (omega arith) in
    record {
      packet = p;
      others = ps;
      split = refl;
      view = say.0.1;
      stand = record {
        slots = say.1;
        rising = rises_lower 0 (p.number + 1) (numbers_of ps) (omega arith) b.rising.1;
        made = all_behind plan p ps entries b.made (b.waits p.number ∙ none);
        waits = b.waits;
      };
    }

pub front_ready : (plan : Plan) (ps : List Numbered) (ss : List Seat) (n : ℕ) (a : Answered) (order : Option Bool) (entries : List (Entry Card)) → StandFor plan ps (Ready n a order ∷ ss) entries → FrontReady plan ps ss a entries
front_ready plan ps ss n a order entries b = ready_step plan ps ss n a order entries b.slots b

-- ---- what is written of them

module _ (big : Bool) (k_tells : Type 0) (plan : Plan) (ps : List Numbered) (entries : List (Entry Card)) (base : List ℕ) (before : Counts) where
  -- nothing yet
  pub none_written : (ss : List Seat) → StandFor plan ps ss entries → HasWritten plan ps entries ss before before (Appends plan big k_tells base base)
  none_written ss b = record {
    gone = [];
    left = ps;
    split = refl;
    stand = b;
    counts = λ answers is. is ∙ ap counts_of (sym (append-nil answers));
    says = λ told. sym (append-nil base);
  }

  module _ (n : ℕ) (w : Answered) (order : Option Bool) (ss : List Seat) (now after : Counts) (old new : List ℕ) (h : HasWritten plan ps entries (Ready n w order ∷ ss) before now (Appends plan big k_tells base old)) where
    front : FrontReady plan h.left ss w entries
    front = front_ready plan h.left ss n w order entries h.stand

    abbrev gone_now : List Numbered
    gone_now = h.gone ++ front.packet ∷ []

    answers_now : answers_to plan gone_now ≡ answers_to plan h.gone ++ w ∷ []
    answers_now = answers_to-append plan h.gone (front.packet ∷ []) ∙ ap (λ (a : Answered). answers_to plan h.gone ++ a ∷ []) (sym front.view)

    -- one more
    pub written_more : ((answers : List Answered) (a : Answered) → now ≡ counts_of answers → a.fate ≡ w.fate → after ≡ counts_of (answers ++ a ∷ []))
        → (k_tells → new ≡ old ++ answer_bytes big w) → HasWritten plan ps entries ss before after (Appends plan big k_tells base new)
    written_more counted appended = record {
      gone = gone_now;
      left = front.others;
      split = h.split ∙ ap (λ (l : List Numbered). h.gone ++ l) front.split ∙ sym (append_assoc h.gone (front.packet ∷ []) front.others);
      stand = front.stand;
      counts = λ answers is.
          counted (answers ++ answers_to plan h.gone) w (h.counts answers is) refl
          ∙ ap counts_of (append_assoc answers (answers_to plan h.gone) (w ∷ []) ∙ ap (λ (l : List Answered). answers ++ l) (sym answers_now));
      says = λ told.
          let bytes = answer_bytes big in
          let more : flat_map bytes (answers_to plan h.gone) ++ bytes w ≡ flat_map bytes (answers_to plan gone_now) =
          ap (λ (l : List ℕ). flat_map bytes (answers_to plan h.gone) ++ l) (sym (append-nil (bytes w))) ∙ sym (flat_map-append bytes (answers_to plan h.gone) (w ∷ []))
          ∙ ap (flat_map bytes) (sym answers_now) in
          appended told ∙ ap (λ (l : List ℕ). l ++ bytes w) (h.says told) ∙ append_assoc base (flat_map bytes (answers_to plan h.gone)) (bytes w) ∙ ap (λ (l : List ℕ). base ++ l) more;
    }

    -- it isn't written whole
    pub cut_here : (k_tells → AppendsPart old new (answer_bytes big w)) → HasWritten plan ps entries (Ready n w order ∷ ss) before now (CutsNext plan big k_tells base new)
    cut_here part = record {
      gone = h.gone;
      left = h.left;
      split = h.split;
      stand = h.stand;
      counts = h.counts;
      says = λ told.
          let own = part told in
          let some : AppendsPart (base ++ flat_map (answer_bytes big) (answers_to plan h.gone)) new (answer_bytes big w) =
          (own.0, own.1, own.2 ∙ ap (λ (l : List ℕ). l ++ take own.0 (answer_bytes big w)) (h.says told)) in
          (front.packet, front.others, front.split, subst (λ (a : Answered). AppendsPart (base ++ flat_map (answer_bytes big) (answers_to plan h.gone)) new (answer_bytes big a)) front.view some);
    }

-- ---- a capture of which more is written

module _ (plan : Plan) (used : List Rec) (done waiting : List Numbered) (split : numbered 0 used ≡ done ++ waiting) where
  pub within : length done ≤ length used
  within = omega (arith, few_done used done waiting split)

  -- what counts of the first of the answers
  pub counts_first : (counts : Counts) → counts ≡ counts_of (answers_to plan done) → counts ≡ counts_of (take (length done) (answered_from plan 0 used))
  counts_first counts is = is ∙ ap counts_of (sym (first_answers_to plan used done waiting split))

  pub writes_first : (big : Bool) (base new : List ℕ) → new ≡ base ++ flat_map (answer_bytes big) (answers_to plan done)
      → new ≡ base ++ flat_map (answer_bytes big) (take (length done) (answered_from plan 0 used))
  writes_first big base new is = is ∙ ap (λ (l : List Answered). base ++ flat_map (answer_bytes big) l) (sym (first_answers_to plan used done waiting split))

  module _ (entries : List (Entry Card)) (ss : List Seat) (before after : Counts) (Says : List Numbered → List Numbered → Type 0) (h : HasWritten plan waiting entries ss before after Says) where
    pub split_now : numbered 0 used ≡ (done ++ h.gone) ++ h.left
    split_now = split ∙ ap (λ (l : List Numbered). done ++ l) h.split ∙ sym (append_assoc done h.gone h.left)

    pub counts_now : before ≡ counts_of (answers_to plan done) → after ≡ counts_of (answers_to plan (done ++ h.gone))
    counts_now is = h.counts (answers_to plan done) is ∙ ap counts_of (sym (answers_to-append plan done h.gone))

  bytes_then : (big : Bool) (base : List ℕ) (more : List Numbered)
      → (base ++ flat_map (answer_bytes big) (answers_to plan done)) ++ flat_map (answer_bytes big) (answers_to plan more) ≡ base ++ flat_map (answer_bytes big) (answers_to plan (done ++ more))
  bytes_then big base more =
      append_assoc base (flat_map (answer_bytes big) (answers_to plan done)) (flat_map (answer_bytes big) (answers_to plan more))
      ∙ ap (λ (l : List ℕ). base ++ l) (sym (flat_map-append (answer_bytes big) (answers_to plan done) (answers_to plan more)) ∙ ap (flat_map (answer_bytes big)) (sym (answers_to-append plan done more)))

  pub writes_now : (big : Bool) (k_tells : Type 0) (base old new : List ℕ) (gone left : List Numbered) → (k_tells → old ≡ base ++ flat_map (answer_bytes big) (answers_to plan done))
      → Appends plan big k_tells old new gone left → k_tells → new ≡ base ++ flat_map (answer_bytes big) (answers_to plan (done ++ gone))
  writes_now big k_tells base old new gone left is more told =
      more told ∙ ap (λ (l : List ℕ). l ++ flat_map (answer_bytes big) (answers_to plan gone)) (is told) ∙ bytes_then big base gone

  pub cut_now : (big : Bool) (k_tells : Type 0) (base old new : List ℕ) (gone left : List Numbered) → numbered 0 used ≡ (done ++ gone) ++ left
      → (k_tells → old ≡ base ++ flat_map (answer_bytes big) (answers_to plan done)) → CutsNext plan big k_tells old new gone left
      → k_tells → CutAt big (answered_from plan 0 used) (length (done ++ gone)) base new
  cut_now big k_tells base old new gone left now is cut told =
      let c = cut told in
      let first = first_answers_to plan used (done ++ gone) left now in
      let wrote : old ++ flat_map (answer_bytes big) (answers_to plan gone) ≡ base ++ flat_map (answer_bytes big) (take (length (done ++ gone)) (answered_from plan 0 used)) =
      ap (λ (l : List ℕ). l ++ flat_map (answer_bytes big) (answers_to plan gone)) (is told) ∙ bytes_then big base gone ∙ ap (λ (l : List Answered). base ++ flat_map (answer_bytes big) l) (sym first) in
      record {
        next = answered plan c.0.number c.0.rec;
        others = answers_to plan c.1;
        split = sym (answers_to-numbered plan 0 used) ∙ ap (answers_to plan) now ∙ answers_to-append plan (done ++ gone) left
            ∙ ap (λ (l : List Numbered). answers_to plan (done ++ gone) ++ answers_to plan l) c.2
            ∙ ap (λ (l : List Answered). l ++ answered plan c.0.number c.0.rec ∷ answers_to plan c.1) (sym first);
        part = subst (λ (l : List ℕ). AppendsPart l new (answer_bytes big (answered plan c.0.number c.0.rec))) wrote c.3;
      }
