-- What reading on and beginning a record do to a capture on its way.
use Rattle.std.proofs.Common.{◌≡◌, ◌<◌, ◌+◌, ◌^◌, ◌++◌, ◌∷◌, ℕ, Bool, List, [], length, map, refl, ap, sym, subst, ◌∙◌, arith, inl, inr, append_assoc, length-append}
use Rattle.std.specs.Prelude.{Option, Some, None, ◌⊎◌, Result, Err, IfErr}
use Rattle.std.specs.List.{All}
use Rattle.std.proofs.lemmas.List.{map-append, length-map}
use Rattle.std.proofs.lemmas.List.Elements.{All-append}
use Rattle.crypto_op.specs.declared.spec.Card.{Card}
use Rattle.crypto_op.specs.declared.op.Op.{Op}
use Rattle.crypto_op.specs.Burst.{Burst}
use Rattle.crypto_op.specs.Op.{Entry, IsFresh, entry_of}
use Rattle.dev_core.specs.Burst.{log_entry}
use Rattle.dev_core.specs.declared.driver.LogEntry.{LogEntry}
use Rattle.dev_core.specs.Offers.{Flows}
use Rattle.capture_io.specs.Capture.{Rec, view}
use Rattle.capture_io.specs.declared.header.Place.{Place}
use Rattle.capture_io.specs.declared.header.ReadStop.{ReadStop}
use Rattle.session_file.specs.declared.plan.Plan.{Plan}
use Rattle.packet_plan.specs.Answered.{Answered, answered}
use Rattle.packet_flow.specs.declared.counts.Counts.{Counts}
use Rattle.packet_flow.specs.declared.passage.Passage.{Passage}
use Rattle.packet_flow.specs.declared.flow.FlowEnd.{FlowEnd}
use Rattle.packet_flow.specs.declared.flow.FlowEnd.TheVariants.{WriteFault}
use Rattle.packet_flow.specs.Seats.{AllIn, Seat, WaitsAtFront}
use Rattle.packet_flow.specs.declared.window.Packet.{Packet}
use Rattle.packet_flow.specs.Counts.{counts_of}
use Rattle.packet_flow.specs.Entries.{entries_from}
use Rattle.packet_flow.specs.Filling.{AddsSlot}
use Rattle.packet_flow.specs.Numbered.{Numbered, answers_to, numbered}
use Rattle.packet_flow.specs.Packet.{numbered_view, put_back}
use Rattle.packet_flow.specs.Passage.{Before, Outside, EndsAs, IsEarly, IsUnderway}
use Rattle.packet_flow.specs.Reads.{GoesOn, IsWholeStop, Moves}
use Rattle.packet_flow.specs.Slots.{StandFor, ops_of, seat_for}
use Rattle.packet_flow.specs.Window.{Ahead, IsInRange}
use Rattle.packet_flow.specs.Writing.{Appends, CutsNext, HasWritten}
use Rattle.packet_flow.proofs.Answers.{counts_now, cut_now, few_done, split_now, within, counts_first, writes_now}
use Rattle.packet_flow.proofs.Ends.{begun_first, ends_cut, ends_early, flows_any}
use Rattle.packet_flow.proofs.InSlots.{length-SeatsSay}
use Rattle.packet_flow.proofs.Numbers.{entries_behind-one, entries_from-append, length-entries_from}
use Rattle.packet_flow.proofs.Pushing.{entries_new, fresh_new, stand_more}
use Rattle.packet_flow.proofs.Rooms.{in_order_more}
use Rattle.packet_flow.proofs.Rising.{numbered-append, numbered-one, waiting_rises}

-- ---- the first packet that waits is begun, and what is ready is written

module _ (plan : Plan) (b : Before) (s_tells k_tells : Type 0) (p : Passage) (o : Outside) (u : IsUnderway plan b s_tells k_tells p o) where
  pub few_made : p.made < 2 ^ 32
  few_made = omega (arith, u.made, length-entries_from plan 0 u.used, u.next, u.range.count, u.range.range)

  -- those in slots are among those that were begun
  pub few_slots : length u.done + length p.slots ≡ length u.used
  few_slots = omega (arith, few_done u.used u.done u.waiting u.split, length-SeatsSay plan p.slots u.waiting u.stand.slots)

  -- what writing asks for, where the slots stand for the same packets
  pub few_answers : (ss : List Seat) (es : List (Entry Card)) → StandFor plan u.waiting ss es → (answers : List Answered) × (p.counts ≡ counts_of answers) × (length answers + length ss < 2 ^ 32)
  few_answers ss es stand =
      (answers_to plan u.done, u.counts, omega (arith, few_done u.used u.done u.waiting u.split, length-SeatsSay plan ss u.waiting stand.slots, u.next, u.range.count, u.range.range, length-map u.done (λ (x : Numbered). answered plan x.number x.rec)))

  module _ (packet : Packet) (w : Ahead) (taken : p.window ≡ put_back packet w) (after : w.next ≡ packet.number + 1) (fits : IsInRange w) (ss : List Seat) (burst : Burst (Op Card)) (made_now : ℕ) (a : AddsSlot plan b.big (numbered_view packet) p.made made_now p.slots ss p.burst burst) where
    abbrev rec : Rec
    rec = view packet.rec

    abbrev pub used : List Rec
    used = u.used ++ rec ∷ []

    abbrev pub waiting : List Numbered
    waiting = u.waiting ++ numbered_view packet ∷ []

    abbrev pub entries : List (Entry Card)
    entries = o.held ++ map entry_of burst.ops

    number_is : packet.number ≡ length u.used
    number_is = sym (ap (λ (x : Ahead). x.next) taken) ∙ u.next

    waits : p.window.waiting ≡ rec ∷ w.waiting
    waits = ap (λ (x : Ahead). x.waiting) taken

    ops_are : burst.ops ≡ p.burst.ops ++ ops_of a.work
    ops_are = ap (λ (x : Burst (Op Card)). x.ops) a.burst

    cap_is : burst.cap ≡ p.burst.cap
    cap_is = ap (λ (x : Burst (Op Card)). x.cap) a.burst

    split : numbered 0 used ≡ u.done ++ waiting
    split =
        let at : 0 + length u.used ≡ packet.number = omega (arith, number_is) in
        numbered-append 0 u.used (rec ∷ []) ∙ ap (λ (n : ℕ). numbered 0 u.used ++ numbered n (rec ∷ [])) at
        ∙ ap (λ (l : List Numbered). numbered 0 u.used ++ l) (numbered-one packet.number rec)
        ∙ ap (λ (l : List Numbered). l ++ numbered_view packet ∷ []) u.split
        ∙ append_assoc u.done u.waiting (numbered_view packet ∷ [])

    pub stand : StandFor plan waiting ss entries
    stand =
        let es : (o.held ++ map entry_of p.burst.ops) ++ map entry_of (ops_of a.work) ≡ entries =
        append_assoc o.held (map entry_of p.burst.ops) (map entry_of (ops_of a.work))
        ∙ ap (λ (l : List (Entry Card)). o.held ++ l) (sym (map-append entry_of p.burst.ops (ops_of a.work)) ∙ ap (map entry_of) (sym ops_are)) in
        subst (λ (l : List Seat). StandFor plan waiting l entries) (sym a.slots)
        (subst (StandFor plan waiting (p.slots ++ seat_for packet.number a.work a.order ∷ [])) es
        (stand_more plan p.made u.waiting (numbered_view packet) p.slots (o.held ++ map entry_of p.burst.ops) a.work a.order (waiting_rises 0 used u.done waiting split) a.begun u.stand))

    -- its operation has the next number
    entries_are : entries_from plan 0 used ≡ entries_from plan 0 u.used ++ map log_entry (ops_of a.work)
    entries_are =
        entries_from-append plan u.used (rec ∷ [])
        ∙ ap (λ (l : List LogEntry). entries_from plan 0 u.used ++ l) (entries_behind-one plan u.used rec packet.number p.made number_is u.made ∙ sym (entries_new plan p.made (numbered_view packet) a.work a.begun))

    queued : u.taken ++ map log_entry burst.ops ≡ entries_from plan 0 used
    queued =
        ap (λ (l : List LogEntry). u.taken ++ l) (ap (map log_entry) ops_are ∙ map-append log_entry p.burst.ops (ops_of a.work))
        ∙ sym (append_assoc u.taken (map log_entry p.burst.ops) (map log_entry (ops_of a.work)))
        ∙ ap (λ (l : List LogEntry). l ++ map log_entry (ops_of a.work)) u.queued
        ∙ sym entries_are

    made_is : made_now ≡ length (entries_from plan 0 used)
    made_is =
        omega (arith, a.count, u.made, ap length entries_are, length-append (entries_from plan 0 u.used) (map log_entry (ops_of a.work)), length-map (ops_of a.work) (log_entry {C = Card}))

    -- behind this record more may come
    offers : (more : List LogEntry) → Flows b.size (entries_from plan 0 used ++ more) o.past
    offers more =
        subst (λ (l : List LogEntry). Flows b.size l o.past)
        (sym (append_assoc (entries_from plan 0 u.used) (map log_entry (ops_of a.work)) more) ∙ ap (λ (l : List LogEntry). l ++ more) (sym entries_are))
        (u.offers (map log_entry (ops_of a.work) ++ more) (λ stop is none. absurd (omega (arith, ap length none, ap length waits))))

    so_far : u.used ++ p.window.waiting ≡ used ++ w.waiting
    so_far = ap (λ (l : List Rec). u.used ++ l) waits ∙ sym (append_assoc u.used (rec ∷ []) w.waiting)

    reads : s_tells → GoesOn b.big b.bytes (used ++ w.waiting) w.place o.left w.stop
    reads told =
        subst (GoesOn b.big b.bytes (used ++ w.waiting) w.place o.left) (ap (λ (x : Ahead). x.stop) taken)
        (subst (λ (at : Place). GoesOn b.big b.bytes (used ++ w.waiting) at o.left p.window.stop) (ap (λ (x : Ahead). x.place) taken)
        (subst (λ (l : List Rec). GoesOn b.big b.bytes l p.window.place o.left p.window.stop) so_far (u.reads told)))

    pub in_order : AllIn b.big ss
    in_order = subst (AllIn b.big) (sym a.slots) (in_order_more b.big p.slots (seat_for packet.number a.work a.order) a.in_order u.order)

    -- what writing asks for
    pub few_now : (answers : List Answered) × (p.counts ≡ counts_of answers) × (length answers + length ss < 2 ^ 32)
    few_now =
        (answers_to plan u.done, u.counts, omega (arith, few_slots, u.next, u.range.count, u.range.range, ap length waits, ap length a.slots, length-append p.slots (seat_for packet.number a.work a.order ∷ []), length-map u.done (λ (x : Numbered). answered plan x.number x.rec)))

    -- a record was cut
    pub begun_and_cut : (wrote : List ℕ) (counts : Counts) (now : List Seat) → HasWritten plan waiting entries now p.counts counts (CutsNext plan b.big k_tells o.written wrote)
        → EndsAs plan b s_tells k_tells WriteFault counts (record o { written = wrote })
    begun_and_cut wrote counts now h =
        let cut = split_now plan used u.done waiting split entries now p.counts counts (CutsNext plan b.big k_tells o.written wrote) h in
        ends_cut plan b s_tells k_tells (record o { written = wrote }) counts used u.taken (map log_entry burst.ops) (length (u.done ++ h.gone))
        (λ told. begun_first b.big b.bytes used w.waiting w.place o.left w.stop (reads told)) queued u.device u.took
        (λ told rs all_rest all. flows_any plan b.size o.past used rs offers (begun_first b.big b.bytes used w.waiting w.place o.left w.stop (reads told) rs all_rest all))
        (within plan used (u.done ++ h.gone) h.left cut)
        (counts_first plan used (u.done ++ h.gone) h.left cut counts (counts_now plan used u.done waiting split entries now p.counts counts (CutsNext plan b.big k_tells o.written wrote) h u.counts))
        (cut_now plan used u.done waiting split b.big k_tells b.base o.written wrote h.gone h.left cut u.writes h.says)

    -- what was ready was written, and the passage is now q
    pub begun_and_written : (wrote : List ℕ) (q : Passage) → q.window ≡ w → q.burst ≡ burst → q.made ≡ made_now → q.back ≡ p.back
        → HasWritten plan waiting entries q.slots p.counts q.counts (Appends plan b.big k_tells o.written wrote) → WaitsAtFront q.slots → AllIn b.big q.slots
        → IsUnderway plan b s_tells k_tells q (record o { written = wrote })
    begun_and_written wrote q window_is burst_is count_is back_is h front order =
        let says = Appends plan b.big k_tells o.written wrote in
        record {
          used = used;
          done = u.done ++ h.gone;
          waiting = h.left;
          taken = u.taken;
          split = split_now plan used u.done waiting split entries q.slots p.counts q.counts says h;
          reads = λ told. subst (λ (x : Ahead). GoesOn b.big b.bytes (used ++ x.waiting) x.place o.left x.stop) (sym window_is) (reads told);
          writes = writes_now plan used u.done waiting split b.big k_tells b.base o.written wrote h.gone h.left u.writes h.says;
          stand = subst (λ (x : Burst (Op Card)). StandFor plan h.left q.slots (o.held ++ map entry_of x.ops)) (sym burst_is) h.stand;
          counts = counts_now plan used u.done waiting split entries q.slots p.counts q.counts says h u.counts;
          made = count_is ∙ made_is;
          queued = ap (λ (x : Burst (Op Card)). u.taken ++ map log_entry x.ops) burst_is ∙ queued;
          device = u.device;
          few = u.few;
          fresh = subst (All IsFresh) (sym (ap (λ (x : Burst (Op Card)). x.ops) burst_is ∙ ops_are)) (All-append IsFresh p.burst.ops (ops_of a.work) u.fresh (fresh_new plan p.made (numbered_view packet) a.work a.begun));
          front = front;
          order = order;
          stopped = λ stop is. u.stopped stop (ap (λ (x : Ahead). x.stop) taken ∙ ap (λ (x : Ahead). x.stop) (sym window_is) ∙ is);
          next = omega (arith, ap (λ (x : Ahead). x.next) window_is, after, number_is, length-append u.used (rec ∷ []));
          range = subst IsInRange (sym window_is) fits;
          back = ap (λ (x : Burst (Op Card)). x.ops) back_is ∙ u.back;
          sizes = (ap (λ (x : Burst (Op Card)). x.cap) burst_is ∙ cap_is ∙ u.sizes.0, ap (λ (x : Burst (Op Card)). x.cap) back_is ∙ u.sizes.1, u.sizes.2);
          took = u.took;
          offers = λ more none. offers more;
        }

-- ---- reading on

pub none_stopped : {X S : Type 0} (xs : List X) → xs ≡ [] → (0 < length xs) ⊎ S → S
none_stopped xs none (inl some) = absurd (omega (arith, some, ap length none))
none_stopped xs none (inr s) = s

nothing_stopped : {X : Type 0} (xs : List X) (at : Option ReadStop) (stop : ReadStop) → (0 < length xs) ⊎ (at ≡ None) → at ≡ Some stop → xs ≡ [] → ⊥
nothing_stopped xs at stop (inl some) is none = omega (arith, some, ap length none)
nothing_stopped xs at stop (inr goes) is none = let no : Some stop ≡ None = sym is ∙ goes in cc

stop_stays : (s_tells : Type 0) (now left left' : List ℕ) (at : Option ReadStop) (stop : ReadStop) → now ≡ left
    → ((s : ReadStop) → at ≡ Some s → IsWholeStop s × (s_tells → s ≡ ReadStop.End → now ≡ []))
    → ((at ≡ Some stop) × (left' ≡ left)) ⊎ (IsWholeStop stop × (s_tells → stop ≡ ReadStop.End → left' ≡ []))
    → IsWholeStop stop × (s_tells → stop ≡ ReadStop.End → left' ≡ [])
stop_stays s_tells now left left' at stop is stopped (inl old) = ((stopped stop old.0).0, λ told ended. old.1 ∙ sym is ∙ (stopped stop old.0).1 told ended)
stop_stays s_tells now left left' at stop is stopped (inr new) = new

-- The window moved on. A packet that was taken of it counts as one that waits.
pub moved_on : (plan : Plan) (b : Before) (s_tells k_tells : Type 0) (p : Passage) (o : Outside) (w : Ahead) (big : Bool) (left left' wrote : List ℕ)
    → (0 < length p.window.waiting) ⊎ (p.window.stop ≡ None) → Moves big s_tells left left' p.window w
    → b.big ≡ big → o.left ≡ left → o.written ≡ wrote → IsUnderway plan b s_tells k_tells p o
    → IsUnderway plan b s_tells k_tells (record p { window = w }) (record o { left = left'; written = wrote })
moved_on plan b s_tells k_tells p o w big left left' wrote some m big_is left_is wrote_is u =
    let before : s_tells → GoesOn big b.bytes (u.used ++ p.window.waiting) p.window.place left p.window.stop = λ told.
    subst (λ (x : Bool). GoesOn x b.bytes (u.used ++ p.window.waiting) p.window.place left p.window.stop) big_is
    (subst (λ (l : List ℕ). GoesOn b.big b.bytes (u.used ++ p.window.waiting) p.window.place l p.window.stop) left_is (u.reads told)) in
    let on : s_tells → GoesOn b.big b.bytes (u.used ++ w.waiting) w.place left' w.stop = λ told.
    subst (λ (x : Bool). GoesOn x b.bytes (u.used ++ w.waiting) w.place left' w.stop) (sym big_is) (m.reads told b.bytes u.used (before told)) in
    record {
      used = u.used;
      done = u.done;
      waiting = u.waiting;
      taken = u.taken;
      split = u.split;
      reads = on;
      writes = λ told. sym wrote_is ∙ u.writes told;
      stand = u.stand;
      counts = u.counts;
      made = u.made;
      queued = u.queued;
      device = u.device;
      few = u.few;
      fresh = u.fresh;
      front = u.front;
      order = u.order;
      stopped = λ stop is. stop_stays s_tells o.left left left' p.window.stop stop left_is u.stopped (m.stops stop is);
      next = m.next ∙ u.next;
      range = m.range;
      back = u.back;
      sizes = u.sizes;
      took = u.took;
      offers = λ later none. u.offers later (λ stop is empty. absurd (nothing_stopped p.window.waiting p.window.stop stop some is empty));
    }

-- what was said of the capture that is written, by its names
pub said_by : (Says : Bool → List ℕ → Type 0) (big big' : Bool) (old old' : List ℕ) → big ≡ big' → old ≡ old' → Says big' old' → Says big old
said_by Says big big' old old' big_is old_is says = subst (λ (x : Bool). Says x old) (sym big_is) (subst (Says big') (sym old_is) says)

pub added_in : (plan : Plan) (packet : Packet) (p : Passage) (made : ℕ) (ss : List Seat) (burst : Burst (Op Card)) (big big' : Bool) → big ≡ big'
    → AddsSlot plan big' (numbered_view packet) p.made made p.slots ss p.burst burst → AddsSlot plan big (numbered_view packet) p.made made p.slots ss p.burst burst
added_in plan packet p made ss burst big big' is a = subst (λ (x : Bool). AddsSlot plan x (numbered_view packet) p.made made p.slots ss p.burst burst) (sym is) a

-- ---- an end

pub ended_early : (plan : Plan) (b : Before) (s_tells k_tells : Type 0) (p : Passage) (o : Outside) (end : FlowEnd) (left wrote : List ℕ) → IsEarly end → (end ≡ WriteFault → ⊥) → o.written ≡ wrote
    → IsUnderway plan b s_tells k_tells p o → EndsAs plan b s_tells k_tells end p.counts (record o { left = left; written = wrote })
ended_early plan b s_tells k_tells p o end left wrote early no_write is u =
    subst (λ (l : List ℕ). EndsAs plan b s_tells k_tells end p.counts (record o { left = left; written = l })) is (ends_early plan b s_tells k_tells p o end p.counts early no_write u refl)

pub if_err_is : {T E : Type 0} (r : Result T E) (P : E → Type 0) (e : E) → (x : E) × (r ≡ Err x) × (x ≡ e) → P e → IfErr r P
if_err_is r P e is here = subst (λ (x : Result _ _). IfErr x P) (sym (is.1 ∙ ap Err is.2)) here

-- what is outside, by its names
pub outside_is : (plan : Plan) (b : Before) (s_tells k_tells : Type 0) (p : Passage) (o : Outside) (left wrote : List ℕ) → o.left ≡ left → o.written ≡ wrote
    → IsUnderway plan b s_tells k_tells p o → IsUnderway plan b s_tells k_tells p (record o { left = left; written = wrote })
outside_is plan b s_tells k_tells p o left wrote left_is wrote_is u =
    subst (λ (l : List ℕ). IsUnderway plan b s_tells k_tells p (record o { left = left; written = l })) wrote_is
    (subst (λ (l : List ℕ). IsUnderway plan b s_tells k_tells p (record o { left = l })) left_is u)
