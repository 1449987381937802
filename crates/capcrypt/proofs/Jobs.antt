-- How each way out of a run meets what is said of the run.
use Rattle.std.proofs.Common.{◌≡◌, ◌⊎◌, inl, inr, ℕ, Bool, true, false, ◌+◌, ◌<◌, ◌≤◌, List, [], ◌∷◌, ◌++◌, length, map, take, drop, refl, ◌∙◌, ap, sym, subst, arith, append_assoc, length-append, length-take, length-drop}
use Rattle.std.specs.Prelude.{Ok, Err}
use Rattle.std.proofs.lemmas.List.{append-nil, take_all, take-append-le, take-append-drop}
use Rattle.std.proofs.lemmas.List.Concat.{flat_map-append}
use Rattle.std.proofs.Math.Seq.{take-append-add, take-append_seam}
use Rattle.std.specs.List.{flat_map}
use Rattle.dev_core.specs.declared.driver.LogEntry.{LogEntry}
use Rattle.capture_io.specs.declared.header.Header.{Header}
use Rattle.capture_io.specs.declared.header.ReadStop.{ReadStop}
use Rattle.capture_io.specs.declared.header.ReadStop.TheVariants.{Fault, BadCapture, OutOfMemory}
use Rattle.capture_io.specs.declared.header.CaptureCause.{CaptureCause}
use Rattle.capture_io.specs.Capture.{Rec, Rest, Reading, IsReading, NoHeader, Holds, Records, StopsHeader, first_place, header_at, header_bytes, spelled}
use Rattle.capture_io.specs.Pieces.{AppendsPart}
use Rattle.session_file.specs.declared.plan.Plan.{Plan}
use Rattle.packet_plan.specs.Answered.{Answered, answered_from}
use Rattle.packet_flow.proofs.Answers.{length-answered_from}
use Rattle.packet_flow.specs.declared.flow.FlowEnd.{FlowEnd}
use Rattle.packet_flow.specs.declared.flow.FlowEnd.TheVariants as flow
use Rattle.packet_flow.specs.Counts.{counts_of}
use Rattle.packet_flow.specs.Entries.{entries_from}
use Rattle.packet_flow.specs.Flowed.{CutAt, EndsWhole, Flowed, IsWholeFlow, IsWrittenBy, answer_bytes}
use Rattle.packet_flow.specs.Reads.{ReadsAs}
use Rattle.capcrypt.specs.declared.ending.Outcome.{Outcome}
use Rattle.capcrypt.specs.declared.ending.Ending.{Ending}
use Rattle.capcrypt.specs.declared.ending.Ending.TheVariants.{Done, Memory, Usage, Vdev, Capture, Sessions, ReadFault, WriteFault, Stalled, TooLarge}
use Rattle.capcrypt.specs.declared.dealing.Dealing.{Dealing}
use Rattle.capcrypt.specs.Dealing.{workers_of}
use Rattle.capcrypt.specs.Devices.{DeviceNow, at, taken_together}
use Rattle.capcrypt.specs.Launched.{IsWanting}
use Rattle.capcrypt.specs.Served.{HaveServed, WasSetUp}
use Rattle.capcrypt.specs.Start.{Settings, Start, Begins, Stops}
use Rattle.capcrypt.specs.Written.{raised, ending_at}
use Rattle.capcrypt.specs.Ran.{HasAppended, Job, IsWritten, IsDecided, IsLate, AppendsRecords, AppendsUpto, flow_ending, stop_ending}
use Rattle.capcrypt.proofs.Dealt.{ready_at}

-- no record is empty
length-spelled : (big : Bool) (x : ℕ) → length (spelled big 4 x) ≡ 4
length-spelled true x = refl
length-spelled false x = refl

some_bytes : (big : Bool) (a : Answered) → 0 < length (answer_bytes big a)
some_bytes big a =
    let r = a.rec in
    let one = spelled big 4 r.sec in
    let two = one ++ spelled big 4 r.frac in
    let three = two ++ spelled big 4 (length r.packet) in
    let four = three ++ spelled big 4 r.orig in
    omega (arith, length-append one (spelled big 4 r.frac), length-append two (spelled big 4 (length r.packet)), length-append three (spelled big 4 r.orig), length-append four r.packet, length-spelled big r.sec)

take_next : (answers : List Answered) (n : ℕ) (a : Answered) (others : List Answered) → n < length answers → answers ≡ take n answers ++ a ∷ others
    → take (n + 1) answers ≡ take n answers ++ a ∷ []
take_next answers n a others inside split =
    let count : length (take n answers) ≡ n = omega (arith, length-take n answers) in
    ap (take (n + 1)) split ∙ ap (λ (m : ℕ). take (m + 1) (take n answers ++ a ∷ others)) (sym count) ∙ take-append-add (take n answers) (a ∷ others) 1

-- the bytes of one record more
bytes_next : (big : Bool) (answers : List Answered) (n : ℕ) (a : Answered) (others : List Answered) → n < length answers → answers ≡ take n answers ++ a ∷ others
    → length (flat_map (answer_bytes big) (take (n + 1) answers)) ≡ length (flat_map (answer_bytes big) (take n answers)) + length (answer_bytes big a)
bytes_next big answers n a others inside split =
    let upto = ap (flat_map (answer_bytes big)) (take_next answers n a others inside split) ∙ flat_map-append (answer_bytes big) (take n answers) (a ∷ []) in
    ap length upto ∙ length-append (flat_map (answer_bytes big) (take n answers)) (answer_bytes big a ++ [])
    ∙ ap (λ (l : List ℕ). length (flat_map (answer_bytes big) (take n answers)) + length l) (append-nil (answer_bytes big a))

-- n of some records are all of them, or their bytes are fewer than those of one more
more_bytes : (big : Bool) (answers : List Answered) (head : List ℕ) (n : ℕ) → n ≤ length answers
    → (n ≡ length answers) ⊎ (length (head ++ flat_map (answer_bytes big) (take n answers)) < length (head ++ flat_map (answer_bytes big) (take (n + 1) answers)))
more_bytes big answers head n within = by_rest (drop n answers) refl
  where
    by_rest : (rest : List Answered) → drop n answers ≡ rest → (n ≡ length answers) ⊎ (length (head ++ flat_map (answer_bytes big) (take n answers)) < length (head ++ flat_map (answer_bytes big) (take (n + 1) answers)))
    by_rest [] is = inl (omega (arith, ap length is, length-drop n answers))
    by_rest (a ∷ rest) is =
        let inside : n < length answers = omega (arith, ap length is, length-drop n answers) in
        let split : answers ≡ take n answers ++ a ∷ rest = sym (take-append-drop n answers) ∙ ap (λ (l : List Answered). take n answers ++ l) is in
        inr (omega (
          arith,
          bytes_next big answers n a rest inside split,
          some_bytes big a,
          length-append head (flat_map (answer_bytes big) (take n answers)),
          length-append head (flat_map (answer_bytes big) (take (n + 1) answers)),
        ))

module _ (s : Settings) (h : Header) (rs : List Rec) (rest : Rest) (old new : List ℕ) where
  abbrev head : List ℕ
  head = header_bytes (raised h)

  abbrev answers : List Answered
  answers = answered_from s.plan 0 rs

  abbrev body : List ℕ
  body = flat_map (answer_bytes h.big) answers

  -- a front of the header alone
  header_front : (k : ℕ) → k ≤ length head → new ≡ old ++ take k head → AppendsUpto (Begins s) (Holds h rs rest) 0 old new
  header_front k fits front = record {
    k = k;
    front = front ∙ ap (λ (l : List ℕ). old ++ l) (sym (take-append-le k head body fits));
    whole = inl refl;
    no_more = elim (more_bytes h.big answers head 0 (omega arith)) [
      | inl none ↦ inl none
      | inr some ↦ inr (omega (arith, some, length-append head []))
    ];
  }

  -- the header alone, or less
  pub header_cut : AppendsPart old new head → AppendsUpto (Begins s) (Holds h rs rest) 0 old new
  header_cut part = header_front part.0 (omega (arith, part.1)) part.2

  cut_inside : (n : ℕ) → CutAt h.big answers n (old ++ head) new → n < length answers
  cut_inside n cut = omega (arith, ap length cut.split, length-append (take n answers) (cut.next ∷ cut.others), length-take n answers)

  -- the records, but not all of them
  records_cut : (n : ℕ) → CutAt h.big answers n (old ++ head) new → AppendsUpto (Begins s) (Holds h rs rest) n old new
  records_cut n cut =
      let front = flat_map (answer_bytes h.big) (take n answers) in
      let one = answer_bytes h.big cut.next in
      let others = flat_map (answer_bytes h.big) cut.others in
      let k = cut.part.0 in
      let split : body ≡ front ++ (one ++ others) =
      ap (flat_map (answer_bytes h.big)) cut.split ∙ flat_map-append (answer_bytes h.big) (take n answers) (cut.next ∷ cut.others) in
      let inside = cut_inside n cut in
      let cut_body : take (length front + k) body ≡ front ++ take k one =
      ap (take (length front + k)) split ∙ take-append-add front (one ++ others) k ∙ ap (λ (l : List ℕ). front ++ l) (take-append-le k one others (omega (arith, cut.part.1))) in
      record {
        k = length head + (length front + k);
        front = cut.part.2 ∙ append_assoc (old ++ head) front (take k one) ∙ append_assoc old head (front ++ take k one)
            ∙ ap (λ (l : List ℕ). old ++ l) (sym (take-append-add head body (length front + k) ∙ ap (λ (l : List ℕ). head ++ l) cut_body));
        whole = inr (omega (arith, length-append head front));
        no_more = inr (omega (arith, cut.part.1, length-append head (flat_map (answer_bytes h.big) (take (n + 1) answers)), bytes_next h.big answers n cut.next cut.others inside cut.split));
      }

  -- all of the records
  all_front : (n : ℕ) → n ≡ length answers → new ≡ old ++ (head ++ body) → AppendsUpto (Begins s) (Holds h rs rest) n old new
  all_front n count wrote = record {
    k = length (head ++ body);
    front = wrote ∙ ap (λ (l : List ℕ). old ++ l) (sym (take_all (length (head ++ body)) (head ++ body) (omega arith)));
    whole = inr (let all : take n answers ≡ answers = take_all n answers (omega arith) in rw all (omega arith));
    no_more = inl count;
  }

  nothing_front : (n : ℕ) → n ≡ 0 → new ≡ old → AppendsUpto (Begins s) (Holds h rs rest) n old new
  nothing_front n none same =
      rw none (header_front 0 (omega arith) (same ∙ sym (append-nil old)))

  -- n records, and nothing of the next
  records_front : (n : ℕ) → n ≤ length answers → new ≡ old ++ (head ++ flat_map (answer_bytes h.big) (take n answers)) → AppendsUpto (Begins s) (Holds h rs rest) n old new
  records_front n within wrote =
      let front = flat_map (answer_bytes h.big) (take n answers) in
      let behind = flat_map (answer_bytes h.big) (drop n answers) in
      let split : head ++ body ≡ (head ++ front) ++ behind =
      ap (λ (l : List ℕ). head ++ l) (ap (flat_map (answer_bytes h.big)) (sym (take-append-drop n answers)) ∙ flat_map-append (answer_bytes h.big) (take n answers) (drop n answers))
      ∙ sym (append_assoc head front behind) in
      record {
        k = length (head ++ front);
        front = wrote ∙ ap (λ (l : List ℕ). old ++ l) (sym (ap (take (length (head ++ front))) split ∙ take-append_seam (head ++ front) behind));
        whole = inr (omega arith);
        no_more = more_bytes h.big answers head n within;
      }

  -- what stands where all was written
  all_written : (n : ℕ) → n ≡ length rs → new ≡ (old ++ head) ++ flat_map (answer_bytes h.big) (take n answers) → new ≡ old ++ (head ++ body)
  all_written n count wrote =
      let all : take n answers ≡ answers = take_all n answers (omega (arith, length-answered_from s.plan 0 rs)) in
      wrote ∙ ap (λ (l : List Answered). (old ++ head) ++ flat_map (answer_bytes h.big) l) all ∙ append_assoc old head body

  -- by how the flow ended, and by why the reading stopped
  stop_written : (stop : ReadStop) (n : ℕ) → n ≤ length rs → (IsDecided (flow_ending (flow.Stopped stop)) → n ≡ length rs)
      → new ≡ (old ++ head) ++ flat_map (answer_bytes h.big) (take n answers) → IsWritten (flow_ending (flow.Stopped stop)) (Begins s) (Holds h rs rest) n old new
  stop_written ReadStop.End n within all wrote = all_written n (all tt) wrote
  stop_written (BadCapture at cause) n within all wrote = all_written n (all tt) wrote
  stop_written (ReadStop.TooLarge value) n within all wrote = all_written n (all tt) wrote
  stop_written Fault n within all wrote = inr (wrote ∙ append_assoc old head (flat_map (answer_bytes h.big) (take n answers)))
  stop_written OutOfMemory n within all wrote =
      records_front n (omega (arith, within, length-answered_from s.plan 0 rs)) (wrote ∙ append_assoc old head (flat_map (answer_bytes h.big) (take n answers)))

  flow_written : (end : FlowEnd) (n : ℕ) → n ≤ length rs → (IsDecided (flow_ending end) → n ≡ length rs) → IsWrittenBy end h.big answers n (old ++ head) new
      → IsWritten (flow_ending end) (Begins s) (Holds h rs rest) n old new
  flow_written (flow.Stopped stop) n within all wrote = stop_written stop n within all wrote
  flow_written flow.WriteFault n within all cut = records_cut n cut
  flow_written flow.Stalled n within all wrote = inr (wrote ∙ append_assoc old head (flat_map (answer_bytes h.big) (take n answers)))
  flow_written flow.OutOfMemory n within all wrote =
      records_front n (omega (arith, within, length-answered_from s.plan 0 rs)) (wrote ∙ append_assoc old head (flat_map (answer_bytes h.big) (take n answers)))

stop_late : (stop : ReadStop) → IsLate (stop_ending stop)
stop_late ReadStop.End = tt
stop_late (BadCapture at cause) = tt
stop_late (ReadStop.TooLarge value) = tt
stop_late Fault = tt
stop_late OutOfMemory = tt

-- a flow ends behind words and session text
pub flow_late : (e : Ending) (end : FlowEnd) → e ≡ flow_ending end → IsLate e
flow_late e (flow.Stopped stop) is = subst IsLate (sym is) (stop_late stop)
flow_late e flow.WriteFault is = subst IsLate (sym is) tt
flow_late e flow.Stalled is = subst IsLate (sym is) tt
flow_late e flow.OutOfMemory is = subst IsLate (sym is) tt

pub read_late : (e : Ending) (stop : ReadStop) → e ≡ stop_ending stop → IsLate e
read_late e stop is = subst IsLate (sym is) (stop_late stop)

-- a decided end is that of the whole capture
module _ (plan : Plan) (rs : List Rec) (rest : Rest) (n : ℕ) (taken : List LogEntry) where
  whole_end : (stop : ReadStop) → IsDecided (flow_ending (flow.Stopped stop)) → EndsWhole (flow.Stopped stop)
  whole_end ReadStop.End d = tt
  whole_end (BadCapture at cause) d = tt
  whole_end (ReadStop.TooLarge value) d = tt
  whole_end Fault d = absurd d
  whole_end OutOfMemory d = absurd d

  pub decided_whole : (end : FlowEnd) → IsDecided (flow_ending end) → EndsWhole end
  decided_whole (flow.Stopped stop) d = whole_end stop d
  decided_whole flow.WriteFault d = absurd d
  decided_whole flow.Stalled d = absurd d
  decided_whole flow.OutOfMemory d = absurd d

  stop_at : (stop : ReadStop) → IsDecided (flow_ending (flow.Stopped stop)) → ReadsAs rs stop rs rest → flow_ending (flow.Stopped stop) ≡ ending_at rest
  stop_at ReadStop.End d is = ap ending_at (sym is.1)
  stop_at (BadCapture at cause) d is = ap ending_at (sym is.1)
  stop_at (ReadStop.TooLarge value) d is = ap ending_at (sym is.1)
  stop_at Fault d is = absurd d
  stop_at OutOfMemory d is = absurd d

  pub ends_at : (end : FlowEnd) → IsDecided (flow_ending end) → IsWholeFlow plan rs rest end n taken → flow_ending end ≡ ending_at rest
  ends_at (flow.Stopped stop) d w = stop_at stop d w.stop
  ends_at flow.WriteFault d w = absurd d
  ends_at flow.Stalled d w = absurd d
  ends_at flow.OutOfMemory d w = absurd d

-- ---- what a run wrote whose plan and header are known

module _ (s : Settings) (h : Header) (rs : List Rec) (rest : Rest) (o : Outcome) (old base new : List ℕ) where
  -- the header could not be written
  pub header_failed : (devices : ℕ) → o ≡ record { ending = WriteFault; counts = counts_of []; header = true; devices = devices } → AppendsPart old new (header_bytes (raised h))
      → HasAppended (Begins s) (Holds h rs rest) o old new
  header_failed devices is part = rw is (record {
    n = 0;
    within = omega arith;
    counts = refl;
    written = header_cut s h rs rest old new part;
    whole = λ no. absurd no;
  })

  -- memory was wanting before the header was written
  pub not_set_up : (devices : ℕ) → o ≡ record { ending = Memory; counts = counts_of []; header = true; devices = devices } → new ≡ old
      → HasAppended (Begins s) (Holds h rs rest) o old new
  not_set_up devices is same = rw is (record {
    n = 0;
    within = omega arith;
    counts = refl;
    written = nothing_front s h rs rest old new 0 refl same;
    whole = λ no. absurd no;
  })

  -- the packets flowed, to this end
  pub flowed : (end : FlowEnd) (taken : List LogEntry) → base ≡ old ++ header_bytes (raised h) → o.ending ≡ flow_ending end → o.header ≡ true
      → Flowed s.plan h.big rs rest end o.counts base new taken → HasAppended (Begins s) (Holds h rs rest) o old new
  flowed end taken wrote ending header f =
      let all : IsDecided (flow_ending end) → f.n ≡ length rs = λ x. (f.whole (decided_whole s.plan rs rest f.n taken end x)).records in
      record {
        n = f.n;
        within = omega (arith, f.within, length-answered_from s.plan 0 rs);
        counts = f.counts_are;
        written = subst (λ (x : Ending). IsWritten x (Begins s) (Holds h rs rest) f.n old new) (sym ending)
            (flow_written s h rs rest old new end f.n f.within all (subst (λ (l : List ℕ). IsWrittenBy end h.big (answered_from s.plan 0 rs) f.n l new) wrote f.written));
        whole = λ x.
            let known : IsDecided (flow_ending end) = subst IsDecided ending x in
            let w = f.whole (decided_whole s.plan rs rest f.n taken end known) in
            (ending ∙ ends_at s.plan rs rest f.n taken end known w, w.records ∙ sym (length-answered_from s.plan 0 rs), header);
      }

-- the same run, whose sink could not be flushed
module _ (s : Settings) (h : Header) (rs : List Rec) (rest : Rest) (o o' : Outcome) (old new : List ℕ) where
  abbrev count : ℕ
  count = length (answered_from s.plan 0 rs)

  upto_records : (n : ℕ) → n ≤ count → AppendsRecords (Begins s) (Holds h rs rest) n old new → AppendsUpto (Begins s) (Holds h rs rest) n old new
  upto_records n within written = elim written [
    | inl nothing ↦ nothing_front s h rs rest old new n nothing.1 nothing.0
    | inr some ↦ records_front s h rs rest old new n within some
  ]

  upto_of : (e : Ending) (n : ℕ) → n ≤ count → (IsDecided e → n ≡ count) → IsWritten e (Begins s) (Holds h rs rest) n old new → AppendsUpto (Begins s) (Holds h rs rest) n old new
  upto_of Memory n within all written = written
  upto_of WriteFault n within all written = written
  upto_of ReadFault n within all written = upto_records n within written
  upto_of Stalled n within all written = upto_records n within written
  upto_of Done n within all written = all_front s h rs rest old new n (all tt) written
  upto_of Usage n within all written = all_front s h rs rest old new n (all tt) written
  upto_of (Vdev at) n within all written = all_front s h rs rest old new n (all tt) written
  upto_of (Capture at cause) n within all written = all_front s h rs rest old new n (all tt) written
  upto_of (Sessions line kind) n within all written = all_front s h rs rest old new n (all tt) written
  upto_of (TooLarge value) n within all written = all_front s h rs rest old new n (all tt) written

  flush_failed : HasAppended (Begins s) (Holds h rs rest) o old new → o' ≡ record o { ending = WriteFault } → HasAppended (Begins s) (Holds h rs rest) o' old new
  flush_failed w is =
      let ending : o'.ending ≡ WriteFault = ap (λ (x : Outcome). x.ending) is in
      record {
        n = w.n;
        within = w.within;
        counts = ap (λ (x : Outcome). x.counts) is ∙ w.counts;
        written = subst (λ (e : Ending). IsWritten e (Begins s) (Holds h rs rest) w.n old new) (sym ending)
            (upto_of o.ending w.n w.within (λ x. (w.whole x).1) w.written);
        whole = λ x. absurd (subst IsDecided ending x);
      }

  pub flushed : (R : Type 0) → HasAppended (Begins s) (Holds h rs rest) o old new → (o' ≡ o) ⊎ ((o' ≡ record o { ending = WriteFault }) × R) → HasAppended (Begins s) (Holds h rs rest) o' old new
  flushed R w (inl same) = subst (λ (x : Outcome). HasAppended (Begins s) (Holds h rs rest) x old new) (sym same) w
  flushed R w (inr failed) = flush_failed w failed.0

-- whatever the outcome was before the flush, it decides no more behind one that failed
pub flushed_decided : (o o' : Outcome) (R : Type 0) → (o' ≡ o) ⊎ ((o' ≡ record o { ending = WriteFault }) × R) → IsDecided o'.ending → IsDecided o.ending
flushed_decided o o' R (inl same) d = subst (λ (x : Outcome). IsDecided x.ending) same d
flushed_decided o o' R (inr failed) d = absurd (subst (λ (x : Outcome). IsDecided x.ending) failed.0 d)

pub flushed_stalled : (o o' : Outcome) (R : Type 0) → (o' ≡ o) ⊎ ((o' ≡ record o { ending = WriteFault }) × R) → o'.ending ≡ Stalled → o.ending ≡ Stalled
flushed_stalled o o' R (inl same) e = sym (ap (λ (x : Outcome). x.ending) same) ∙ e
flushed_stalled o o' R (inr failed) e = absurd (let no : WriteFault ≡ Stalled = sym (ap (λ (x : Outcome). x.ending) failed.0) ∙ e in cc)

-- ---- a run that ended before the capture was read

not_yet : (start : Start) (reading : Reading) (old : List ℕ) → AppendsUpto start reading 0 old old
not_yet (Begins s) (Holds h rs rest) old = nothing_front s h rs rest old old 0 refl refl
not_yet (Begins s) (NoHeader at cause) old = record { k = 0; front = sym (append-nil old); whole = inl refl; no_more = inl refl }
not_yet (Stops e) reading old = record { k = 0; front = sym (append-nil old); whole = inl refl; no_more = inl refl }

stopped_written : (e : Ending) (start : Start) (reading : Reading) (old : List ℕ) → (IsDecided e → start ≡ Stops e) → IsWritten e start reading 0 old old
stopped_written Memory start reading old is = not_yet start reading old
stopped_written WriteFault start reading old is = not_yet start reading old
stopped_written ReadFault start reading old is = inl (refl, refl)
stopped_written Stalled start reading old is = inl (refl, refl)
stopped_written Done start reading old is = let same : start ≡ Stops Done = is tt in rw same (sym (append-nil old))
stopped_written Usage start reading old is = let same : start ≡ Stops Usage = is tt in rw same (sym (append-nil old))
stopped_written (Vdev at) start reading old is = let same : start ≡ Stops (Vdev at) = is tt in rw same (sym (append-nil old))
stopped_written (Capture at cause) start reading old is = let same : start ≡ Stops (Capture at cause) = is tt in rw same (sym (append-nil old))
stopped_written (Sessions line kind) start reading old is = let same : start ≡ Stops (Sessions line kind) = is tt in rw same (sym (append-nil old))
stopped_written (TooLarge value) start reading old is = let same : start ≡ Stops (TooLarge value) = is tt in rw same (sym (append-nil old))

-- what was written of it, and what was counted
not_begun_written : (e : Ending) (start : Start) (reading : Reading) (o : Outcome) (old : List ℕ) → (IsDecided e → start ≡ Stops e)
    → o ≡ record { ending = e; counts = counts_of []; header = false; devices = 0 } → HasAppended start reading o old old
not_begun_written e start reading o old is same = rw same (record {
  n = 0;
  within = omega arith;
  counts = refl;
  written = stopped_written e start reading old is;
  whole = λ x. let stops = is x in rw stops (refl, refl, refl);
})

-- ---- whole runs, but for the report

pub not_begun : (e : Ending) (start : Start) (reading : Reading) (o : Outcome) (old : List ℕ) (kept : ℕ → Type 0) (before now : List DeviceNow)
    → (IsDecided e → start ≡ Stops e) → (e ≡ Stalled → ⊥) → o ≡ record { ending = e; counts = counts_of []; header = false; devices = 0 } → kept 0
    → Job start reading o old old kept before now
not_begun e start reading o old kept before now is never same idle =
    let ending : o.ending ≡ e = ap (λ (x : Outcome). x.ending) same in
    record {
      wrote = not_begun_written e start reading o old is same;
      used = λ x. absurd (let no : false ≡ true = sym (ap (λ (y : Outcome). y.header) same) ∙ x in cc);
      devices = inl (record { n = 0; some = inl refl; others = idle });
      stalled = λ x. absurd (never (sym ending ∙ x));
      decided = λ x. let stops = is (subst IsDecided ending x) in rw stops tt;
    }

module _ (s : Settings) (h : Header) (rs : List Rec) (rest : Rest) (o : Outcome) (old new : List ℕ) (kept : ℕ → Type 0) (before now : List DeviceNow) where
  -- memory was wanting when the first n devices were ready
  pub wanting : (n : ℕ) → n ≤ workers_of s.dealing → o ≡ record { ending = Memory; counts = counts_of []; header = true; devices = workers_of s.dealing } → new ≡ old
      → ((k : ℕ) → k < n → WasSetUp s.plan (at before k) (at now k)) → kept n → Job (Begins s) (Holds h rs rest) o old new kept before now
  wanting n few is same ready others =
      let ending : o.ending ≡ Memory = ap (λ (x : Outcome). x.ending) is in
      record {
        wrote = not_set_up s h rs rest o old old new (workers_of s.dealing) is same;
        used = λ x. ap (λ (y : Outcome). y.devices) is;
        devices = inl (record { n = n; some = inr (ending, ap (λ (x : Outcome). x.header) is, few, ready); others = others });
        stalled = λ x. absurd (let no : Memory ≡ Stalled = sym ending ∙ x in cc);
        decided = λ x. absurd (subst IsDecided ending x);
      }

  -- the devices have served
  pub served : HasAppended (Begins s) (Holds h rs rest) o old new → o.header ≡ true → o.devices ≡ workers_of s.dealing → HaveServed s (entries_from s.plan 0 rs) before now
      → (IsDecided o.ending → taken_together (workers_of s.dealing) now ≡ length (entries_from s.plan 0 rs)) → Job (Begins s) (Holds h rs rest) o old new kept before now
  served wrote header devices serves whole = record {
    wrote = wrote;
    used = λ x. devices;
    devices = inr serves;
    stalled = λ x. (header, serves);
    decided = λ x. (serves, whole x);
  }

-- the same, where it is known who deals
module _ (plan : Plan) (burst : ℕ) (x d : Dealing) (is : x ≡ d) (h : Header) (rs : List Rec) (rest : Rest) (o : Outcome) (old new : List ℕ) (kept : ℕ → Type 0) (before now : List DeviceNow) where
  abbrev by : Dealing → Settings
  by y = record { plan = plan; burst = burst; dealing = y }

  pub wanting_by : (n : ℕ) → n ≤ workers_of d → o ≡ record { ending = Memory; counts = counts_of []; header = true; devices = workers_of d } → new ≡ old
      → ((k : ℕ) → k < n → WasSetUp plan (at before k) (at now k)) → kept n → Job (Begins (by x)) (Holds h rs rest) o old new kept before now
  wanting_by n few same wrote ready others =
      subst (λ (y : Dealing). Job (Begins (by y)) (Holds h rs rest) o old new kept before now) (sym is) (wanting (by d) h rs rest o old new kept before now n few same wrote ready others)

  pub served_by : HasAppended (Begins (by x)) (Holds h rs rest) o old new → o.header ≡ true → o.devices ≡ workers_of x → HaveServed (by d) (entries_from plan 0 rs) before now
      → (IsDecided o.ending → taken_together (workers_of d) now ≡ length (entries_from plan 0 rs)) → Job (Begins (by x)) (Holds h rs rest) o old new kept before now
  served_by wrote header devices serves whole =
      served (by x) h rs rest o old new kept before now wrote header devices (subst (λ (y : Dealing). HaveServed (by y) (entries_from plan 0 rs) before now) (sym is) serves)
      (λ k. subst (λ (y : Dealing). taken_together (workers_of y) now ≡ length (entries_from plan 0 rs)) (sym is) (whole k))

-- memory was wanting where its devices were set up
pub wanting_back : {D : Type 0} (f : D → DeviceNow) (plan : Plan) (burst : ℕ) (x d : Dealing) (is : x ≡ d) (h : Header) (rs : List Rec) (rest : Rest) (o : Outcome) (old : List ℕ) (devs back : List D)
    → IsWanting f plan (workers_of d) devs back → workers_of d ≤ length devs → o ≡ record { ending = Memory; counts = counts_of []; header = true; devices = workers_of d }
    → Job (Begins (record { plan = plan; burst = burst; dealing = x })) (Holds h rs rest) o old old (λ n. drop n back ≡ drop n devs) (map f devs) (map f back)
wanting_back f plan burst x d is h rs rest o old devs back w within same =
    wanting_by plan burst x d is h rs rest o old old (λ n. drop n back ≡ drop n devs) (map f devs) (map f back) w.n w.few same refl
    (ready_at f plan w.n devs back (omega (arith, w.few, within)) w.count w.ready) w.others

-- ---- a run that ended at the capture's header

no_header : (s : Settings) (at : ℕ) (cause : CaptureCause) (o : Outcome) (old : List ℕ) (kept : ℕ → Type 0) (before now : List DeviceNow)
    → o ≡ record { ending = Capture at cause; counts = counts_of []; header = false; devices = 0 } → kept 0 → Job (Begins s) (NoHeader at cause) o old old kept before now
no_header s at cause o old kept before now is idle =
    let ending : o.ending ≡ Capture at cause = ap (λ (x : Outcome). x.ending) is in
    record {
      wrote = rw is (record { n = 0; within = omega arith; counts = refl; written = sym (append-nil old); whole = λ x. (refl, refl, refl) });
      used = λ x. absurd (let no : false ≡ true = sym (ap (λ (y : Outcome). y.header) is) ∙ x in cc);
      devices = inl (record { n = 0; some = inl refl; others = idle });
      stalled = λ x. absurd (let no : Capture at cause ≡ Stalled = sym ending ∙ x in cc);
      decided = λ x. tt;
    }

pub header_stopped : (s : Settings) (stop : ReadStop) (bytes : List ℕ) (reading : Reading) (o : Outcome) (old : List ℕ) (kept : ℕ → Type 0) (before now : List DeviceNow)
    → StopsHeader bytes stop → IsReading bytes reading → o ≡ record { ending = stop_ending stop; counts = counts_of []; header = false; devices = 0 } → kept 0
    → Job (Begins s) reading o old old kept before now
header_stopped s Fault bytes reading o old kept before now stops reads is idle =
    let ending : o.ending ≡ ReadFault = ap (λ (x : Outcome). x.ending) is in
    record {
      wrote = rw is (record { n = 0; within = omega arith; counts = refl; written = inl (refl, refl); whole = λ no. absurd no });
      used = λ x. absurd (let no : false ≡ true = sym (ap (λ (y : Outcome). y.header) is) ∙ x in cc);
      devices = inl (record { n = 0; some = inl refl; others = idle });
      stalled = λ x. absurd (let no : ReadFault ≡ Stalled = sym ending ∙ x in cc);
      decided = λ x. absurd (subst IsDecided ending x);
    }
header_stopped s (BadCapture at cause) bytes (NoHeader at' cause') o old kept before now stops reads is idle =
    let both : (at, cause) ≡ (at', cause') = (let e : Err (at, cause) ≡ Err (at', cause') = sym stops ∙ reads in cc) in
    subst (λ (p : ℕ × CaptureCause). Job (Begins s) (NoHeader p.0 p.1) o old old kept before now) both (no_header s at cause o old kept before now is idle)
header_stopped s (BadCapture at cause) bytes (Holds h rs rest) o old kept before now stops reads is idle =
    absurd (let no : Err (at, cause) ≡ Ok (h, reads.0) = sym stops ∙ reads.1 in cc)
header_stopped s ReadStop.End bytes reading o old kept before now stops reads is idle = absurd stops
header_stopped s (ReadStop.TooLarge value) bytes reading o old kept before now stops reads is idle = absurd stops
header_stopped s OutOfMemory bytes reading o old kept before now stops reads is idle = absurd stops

-- ---- behind the capture's header

-- what holds of every reading that begins with the header, behind which this is left, holds of each reading
pub header_read : (P : Reading → Type 0) (header : Header) (bytes left : List ℕ) → header_at bytes ≡ Ok (header, left)
    → ((rs : List Rec) (rest : Rest) → Records header.big first_place left rs rest → P (Holds header rs rest)) → (reading : Reading) → IsReading bytes reading → P reading
header_read P header bytes left found holds (NoHeader at cause) reads = absurd (let no : Ok (header, left) ≡ Err (at, cause) = sym found ∙ reads in cc)
header_read P header bytes left found holds (Holds h rs rest) reads =
    let same : (header, left) ≡ (h, reads.0) = (let e : Ok (header, left) ≡ Ok (h, reads.0) = sym found ∙ reads.1 in cc) in
    subst (λ (p : Header × List ℕ). Records p.0.big first_place p.1 rs rest → P (Holds p.0 rs rest)) same (holds rs rest) reads.2
