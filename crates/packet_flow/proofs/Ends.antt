-- How each way out of a flow meets what is said of its end.
use Rattle.std.proofs.Common.{◌≡◌, ◌≤◌, ◌++◌, ◌∷◌, ◌+◌, ℕ, Bool, List, [], length, map, take, refl, ap, sym, subst, ◌∙◌, arith, append_assoc, length-append}
use Rattle.std.specs.List.{flat_map}
use Rattle.std.specs.Prelude.{Option, None, Some}
use Rattle.std.proofs.lemmas.List.{append-nil, take-append-le, take_all}
use Rattle.std.proofs.Math.Seq.{take-append_seam}
use Rattle.crypto_op.specs.declared.spec.Card.{Card}
use Rattle.crypto_op.specs.declared.op.Op.{Op}
use Rattle.dev_core.specs.declared.driver.LogEntry.{LogEntry}
use Rattle.dev_core.specs.Burst.{log_entry}
use Rattle.capture_io.specs.Capture.{Rec, Rest, Records, first_place}
use Rattle.capture_io.specs.Pieces.{AppendsPart}
use Rattle.capture_io.specs.declared.header.Place.{Place}
use Rattle.capture_io.specs.declared.header.ReadStop.{ReadStop}
use Rattle.capture_io.specs.declared.header.ReadStop.TheVariants.{Fault, BadCapture, OutOfMemory}
use Rattle.session_file.specs.declared.plan.Plan.{Plan}
use Rattle.packet_plan.specs.Answered.{Answered, answered_from}
use Rattle.packet_flow.specs.declared.counts.Counts.{Counts}
use Rattle.packet_flow.specs.declared.passage.Passage.{Passage}
use Rattle.packet_flow.specs.declared.flow.FlowEnd.{FlowEnd}
use Rattle.packet_flow.specs.declared.flow.FlowEnd.TheVariants as flow_end
use Rattle.packet_flow.specs.declared.flow.FlowEnd.TheVariants.{Stopped, WriteFault}
use Rattle.packet_flow.specs.Counts.{counts_of}
use Rattle.packet_flow.specs.Entries.{entries_from}
use Rattle.packet_flow.specs.Reads.{GoesOn, IsWholeStop, ReadsAs}
use Rattle.packet_flow.specs.Flowed.{CutAt, Flowed, IsWrittenBy, answer_bytes}
use Rattle.dev_core.specs.Calls.{Call}
use Rattle.dev_core.specs.Offers.{Flows, taken_by}
use Rattle.packet_flow.specs.Passage.{Before, Outside, TellsTaken, IsEarly, IsUnderway, EndsAs}
use Rattle.packet_flow.proofs.InSlots.{length-SeatsSay}
use Rattle.packet_flow.proofs.Answers.{answered_from-append, counts_first, few_done, length-answered_from, within, writes_first}
use Rattle.packet_flow.proofs.Numbers.{entries_behind, entries_behind-none, entries_from-append}

-- the records that were begun are the first of any reading
pub begun_first : (big : Bool) (bytes : List ℕ) (used waiting : List Rec) (place : Place) (left : List ℕ) (stop : Option ReadStop) → GoesOn big bytes (used ++ waiting) place left stop
    → (rs : List Rec) (rest : Rest) → Records big first_place bytes rs rest → (more : List Rec) × (rs ≡ used ++ more)
begun_first big bytes used waiting place left None on rs rest all = let h = on rs rest all in (waiting ++ h.0, h.1 ∙ append_assoc used waiting h.0)
begun_first big bytes used waiting place left (Some ReadStop.End) on rs rest all = let h = on rs rest all in (waiting, h.0)
begun_first big bytes used waiting place left (Some (BadCapture at cause)) on rs rest all = let h = on rs rest all in (waiting, h.0)
begun_first big bytes used waiting place left (Some (ReadStop.TooLarge value)) on rs rest all = let h = on rs rest all in (waiting, h.0)
begun_first big bytes used waiting place left (Some Fault) on rs rest all = let h = on rs rest all in (waiting ++ h.0, h.1 ∙ append_assoc used waiting h.0)
begun_first big bytes used waiting place left (Some OutOfMemory) on rs rest all = let h = on rs rest all in (waiting ++ h.0, h.1 ∙ append_assoc used waiting h.0)

-- the calls of a flow, whatever comes behind the records that were begun
pub flows_any : (plan : Plan) (size : ℕ) (past : List Call) (used rs : List Rec) → ((more : List LogEntry) → Flows size (entries_from plan 0 used ++ more) past) → (more : List Rec) × (rs ≡ used ++ more)
    → Flows size (entries_from plan 0 rs) past
flows_any plan size past used rs offers more =
    subst (λ (l : List LogEntry). Flows size l past) (sym (entries_from-append plan used more.0) ∙ ap (entries_from plan 0) (sym more.1)) (offers (entries_behind plan used more.0))

-- the records behind those that were begun: none, where the capture ended and none waits
ended_here : (big : Bool) (bytes : List ℕ) (used waiting : List Rec) (place : Place) (left : List ℕ) (stop : Option ReadStop) → GoesOn big bytes (used ++ waiting) place left stop
    → ((s : ReadStop) → stop ≡ Some s → IsWholeStop s)
    → (rs : List Rec) (rest : Rest) → Records big first_place bytes rs rest → (more : List Rec) × (rs ≡ used ++ more) × ((s : ReadStop) → stop ≡ Some s → waiting ≡ [] → more ≡ [])
ended_here big bytes used waiting place left None on whole rs rest all = let h = begun_first big bytes used waiting place left None on rs rest all in (h.0, h.1, λ s is none. absurd (let no : None ≡ Some s = is in cc))
ended_here big bytes used waiting place left (Some ReadStop.End) on whole rs rest all = let h = on rs rest all in (waiting, h.0, λ s is none. none)
ended_here big bytes used waiting place left (Some (BadCapture at cause)) on whole rs rest all = let h = on rs rest all in (waiting, h.0, λ s is none. none)
ended_here big bytes used waiting place left (Some (ReadStop.TooLarge value)) on whole rs rest all = let h = on rs rest all in (waiting, h.0, λ s is none. none)
ended_here big bytes used waiting place left (Some Fault) on whole rs rest all = absurd (whole Fault refl)
ended_here big bytes used waiting place left (Some OutOfMemory) on whole rs rest all = absurd (whole OutOfMemory refl)

-- the calls of a flow behind a turn, against the whole capture
pub flows_behind : (plan : Plan) (b : Before) (s_tells k_tells : Type 0) (p : Passage) (o : Outside) (u : IsUnderway plan b s_tells k_tells p o) (now : List Call)
    → ((more : List LogEntry) → ((stop : ReadStop) → p.window.stop ≡ Some stop → p.window.waiting ≡ [] → more ≡ []) → Flows b.size (entries_from plan 0 u.used ++ more) now)
    → s_tells → (rs : List Rec) (rest : Rest) → Records b.big first_place b.bytes rs rest → Flows b.size (entries_from plan 0 rs) now
flows_behind plan b s_tells k_tells p o u now offers told rs rest all =
    let h = ended_here b.big b.bytes u.used p.window.waiting p.window.place o.left p.window.stop (u.reads told) (λ s is. (u.stopped s is).0) rs rest all in
    subst (λ (l : List LogEntry). Flows b.size l now) (sym (entries_from-append plan u.used h.0) ∙ ap (entries_from plan 0) (sym h.1))
    (offers (entries_behind plan u.used h.0) (λ s is none. ap (entries_behind plan u.used) (h.2 s is none) ∙ entries_behind-none plan u.used))

-- the calls of a flow on the way, against the whole capture
pub flows_now : (plan : Plan) (b : Before) (s_tells k_tells : Type 0) (p : Passage) (o : Outside) → IsUnderway plan b s_tells k_tells p o → s_tells → (rs : List Rec) (rest : Rest) → Records b.big first_place b.bytes rs rest
    → Flows b.size (entries_from plan 0 rs) o.past
flows_now plan b s_tells k_tells p o u told rs rest all = flows_behind plan b s_tells k_tells p o u o.past u.offers told rs rest all

-- the answers to the first n records, also where there are more
pub first_answers : (plan : Plan) (used more : List Rec) (n : ℕ) → n ≤ length used → take n (answered_from plan 0 (used ++ more)) ≡ take n (answered_from plan 0 used)
first_answers plan used more n within =
    ap (take n) (answered_from-append plan 0 used more)
    ∙ take-append-le n (answered_from plan 0 used) (answered_from plan (0 + length used) more) (omega (arith, within, length-answered_from plan 0 used))

first_taken : (plan : Plan) (used more : List Rec) (taken queued : List LogEntry) → taken ++ queued ≡ entries_from plan 0 used
    → taken ≡ take (length taken) (entries_from plan 0 (used ++ more))
first_taken plan used more taken queued all =
    let behind = entries_behind plan used more in
    let split : entries_from plan 0 (used ++ more) ≡ taken ++ (queued ++ behind) =
    entries_from-append plan used more ∙ ap (λ (l : List LogEntry). l ++ behind) (sym all) ∙ append_assoc taken queued behind in
    sym (ap (take (length taken)) split ∙ take-append_seam taken (queued ++ behind))

-- of any reading whose first records are those that were begun
flowed : (plan : Plan) (big : Bool) (rs : List Rec) (rest : Rest) (end : FlowEnd) (counts : Counts) (base new : List ℕ) (used more : List Rec) (taken queued : List LogEntry) (n : ℕ)
    → rs ≡ used ++ more → taken ++ queued ≡ entries_from plan 0 used → n ≤ length used → counts ≡ counts_of (take n (answered_from plan 0 used)) → IsEarly end
    → IsWrittenBy end big (answered_from plan 0 (used ++ more)) n base new → Flowed plan big rs rest end counts base new taken
flowed plan big rs rest end counts base new used more taken queued n split all within same early written = record {
  n = n;
  within = omega (arith, within, ap length split, length-append used more);
  counts_are = same ∙ ap counts_of (sym (first_answers plan used more n within) ∙ ap (λ (l : List Rec). take n (answered_from plan 0 l)) (sym split));
  written = subst (λ (l : List Rec). IsWrittenBy end big (answered_from plan 0 l) n base new) (sym split) written;
  k = length taken;
  front = first_taken plan used more taken queued all ∙ ap (λ (l : List Rec). take (length taken) (entries_from plan 0 l)) (sym split);
  whole = λ w. absurd (early w);
}

not_cut : (end : FlowEnd) (big : Bool) (answers : List Answered) (n : ℕ) (base new : List ℕ) → (end ≡ WriteFault → ⊥) → new ≡ base ++ flat_map (answer_bytes big) (take n answers)
    → IsWrittenBy end big answers n base new
not_cut (Stopped stop) big answers n base new other is = is
not_cut WriteFault big answers n base new other is = absurd (other refl)
not_cut flow_end.Stalled big answers n base new other is = is
not_cut flow_end.OutOfMemory big answers n base new other is = is

-- ended before the whole was done, and not in the midst of a record: as it was on the way
pub ends_early : (plan : Plan) (b : Before) (s_tells k_tells : Type 0) (p : Passage) (o : Outside) (end : FlowEnd) (counts : Counts) → IsEarly end → (end ≡ WriteFault → ⊥)
    → IsUnderway plan b s_tells k_tells p o → counts ≡ p.counts → EndsAs plan b s_tells k_tells end counts o
ends_early plan b s_tells k_tells p o end counts early no_write u same st kt rs rest all =
    let first = begun_first b.big b.bytes u.used p.window.waiting p.window.place o.left p.window.stop (u.reads st) rs rest all in
    let bytes = answer_bytes b.big in
    let n = length u.done in
    let inside : n ≤ length u.used = within plan u.used u.done u.waiting u.split in
    let written : o.written ≡ b.base ++ flat_map bytes (take n (answered_from plan 0 (u.used ++ first.0))) =
    writes_first plan u.used u.done u.waiting u.split b.big b.base o.written (u.writes kt) ∙ ap (λ (l : List Answered). b.base ++ flat_map bytes l) (sym (first_answers plan u.used first.0 n inside)) in (
      u.taken,
      u.device,
      flowed plan b.big rs rest end counts b.base o.written u.used first.0 u.taken _ n first.1 u.queued inside (counts_first plan u.used u.done u.waiting u.split counts (same ∙ u.counts)) early
          (not_cut end b.big (answered_from plan 0 (u.used ++ first.0)) n b.base o.written no_write written),
      u.took,
      flows_now plan b s_tells k_tells p o u st rs rest all,
    )

-- the next one is cut too where there are more behind
cut_before_more : (big : Bool) (plan : Plan) (used more : List Rec) (n : ℕ) (base new : List ℕ) → n ≤ length used → CutAt big (answered_from plan 0 used) n base new
    → CutAt big (answered_from plan 0 (used ++ more)) n base new
cut_before_more big plan used more n base new within cut =
    let answers = answered_from plan 0 used in
    let behind = answered_from plan (0 + length used) more in
    let same : take n (answered_from plan 0 (used ++ more)) ≡ take n answers = first_answers plan used more n within in
    record {
      next = cut.next;
      others = cut.others ++ behind;
      split = answered_from-append plan 0 used more ∙ ap (λ (l : List Answered). l ++ behind) cut.split ∙ append_assoc (take n answers) (cut.next ∷ cut.others) behind
          ∙ ap (λ (l : List Answered). l ++ cut.next ∷ (cut.others ++ behind)) (sym same);
      part = subst (λ (l : List Answered). AppendsPart (base ++ flat_map (answer_bytes big) l) new (answer_bytes big cut.next)) (sym same) cut.part;
    }

-- a record was cut in writing: n stand whole of the answers to the records that were begun
pub ends_cut : (plan : Plan) (b : Before) (s_tells k_tells : Type 0) (o : Outside) (counts : Counts) (used : List Rec) (taken queued : List LogEntry) (n : ℕ)
    → (s_tells → (rs : List Rec) (rest : Rest) → Records b.big first_place b.bytes rs rest → (more : List Rec) × (rs ≡ used ++ more))
    → taken ++ queued ≡ entries_from plan 0 used → TellsTaken b taken o.enqueued o.log → length taken ≡ taken_by o.past
    → (s_tells → (rs : List Rec) (rest : Rest) → Records b.big first_place b.bytes rs rest → Flows b.size (entries_from plan 0 rs) o.past)
    → n ≤ length used → counts ≡ counts_of (take n (answered_from plan 0 used))
    → (k_tells → CutAt b.big (answered_from plan 0 used) n b.base o.written) → EndsAs plan b s_tells k_tells WriteFault counts o
ends_cut plan b s_tells k_tells o counts used taken queued n reads all device took flows within same cut st kt rs rest got =
    let first = reads st rs rest got in (
      taken,
      device,
      flowed plan b.big rs rest WriteFault counts b.base o.written used first.0 taken queued n first.1 all within same (λ w. w)
          (cut_before_more b.big plan used first.0 n b.base o.written within (cut kt)),
      took,
      flows st rs rest got,
    )

-- where the stop is whole, those that were read are all
read_whole : (used rs : List Rec) (rest : Rest) (stop : ReadStop) → IsWholeStop stop → ReadsAs used stop rs rest → (rs ≡ used) × ReadsAs rs stop rs rest
read_whole used rs rest ReadStop.End whole reads = (reads.0, (refl, reads.1))
read_whole used rs rest (BadCapture at cause) whole reads = (reads.0, (refl, reads.1))
read_whole used rs rest (ReadStop.TooLarge value) whole reads = (reads.0, (refl, reads.1))
read_whole used rs rest Fault whole reads = absurd whole
read_whole used rs rest OutOfMemory whole reads = absurd whole

-- nothing is left to do
pub ends_whole : (plan : Plan) (b : Before) (s_tells k_tells : Type 0) (p : Passage) (o : Outside) (stop : ReadStop) → IsUnderway plan b s_tells k_tells p o
    → p.window.stop ≡ Some stop → p.window.waiting ≡ [] → p.burst.ops ≡ [] → p.slots ≡ [] → EndsAs plan b s_tells k_tells (Stopped stop) p.counts o
ends_whole plan b s_tells k_tells p o stop u stopped read offered written told tells rs rest all =
    let goes : GoesOn b.big b.bytes (u.used ++ p.window.waiting) p.window.place o.left (Some stop) =
    subst (GoesOn b.big b.bytes (u.used ++ p.window.waiting) p.window.place o.left) stopped (u.reads told) in
    let so_far : u.used ++ p.window.waiting ≡ u.used = ap (λ (l : List Rec). u.used ++ l) read ∙ append-nil u.used in
    let whole = read_whole u.used rs rest stop (u.stopped stop stopped).0 (subst (λ (l : List Rec). ReadsAs l stop rs rest) so_far (goes rs rest all)) in
    let left : length p.slots ≡ length u.waiting = length-SeatsSay plan p.slots u.waiting u.stand.slots in
    let n_is : length u.done ≡ length u.used = omega (arith, few_done u.used u.done u.waiting u.split, left, ap length written) in
    let taken_is : u.taken ≡ entries_from plan 0 rs =
    sym (append-nil u.taken) ∙ ap (λ (l : List (Op Card)). u.taken ++ map log_entry l) (sym offered) ∙ u.queued ∙ ap (entries_from plan 0) (sym whole.0) in
    let count : length u.done ≡ length rs = n_is ∙ ap length (sym whole.0) in (
      u.taken,
      u.device,
      record {
        n = length u.done;
        within = omega (arith, count);
        counts_are = counts_first plan u.used u.done u.waiting u.split p.counts u.counts ∙ ap (λ (l : List Rec). counts_of (take (length u.done) (answered_from plan 0 l))) (sym whole.0);
        written = writes_first plan u.used u.done u.waiting u.split b.big b.base o.written (u.writes tells) ∙ ap (λ (l : List Rec). b.base ++ flat_map (answer_bytes b.big) (take (length u.done) (answered_from plan 0 l))) (sym whole.0);
        k = length (entries_from plan 0 rs);
        front = taken_is ∙ sym (take_all (length (entries_from plan 0 rs)) (entries_from plan 0 rs) (omega arith));
        whole = λ _. record { records = count; stop = whole.1; taken = taken_is };
      },
      u.took,
      flows_now plan b s_tells k_tells p o u told rs rest all,
    )
