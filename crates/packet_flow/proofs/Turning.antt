-- A turn: what the driver takes of the burst, and what is left on the way.
use Rattle.std.proofs.Common.{◌≡◌, ◌<◌, ◌≤◌, ◌+◌, ◌-◌, ◌*◌, ◌^◌, ◌==◌, ◌++◌, ◌⊎◌, inl, inr, ℕ, Bool, true, false, true≢false, eqb-true, zero, suc, List, [], ◌∷◌, length, map, take, drop, option_map, refl, ap, sym, subst, ◌∙◌, arith, append_assoc, length-append, length-take}
use Rattle.std.specs.Int.{from_bool}
use Rattle.std.specs.Prelude.{Option, None, Some, Result, Ok, Err, IfErr, IsErrAnd}
use Rattle.std.specs.List.{All}
use Rattle.std.proofs.lemmas.Bool.Decides.{nat_tests}
use Rattle.std.proofs.lemmas.List.{append-nil, nil_from_length, length-map, map-append, take-append-drop, take_all}
use Rattle.std.proofs.lemmas.List.Sums.{count_by-le-length}
use Rattle.crypto_model.specs.Counts.{capped, Rose}
use Rattle.crypto_op.specs.declared.spec.Card.{Card}
use Rattle.crypto_op.specs.declared.op.Op.{Op}
use Rattle.crypto_op.specs.Burst.{Burst}
use Rattle.crypto_op.specs.Op.{Entry, IsFresh, entry_of}
use Rattle.dev_core.specs.declared.driver.LogEntry.{LogEntry}
use Rattle.dev_core.specs.Burst.{front_log, log_entry, rest_of}
use Rattle.capture_io.specs.Capture.{Rec, first_place}
use Rattle.capture_io.specs.declared.header.ReadStop.{ReadStop}
use Rattle.session_file.specs.declared.plan.Plan.{Plan}
use Rattle.packet_flow.specs.declared.counts.Counts.{Counts}
use Rattle.packet_flow.specs.declared.flow.FlowEnd.TheVariants as flow_end
use Rattle.packet_flow.specs.declared.passage.Passage.{Passage}
use Rattle.packet_flow.specs.Seats.{AllIn, Seat, Open, Ready, WaitsAtFront}
use Rattle.packet_flow.specs.Counts.{counts_of}
use Rattle.packet_flow.specs.Entries.{entries_from}
use Rattle.std.proofs.Math.Seq.{take-append_seam, drop-append_seam}
use Rattle.dev_core.specs.Calls.{Call}
use Rattle.dev_core.specs.Offers.{Flows, IsDrained, next_burst, rest_of_burst, taken_by}
use Rattle.packet_flow.specs.Turns.{IsAt, OnlyAsked, with_offer}
use Rattle.packet_flow.specs.Passage.{Before, Outside, TellsTaken, IsFilled, IsUnderway, EndsAs, IsUnbegun}
use Rattle.packet_flow.specs.Reads.{GoesOn, HasRead, IsWholeStop}
use Rattle.packet_flow.specs.Numbered.{Numbered}
use Rattle.packet_flow.specs.Slots.{StandFor, SeatsSay, open_numbers}
use Rattle.packet_flow.specs.Window.{Ahead, IsInRange, fresh_window}
use Rattle.packet_flow.proofs.InSlots.{count-cons, one, same_told}
use Rattle.packet_flow.proofs.Numbers.{entries_from-none, length-entries_from}
use Rattle.packet_flow.proofs.Rising.{numbered-none}
use Rattle.packet_flow.proofs.WholeReading.{begun}

-- ---- how many there are

module _ (plan : Plan) (b : Before) (s_tells k_tells : Type 0) (p : Passage) (o : Outside) (u : IsUnderway plan b s_tells k_tells p o) where
  pub few_taken : length u.taken + length p.burst.ops < 2 ^ 32
  few_taken =
      omega (arith, ap length u.queued, length-append u.taken (map log_entry p.burst.ops), length-map p.burst.ops (log_entry {C = Card}), length-entries_from plan 0 u.used, u.next, u.range.count, u.range.range)

  pub few_held : length o.held + length p.burst.ops < 2 ^ 32
  few_held = omega (arith, few_taken, u.few)

-- ---- the first n of the burst are taken

pub queued_on : (taken entries : List LogEntry) (n : ℕ) (burst rest : Burst (Op Card)) → rest ≡ rest_of n burst → taken ++ map log_entry burst.ops ≡ entries
    → (taken ++ front_log n burst) ++ map log_entry rest.ops ≡ entries
queued_on taken entries n burst rest is all =
    let split : map log_entry burst.ops ≡ front_log n burst ++ map log_entry rest.ops =
    ap (map log_entry) (sym (take-append-drop n burst.ops)) ∙ map-append log_entry (take n burst.ops) (drop n burst.ops)
    ∙ ap (λ (x : Burst (Op Card)). front_log n burst ++ map log_entry x.ops) (sym is) in
    append_assoc taken (front_log n burst) (map log_entry rest.ops) ∙ ap (λ (l : List LogEntry). taken ++ l) (sym split) ∙ all

pub length-front_log : (n : ℕ) (burst : Burst (Op Card)) → n ≤ length burst.ops → length (front_log n burst) ≡ n
length-front_log n burst within = omega (arith, length-map (take n burst.ops) (log_entry {C = Card}), length-take n burst.ops, within)

log_on : (before : Option (List LogEntry)) (taken more : List LogEntry) (log log' : Option (List LogEntry)) → log ≡ option_map (λ l. taken) before
    → log' ≡ option_map (λ l. l ++ more) log → log' ≡ option_map (λ l. taken ++ more) before
log_on None taken more log log' is now = now ∙ ap (option_map (λ (l : List LogEntry). l ++ more)) is
log_on (Some l) taken more log log' is now = now ∙ ap (option_map (λ (l : List LogEntry). l ++ more)) is

pub device_on : (b : Before) (taken : List LogEntry) (n : ℕ) (burst : Burst (Op Card)) (enqueued enqueued' : ℕ) (log log' : Option (List LogEntry)) → n ≤ length burst.ops
    → TellsTaken b taken enqueued log → enqueued' ≡ capped (enqueued + n) → log' ≡ option_map (λ l. l ++ front_log n burst) log
    → TellsTaken b (taken ++ front_log n burst) enqueued' log'
device_on b taken n burst enqueued enqueued' log log' within has now told = record {
  enqueued_is = omega (arith, has.enqueued_is, now, length-append taken (front_log n burst), length-front_log n burst within);
  log_is = log_on b.log taken (front_log n burst) log log' has.log_is told;
}

pub few_on : (taken : List LogEntry) (n m held held' : ℕ) (burst : Burst (Op Card)) → n ≤ length burst.ops → held ≤ length taken → m + held' ≡ held + n
    → held' ≤ length (taken ++ front_log n burst)
few_on taken n m held held' burst within few count = omega (arith, few, count, length-append taken (front_log n burst), length-front_log n burst within)

-- accepted and returned, what is held, and what was enqueued
pub moved_by : (n m held held' taken ops enqueued enqueued' : ℕ) → n ≤ ops → taken + ops < 2 ^ 32 → m + held' ≡ held + n → enqueued ≡ capped taken → enqueued' ≡ capped (enqueued + n)
    → (n + m) + held' + 2 * enqueued ≡ held + 2 * enqueued'
moved_by n m held held' taken ops enqueued enqueued' within few count is now =
    let before : enqueued ≡ taken = omega (arith, is, few) in
    let after : enqueued' ≡ enqueued + n = omega (arith, now, before, within, few) in
    omega (arith, count, after)

-- ---- what waits at the front is held, or in the burst

front_some : (plan : Plan) (ps : List Numbered) (ss : List Seat) (entries : List (Entry Card)) → WaitsAtFront ss → 0 < length ss
    → StandFor plan ps ss entries → 0 < length entries
unfolding open_numbers
front_some plan ps [] entries waits some b = absurd (omega (arith, some))
front_some plan ps (Open n kept ∷ ss) entries waits some b =
    let own = count-cons (λ (x : ℕ). x == n) n (open_numbers ss) in
    let once : one (n == n) ≡ 1 = ap one (same_told n) in
    omega (arith, own, once, b.waits n, count_by-le-length (λ (e : Entry Card). e.cargo.packet == n) entries)
front_some plan ps (Ready n a order ∷ ss) entries waits some b = absurd waits

pub some_moves : {X : Type 0} (f : X → Entry Card) (plan : Plan) (ps : List Numbered) (ss : List Seat) (held : List (Entry Card)) (ops : List X) → WaitsAtFront ss → 0 < length ss
    → StandFor plan ps ss (held ++ map f ops) → 0 < length held + length ops
some_moves f plan ps ss held ops waits some b =
    omega (arith, front_some plan ps ss (held ++ map f ops) waits some b, length-append held (map f ops), length-map ops f)

-- ---- nothing is left to do

pub all_read : (n : ℕ) (waiting : List Rec) (stop : Option ReadStop) → (0 < n) ⊎ ((waiting ≡ []) × (s : ReadStop) × (stop ≡ Some s)) → n ≡ 0 → waiting ≡ []
all_read n waiting stop (inl some) none = absurd (omega (arith, some, none))
all_read n waiting stop (inr read) none = read.0

pub no_items : {X : Type 0} (n : ℕ) (xs : List X) (empty : Bool) → n ≡ length xs → empty ≡ (n == 0) → empty ≡ true → xs ≡ []
no_items n xs empty count is told = nil_from_length xs (omega (arith, count, eqb-true n 0 (sym is ∙ told)))

pub some_items : {X : Type 0} (n : ℕ) (xs : List X) (empty : Bool) → n ≡ length xs → empty ≡ (n == 0) → empty ≡ false → 0 < length xs
some_items n [] empty count is told =
    let none : n ≡ 0 = omega (arith, count) in
    absurd (true≢false (sym (is ∙ ap (λ (k : ℕ). k == 0) none) ∙ told))
some_items n (x ∷ xs) empty count is told = omega arith

pub no_fault : (s_tells : Type 0) (left : List ℕ) (stop : ReadStop) → IsWholeStop stop × (s_tells → stop ≡ ReadStop.End → left ≡ []) → stop ≡ ReadStop.Fault → ⊥
no_fault s_tells left stop stopped is = subst IsWholeStop is stopped.0

-- ---- the way out by `?`

pub if_err_at : {T E : Type 0} (r : Result T E) (e : E) (P : E → Type 0) → IsErrAnd r (λ x. x ≡ e) → P e → IfErr r P
if_err_at (Ok x) e P is p = tt
if_err_at (Err x) e P is p = subst P (sym is) p

pub not_err_at : {T E : Type 0} (r : Result T E) (e x : E) → IsErrAnd r (λ y. y ≡ e) → (e ≡ x → ⊥) → r ≡ Err x → ⊥
not_err_at (Ok y) e x is other at = is
not_err_at (Err y) e x is other at = other (sym is ∙ (let same : y ≡ x = cc in same))

-- ---- how long it may go on

pub enqueued_few : (plan : Plan) (b : Before) (s_tells k_tells : Type 0) (p : Passage) (o : Outside) → IsUnderway plan b s_tells k_tells p o → o.enqueued < 2 ^ 32
enqueued_few plan b s_tells k_tells p o u = omega (arith, few_taken plan b s_tells k_tells p o u, u.device.enqueued_is)

pub counted : (moved r : ℕ) → r ≡ from_bool (moved == 0) → ((moved ≡ 0) × (r ≡ 1)) ⊎ ((0 < moved) × (r ≡ 0))
counted zero r is = inl (refl, is ∙ ap from_bool (same_told 0))
counted (suc m) r is =
    let other : (suc m == 0) ≡ false = grind (arith, nat_tests) in
    inr (omega arith, is ∙ ap from_bool other)

pub counted_few : (moved r : ℕ) → r ≡ from_bool (moved == 0) → r ≤ 1
counted_few moved r is = elim (counted moved r is) [ inl still ↦ omega (arith, still.1) | inr some ↦ omega (arith, some.1) ]

-- the turns that moved nothing are counted by the driver too
pub stalled_on : (first old now stalled moved r : ℕ) → r ≡ from_bool (moved == 0) → capped (first + stalled) ≤ old → old ≤ now → (moved ≡ 0 → Rose old now)
    → capped (first + (stalled + r)) ≤ now
stalled_on first old now stalled moved r is before later cause =
    elim (counted moved r is) [ inl still ↦ omega (arith, before, later, still.1, cause still.0) | inr some ↦ omega (arith, before, later, some.1) ]

-- a turn moves something, or there is one less that may move nothing
abbrev pub turns_left : ℕ → ℕ → ℕ → ℕ
turns_left held enqueued stalled = (2 ^ 33 + held - 2 * enqueued) + (4096 * (2 ^ 32 + 1) - stalled)

pub fewer_left : (held held' enqueued enqueued' stalled moved r : ℕ) → r ≡ from_bool (moved == 0) → enqueued < 2 ^ 32 → enqueued' < 2 ^ 32 → moved + held' + 2 * enqueued ≡ held + 2 * enqueued'
    → stalled + r < 4096 * (1 + enqueued') → turns_left held' enqueued' (stalled + r) < turns_left held enqueued stalled
fewer_left held held' enqueued enqueued' stalled moved r is few few' balance within =
    elim (counted moved r is) [ inl still ↦ omega (arith, still.0, still.1, few, few', balance, within) | inr some ↦ omega (arith, some.0, some.1, few, few', balance, within) ]

-- ---- before the first turn

-- nothing was begun
pub ends_unbegun : (plan : Plan) (b : Before) (s_tells k_tells : Type 0) (o : Outside) (counts : Counts) → o.past ≡ [] → TellsTaken b [] o.enqueued o.log → o.written ≡ b.base → counts ≡ counts_of []
    → EndsAs plan b s_tells k_tells flow_end.OutOfMemory counts o
ends_unbegun plan b s_tells k_tells o counts no_call device written same told tells rs rest all = (
  [],
  device,
  record {
    n = 0;
    within = omega arith;
    counts_are = same;
    written = written ∙ sym (append-nil b.base);
    k = 0;
    front = refl;
    whole = λ w. absurd w;
  },
  ap taken_by (sym no_call),
  subst (Flows b.size (entries_from plan 0 rs)) (sym no_call) tt,
)

none_stand : (plan : Plan) (ss : List Seat) (entries : List (Entry Card)) → ss ≡ [] → entries ≡ [] → StandFor plan [] ss entries
unfolding SeatsSay open_numbers
none_stand plan ss entries ss_are entries_are =
    let none : StandFor plan [] [] [] = record { slots = tt; rising = tt; made = λ k d lt. absurd (omega (arith, lt)); waits = λ n. refl } in
    subst (λ (l : List Seat). StandFor plan [] l entries) (sym ss_are) (subst (StandFor plan [] []) (sym entries_are) none)

none_read : (big : Bool) (bytes left : List ℕ) (w : Ahead) → w ≡ fresh_window → left ≡ bytes → GoesOn big bytes ([] ++ w.waiting) w.place left w.stop
none_read big bytes left w is left_is =
    subst (λ (x : Ahead). GoesOn big bytes ([] ++ x.waiting) x.place left x.stop) (sym is) (subst (HasRead big bytes [] first_place) (sym left_is) (begun big bytes))

pub new_underway : (plan : Plan) (b : Before) (s_tells k_tells : Type 0) (size : ℕ) (p : Passage) (o : Outside) → 1 ≤ size → b.size ≡ size → o.past ≡ [] → IsUnbegun size p → TellsTaken b [] o.enqueued o.log
    → o.left ≡ b.bytes → o.written ≡ b.base → o.held ≡ [] → IsUnderway plan b s_tells k_tells p o
new_underway plan b s_tells k_tells size p o some size_is no_call new device left written held =
    let burst : p.burst.ops ≡ [] = ap (λ (x : Burst (Op Card)). x.ops) new.burst in
    let offered : map (log_entry {C = Card}) p.burst.ops ≡ [] = ap (map log_entry) burst in
    record {
      used = [];
      done = [];
      waiting = [];
      taken = [];
      split = numbered-none 0;
      reads = λ told. none_read b.big b.bytes o.left p.window new.window left;
      writes = λ told. written ∙ sym (append-nil b.base);
      stand = none_stand plan p.slots (o.held ++ map entry_of p.burst.ops) new.slots
          (ap (λ (l : List (Entry Card)). l ++ map entry_of p.burst.ops) held ∙ ap (map entry_of) burst);
      counts = new.counts;
      made = new.made ∙ ap length (sym (entries_from-none plan));
      queued = offered ∙ sym (entries_from-none plan);
      device = device;
      few = omega (arith, ap length held);
      fresh = subst (All IsFresh) (sym burst) (λ k d lt. absurd (omega (arith, lt)));
      front = subst WaitsAtFront (sym new.slots) tt;
      order = subst (AllIn b.big) (sym new.slots) (λ k d lt. absurd (omega (arith, lt)));
      stopped = λ stop is. absurd (let no : Some stop ≡ None = sym is ∙ ap (λ (x : Ahead). x.stop) new.window in cc);
      next = ap (λ (x : Ahead). x.next) new.window;
      range = subst IsInRange (sym new.window) (record { count = omega arith; range = omega arith });
      back = ap (λ (x : Burst (Op Card)). x.ops) new.back;
      sizes = (ap (λ (x : Burst (Op Card)). x.cap) new.burst ∙ sym size_is, ap (λ (x : Burst (Op Card)). x.cap) new.back ∙ sym size_is, omega (arith, some, size_is));
      took = ap taken_by (sym no_call);
      offers = λ more none. subst (Flows b.size (entries_from plan 0 [] ++ more)) (sym no_call) tt;
    }

-- ---- what is offered

map_drop : {X Y : Type 0} (f : X → Y) (n : ℕ) (xs : List X) → map f (drop n xs) ≡ drop n (map f xs)
map_drop f zero xs = refl
map_drop f (suc n) [] = refl
map_drop f (suc n) (x ∷ xs) = map_drop f n xs

-- the burst that is left is offered
same_burst : (size : ℕ) (ops : List LogEntry) (k : ℕ) (r burst : List LogEntry) → burst ≡ r → 0 < length r → burst ≡ next_burst size ops k r
same_burst size ops k [] burst is some = absurd (omega (arith, some))
same_burst size ops k (x ∷ xs) burst is some = is

-- or the next operations are
new_burst : (size k : ℕ) (taken burst more : List LogEntry) → k ≡ length taken → (length burst ≡ size) ⊎ ((more ≡ []) × (length burst ≤ size)) → burst ≡ next_burst size ((taken ++ burst) ++ more) k []
new_burst size k taken burst more at filled =
    let behind : drop k ((taken ++ burst) ++ more) ≡ burst ++ more = ap (λ (l : List LogEntry). drop k l) (append_assoc taken burst more) ∙ ap (λ (n : ℕ). drop n (taken ++ (burst ++ more))) at ∙ drop-append_seam taken (burst ++ more) in
    elim filled [
      | inl full ↦ sym (ap (take size) behind ∙ ap (λ (n : ℕ). take n (burst ++ more)) (sym full) ∙ take-append_seam burst more)
      | inr all ↦ sym (ap (take size) behind ∙ ap (λ (l : List LogEntry). take size (burst ++ l)) all.0 ∙ ap (take size) (append-nil burst) ∙ take_all size burst all.1)
    ]

-- ---- the calls with an offer more

flows_with : (size : ℕ) (ops burst : List LogEntry) (n : ℕ) (past : List Call) → burst ≡ next_burst size ops (taken_by past) (rest_of_burst past) → n ≤ length burst → IsDrained past
    → Flows size ops past → Flows size ops (with_offer burst n past)
flows_with size ops [] n past right within drained flows = flows
flows_with size ops (e ∷ es) n past right within drained flows = (right, omega arith, within, drained, flows)

taken_with : (burst : List LogEntry) (n : ℕ) (past : List Call) → n ≤ length burst → taken_by (with_offer burst n past) ≡ taken_by past + n
taken_with [] n past within = omega (arith, within)
taken_with (e ∷ es) n past within = refl

rest_with : (burst : List LogEntry) (n : ℕ) (past : List Call) → (burst ≡ [] → rest_of_burst past ≡ []) → rest_of_burst (with_offer burst n past) ≡ drop n burst
rest_with [] zero past none = none refl
rest_with [] (suc n) past none = none refl
rest_with (e ∷ es) n past none = refl

module _ (plan : Plan) (b : Before) (s_tells k_tells : Type 0) (old p : Passage) (o : Outside) (u : IsUnderway plan b s_tells k_tells p o) (at : IsAt o.past old.burst.ops) (filled : IsFilled old p) where
  right_burst : (more : List LogEntry) → ((stop : ReadStop) → p.window.stop ≡ Some stop → p.window.waiting ≡ [] → more ≡ [])
      → map log_entry p.burst.ops ≡ next_burst b.size (entries_from plan 0 u.used ++ more) (taken_by o.past) (rest_of_burst o.past)
  right_burst more none = elim filled [
    | inl same ↦
        let is : map log_entry p.burst.ops ≡ rest_of_burst o.past = ap (λ (x : Burst (Op Card)). map log_entry x.ops) same.1 ∙ at.rest in
        same_burst b.size (entries_from plan 0 u.used ++ more) (taken_by o.past) (rest_of_burst o.past) (map log_entry p.burst.ops) is
        (omega (arith, same.0, length-map old.burst.ops (log_entry {C = Card}), ap length at.rest))
    | inr new ↦
        let no_rest : rest_of_burst o.past ≡ [] = sym at.rest ∙ ap (map log_entry) new.0 in
        let count = length-map p.burst.ops (log_entry {C = Card}) in
        let full : (length (map log_entry p.burst.ops) ≡ b.size) ⊎ ((more ≡ []) × (length (map log_entry p.burst.ops) ≤ b.size)) =
        elim new.2 [ inl f ↦ inl (count ∙ f ∙ u.sizes.0) | inr end ↦ inr (none end.1 end.2 end.0, omega (arith, count, new.1, u.sizes.0)) ] in
        new_burst b.size (taken_by o.past) u.taken (map log_entry p.burst.ops) more (sym u.took) full
        ∙ ap (λ (l : List LogEntry). next_burst b.size (l ++ more) (taken_by o.past) []) u.queued
        ∙ ap (next_burst b.size (entries_from plan 0 u.used ++ more) (taken_by o.past)) (sym no_rest)
  ]

  -- the calls of a turn go on as they should
  pub offers_on : (n : ℕ) (now : List Call) → n ≤ length p.burst.ops → OnlyAsked (with_offer (map log_entry p.burst.ops) n o.past) now
      → (more : List LogEntry) → ((stop : ReadStop) → p.window.stop ≡ Some stop → p.window.waiting ≡ [] → more ≡ []) → Flows b.size (entries_from plan 0 u.used ++ more) now
  offers_on n now within asked more none =
      asked.flows b.size (entries_from plan 0 u.used ++ more)
      (flows_with b.size (entries_from plan 0 u.used ++ more) (map log_entry p.burst.ops) n o.past (right_burst more none) (omega (arith, within, length-map p.burst.ops (log_entry {C = Card}))) at.drained (u.offers more none))

  pub took_on : (n : ℕ) (now : List Call) → n ≤ length p.burst.ops → OnlyAsked (with_offer (map log_entry p.burst.ops) n o.past) now → length (u.taken ++ front_log n p.burst) ≡ taken_by now
  took_on n now within asked =
      omega (
        arith,
        length-append u.taken (front_log n p.burst),
        length-front_log n p.burst within,
        u.took,
        asked.taken,
        taken_with (map log_entry p.burst.ops) n o.past (omega (arith, within, length-map p.burst.ops (log_entry {C = Card}))),
      )

  no_rest : map log_entry p.burst.ops ≡ [] → rest_of_burst o.past ≡ []
  no_rest none = elim filled [
    | inl same ↦ absurd (omega (arith, same.0, ap (λ (x : Burst (Op Card)). length x.ops) same.1, ap length none, length-map p.burst.ops (log_entry {C = Card})))
    | inr new ↦ sym at.rest ∙ ap (map log_entry) new.0
  ]

  pub at_rest : (n : ℕ) (rest : Burst (Op Card)) (now : List Call) → rest ≡ rest_of n p.burst → IsDrained now → OnlyAsked (with_offer (map log_entry p.burst.ops) n o.past) now → IsAt now rest.ops
  at_rest n rest now is drained asked = record {
    drained = drained;
    rest = ap (λ (x : Burst (Op Card)). map log_entry x.ops) is ∙ map_drop log_entry n p.burst.ops ∙ sym (rest_with (map log_entry p.burst.ops) n o.past no_rest) ∙ sym asked.rest;
  }
