-- What feeding a port and a run of the adapter do to a capture on its way.
use Rattle.std.proofs.Common.{◌≡◌, ◌==◌, ◌<◌, ◌≤◌, ◌+◌, ◌-◌, ◌*◌, ◌^◌, ◌++◌, ◌⊎◌, inl, inr, ℕ, List, [], ◌∷◌, length, map, drop, count_by, refl, ap, sym, subst, ◌∙◌, arith, length-append, length-drop, option_map}
use Rattle.std.specs.Int.{from_bool}
use Rattle.std.specs.Prelude.{None, Some}
use Rattle.std.specs.List.{All}
use Rattle.std.proofs.lemmas.List.{append-nil, length-map, nil_from_length}
use Rattle.std.proofs.lemmas.List.Elements.{All-nil}
use Rattle.crypto_model.specs.Counts.{capped}
use Rattle.crypto_op.specs.declared.spec.Card.{Card}
use Rattle.crypto_op.specs.declared.op.Op.{Op}
use Rattle.crypto_op.specs.Burst.{Burst}
use Rattle.crypto_op.specs.Op.{Entry, IsFresh, entry_of}
use Rattle.dev_core.specs.declared.driver.Driver.{Ghosts}
use Rattle.dev_core.specs.declared.driver.LogEntry.{LogEntry}
use Rattle.dev_core.specs.Burst.{front_log, log_entry, rest_of}
use Rattle.dev_core.specs.Calls.{Asks, Call}
use Rattle.dev_core.specs.Stats.{no_stats}
use Rattle.dev_core.specs.declared.stats.Stats.{Stats}
use Rattle.event_adapter.specs.declared.event.EventKind.TheVariants as kind
use Rattle.event_adapter.specs.Adapter.{moved_of, out_of, pairs_of}
use Rattle.event_adapter.specs.Inside.{inside}
use Rattle.event_adapter.specs.Source.{IsAnswer, entry_in}
use Rattle.event_adapter.specs.declared.adapter.Adapter.{Adapter}
use Rattle.event_adapter.specs.declared.queue_pair.QueuePair.{QueuePair}
use Rattle.capture_io.specs.declared.header.ReadStop.{ReadStop}
use Rattle.session_file.specs.declared.plan.Plan.{Plan}
use Rattle.packet_plan.specs.Asked.{sessions_of}
use Rattle.packet_flow.specs.declared.counts.Counts.{Counts}
use Rattle.packet_flow.specs.declared.flow.FlowEnd.{FlowEnd}
use Rattle.packet_flow.specs.declared.flow.FlowEnd.TheVariants as flow_end
use Rattle.packet_flow.specs.declared.passage.Passage.{Passage}
use Rattle.packet_flow.specs.declared.route.Route.{Route}
use Rattle.packet_flow.specs.Entries.{entries_from}
use Rattle.packet_flow.specs.Flowed.{EndsWhole}
use Rattle.packet_flow.specs.Forwarding.{ForwardsAs, IsFed, IsForwarding, IsOver, beyond, steps_ahead}
use Rattle.packet_flow.specs.Numbered.{Numbered}
use Rattle.packet_flow.specs.Counts.{counts_of}
use Rattle.packet_flow.specs.Passage.{Before, EndsAs, IsFilled, IsUnbegun, IsUnderway, Outside}
use Rattle.packet_flow.specs.Routes.{Carries, HasMoved, IsForFirst, IsNewRoute, ahead, ahead_in, back_in, entry_from, inbox_of, on_way, steps, steps_in}
use Rattle.packet_flow.specs.Seats.{AllIn, Seat, WaitsAtFront}
use Rattle.packet_flow.specs.Slots.{StandFor, open_numbers}
use Rattle.packet_flow.specs.Turns.{NeverIdle, OnlyAsked, with_offer}
use Rattle.packet_flow.specs.Writing.{Appends, CutsNext, HasWritten}
use Rattle.packet_flow.proofs.Answers.{counts_first, counts_now, cut_now, split_now, within, writes_now}
use Rattle.packet_flow.proofs.Begun.{few_made}
use Rattle.packet_flow.proofs.Ends.{begun_first, ends_cut, ends_early, ends_whole, flows_now}
use Rattle.packet_flow.proofs.InSlots.{count-cons, one, same_told}
use Rattle.packet_flow.proofs.RouteRuns.{carries_more, length-on_way, more_inbox, more_way, new_event}
use Rattle.packet_flow.proofs.Turning.{at_rest, counted, device_on, ends_unbegun, few_taken, length-front_log, new_underway, offers_on, queued_on, some_moves, took_on}

-- ---- an end

-- the operations that were put are those that were taken; the device accepted all but those that are ahead of it
pub forwards_as : (plan : Plan) (b : Before) (s_tells k_tells : Type 0) (end : FlowEnd) (counts : Counts) (left written : List ℕ) (way : List (Entry Card)) (put : ℕ) (past : List Call) (accepted submitted behind : ℕ)
    → EndsAs plan b s_tells k_tells end counts (beyond left written way put past) → put < 2 ^ 32 → capped accepted ≡ submitted → submitted + behind ≡ put → (EndsWhole end → behind ≡ 0)
    → ForwardsAs plan b s_tells k_tells end counts written accepted
forwards_as plan b s_tells k_tells end counts left written way put past accepted submitted behind ends few counts_too balance all st kt rs rest got =
    let e = ends st kt rs rest got in
    (e.0, e.2, omega (arith, e.1.enqueued_is, few, counts_too, balance), λ whole. omega (arith, e.1.enqueued_is, few, counts_too, balance, all whole))

-- the device stalled at least so often
still_stalled : {D : Type 0} (driver : Ghosts D Card) (plan : Plan) (first : D) (stalled more : ℕ) (r : Route D) → Carries driver (sessions_of plan) first (stalled + more) r → Carries driver (sessions_of plan) first stalled r
still_stalled driver plan first stalled more r c = record { serves = c.serves; works = c.works; follows = c.follows; later = c.later; stalls = omega (arith, c.stalls) }

pub over_now : {D : Type 0} (driver : Ghosts D Card) (plan : Plan) (b : Before) (s_tells k_tells : Type 0) (first : D) (stalled : ℕ) (end : FlowEnd) (counts : Counts) (r : Route D) (left written : List ℕ) (way : List (Entry Card)) (put : ℕ) (past : List Call)
    → Carries driver (sessions_of plan) first stalled r → EndsAs plan b s_tells k_tells end counts (beyond left written way put past) → put < 2 ^ 32 → (moved_of r.adapter).submitted + ahead r ≡ put
    → (EndsWhole end → ahead r ≡ 0) → (end ≡ flow_end.Stalled → ⊥) → IsOver driver plan b s_tells k_tells first stalled end counts r written
over_now driver plan b s_tells k_tells first stalled end counts r left written way put past c ends few balance all never = record {
  carries = c;
  ends = forwards_as plan b s_tells k_tells end counts left written way put past (driver.stats c.serves.pair.dev).enqueued (moved_of r.adapter).submitted (ahead r) ends few c.serves.counted balance all;
  patience = λ is. absurd (never is);
}

-- ---- the port is fed

drop_all : {X : Type 0} (xs : List X) → drop (length xs) xs ≡ []
drop_all xs = nil_from_length (drop (length xs) xs) (omega (arith, length-drop (length xs) xs))

module _ {D : Type 0} (driver : Ghosts D Card) (plan : Plan) (b : Before) (s_tells k_tells : Type 0) (first : D) (stalled : ℕ) (old p : Passage) (r : Route D) (left wrote left' wrote' : List ℕ)
    (f : IsForwarding driver plan b s_tells k_tells first stalled old r left wrote) (u : IsUnderway plan b s_tells k_tells p (beyond left' wrote' (on_way driver r) old.made f.past)) (filled : IsFilled old p) where
  abbrev n : ℕ
  n = length p.burst.ops

  abbrev o : Outside
  o = beyond left' wrote' (on_way driver r) old.made f.past

  -- the burst is a new one: it is full, or the capture ended
  pub new_burst : (n ≤ 32) × ((n ≡ 32) ⊎ ((p.window.waiting ≡ []) × (stop : ReadStop) × (p.window.stop ≡ Some stop)))
  new_burst = elim filled [
    | inl same ↦ absurd (omega (arith, same.0, ap length f.put))
    | inr new ↦ (omega (arith, new.1, u.sizes.0, f.size), elim new.2 [ inl full ↦ inl (full ∙ u.sizes.0 ∙ f.size) | inr end ↦ inr end ])
  ]

  made_more : p.made ≡ old.made + n
  made_more = omega (arith, u.made, ap length u.queued, length-append u.taken (map log_entry p.burst.ops), length-map p.burst.ops (log_entry {C = Card}), u.device.enqueued_is, few_taken plan b s_tells k_tells p o u)

  abbrev now : List Call
  now = Asks 1 0 ∷ with_offer (map log_entry p.burst.ops) n f.past

  asked : OnlyAsked (with_offer (map log_entry p.burst.ops) n f.past) now
  asked = record { taken = refl; rest = refl; flows = λ size ops flows. flows }

  module _ (rest : Burst (Op Card)) (new : Route D) (emptied : rest ≡ record { cap = p.burst.cap; ops = [] }) (adapter : new.adapter ≡ r.adapter) (inbox : inbox_of new ≡ inbox_of r ++ map new_event p.burst.ops) (less : length (inbox_of r) < 32) where
    rest_is : rest ≡ rest_of n p.burst
    rest_is = emptied ∙ ap (λ (l : List (Op Card)). record { cap = p.burst.cap; ops = l }) (sym (drop_all p.burst.ops))

    none : rest.ops ≡ []
    none = ap (λ (x : Burst (Op Card)). x.ops) emptied

    same_way : on_way driver r ++ map entry_of p.burst.ops ≡ on_way driver new ++ map entry_of rest.ops
    same_way =
        sym (more_way driver (sessions_of plan) r new p.burst.ops adapter inbox) ∙ sym (append-nil (on_way driver new)) ∙ ap (λ (l : List (Op Card)). on_way driver new ++ map entry_of l) (sym none)

    pub fed_now : back_in new ≡ back_in r → new.port.cap ≡ r.port.cap → (new.port.takes ≡ r.port.takes) × (new.port.sends ≡ r.port.sends)
        → IsForwarding driver plan b s_tells k_tells first stalled (record p { burst = rest }) new left' wrote'
    fed_now back cap limits =
        let taken = u.taken ++ front_log n p.burst in
        let inside : n ≤ n = omega arith in
        record {
          carries = carries_more driver (sessions_of plan) r new p.burst.ops adapter inbox first stalled cap limits less new_burst.0 f.carries;
          past = now;
          at = at_rest plan b s_tells k_tells old p o u f.at filled n rest now rest_is (omega arith) asked;
          underway = record {
            used = u.used;
            done = u.done;
            waiting = u.waiting;
            taken = taken;
            split = u.split;
            reads = u.reads;
            writes = u.writes;
            stand = subst (StandFor plan u.waiting p.slots) same_way u.stand;
            counts = u.counts;
            made = u.made;
            queued = queued_on u.taken (entries_from plan 0 u.used) n p.burst rest rest_is u.queued;
            device = device_on b u.taken n p.burst old.made p.made None None inside u.device (omega (arith, made_more, few_made plan b s_tells k_tells p o u)) refl;
            few = omega (arith, u.few, ap length same_way, length-append (on_way driver r) (map entry_of p.burst.ops), length-map p.burst.ops (entry_of {C = Card}), length-append (on_way driver new) (map entry_of rest.ops), length-append u.taken (front_log n p.burst), length-front_log n p.burst inside);
            fresh = subst (All IsFresh) (sym none) (All-nil IsFresh);
            front = u.front;
            order = u.order;
            stopped = u.stopped;
            next = u.next;
            range = u.range;
            back = u.back;
            sizes = (ap (λ (x : Burst (Op Card)). x.cap) emptied ∙ u.sizes.0, u.sizes.1, u.sizes.2);
            took = took_on plan b s_tells k_tells old p o u f.at filled n now inside asked;
            offers = offers_on plan b s_tells k_tells old p o u f.at filled n now inside asked;
          };
          put = none;
          size = f.size;
          none_back = back ∙ f.none_back;
          balance = omega (arith, f.balance, made_more, more_inbox driver (sessions_of plan) r new p.burst.ops adapter inbox, ap (λ (a : Adapter Card D). (moved_of a).submitted) adapter, ap (λ (a : Adapter Card D). ahead_in (pairs_of a)) adapter);
        }

    pub is_fed : IsFed (record p { burst = rest }) new
    is_fed = elim new_burst.1 [
      | inl full ↦ inl (omega (arith, full, more_inbox driver (sessions_of plan) r new p.burst.ops adapter inbox))
      | inr end ↦ inr end
    ]

    pub same_steps : steps_ahead driver (record p { burst = rest }) new ≡ steps_ahead driver old r
    same_steps =
        omega (
          arith,
          made_more,
          few_made plan b s_tells k_tells p o u,
          more_inbox driver (sessions_of plan) r new p.burst.ops adapter inbox,
          ap (λ (a : Adapter Card D). steps_in driver (pairs_of a)) adapter,
          ap (λ (a : Adapter Card D). length (out_of a)) adapter,
        )

-- ---- nothing is on its way where no packet waits for its operation

none_there : (plan : Plan) (ps : List Numbered) (ss : List Seat) (entries : List (Entry Card)) → ss ≡ [] → StandFor plan ps ss entries → length entries ≡ 0
unfolding open_numbers
none_there plan ps ss [] none b = refl
none_there plan ps ss (e ∷ es) none b =
    let p = e.cargo.packet in
    let here : one (p == p) ≡ 1 = ap one (same_told p) in
    let some = count-cons (λ (x : Entry Card). x.cargo.packet == p) e es in
    let no : count_by (λ (m : ℕ). m == p) (open_numbers ss) ≡ 0 = ap (λ (l : List Seat). count_by (λ (m : ℕ). m == p) (open_numbers l)) none in
    absurd (omega (arith, here, some, no, b.waits p))

module _ {D : Type 0} (driver : Ghosts D Card) (plan : Plan) (b : Before) (s_tells k_tells : Type 0) (first : D) (stalled : ℕ) (p : Passage) (r : Route D) (left wrote : List ℕ)
    (f : IsForwarding driver plan b s_tells k_tells first stalled p r left wrote) where
  abbrev way : List (Entry Card)
  way = on_way driver r

  abbrev now_out : Outside
  now_out = beyond left wrote way p.made f.past

  pub few_put : p.made < 2 ^ 32
  few_put = few_made plan b s_tells k_tells p now_out f.underway

  pub stand_way : StandFor plan f.underway.waiting p.slots way
  stand_way = subst (StandFor plan f.underway.waiting p.slots) (ap (λ (l : List (Op Card)). way ++ map entry_of l) f.put ∙ append-nil way) f.underway.stand

  pub stand_back : (ps : List Numbered) (ss : List Seat) (es : List (Entry Card)) → StandFor plan ps ss es → StandFor plan ps ss (es ++ map entry_of p.burst.ops)
  stand_back ps ss es b = subst (StandFor plan ps ss) (sym (ap (λ (l : List (Op Card)). es ++ map entry_of l) f.put ∙ append-nil es)) b

  pub some_way : 0 < length p.slots → 0 < length way
  some_way some = omega (arith, some_moves entry_of plan f.underway.waiting p.slots way p.burst.ops f.underway.front some f.underway.stand, ap length f.put)

  -- no packet waits
  none_ahead : p.slots ≡ [] → (length (inbox_of r) ≡ 0) × (ahead r ≡ 0)
  none_ahead none =
      let s = f.carries.serves in
      let nothing = none_there plan f.underway.waiting p.slots way none stand_way in
      let count =
      ap (λ (ps : List (QueuePair Card D)). length (map entry_from (inside driver ps (out_of r.adapter)) ++ map entry_in (inbox_of r))) s.alone ∙ length-on_way driver s.pair (out_of r.adapter) (inbox_of r) in
      (omega (arith, nothing, count), omega (arith, nothing, count, ap ahead_in s.alone))

  pub ended_now : IsFed p r → p.slots ≡ [] → (p.window.waiting ≡ []) × (stop : ReadStop) × (p.window.stop ≡ Some stop)
  ended_now fed none = elim fed [ inl some ↦ absurd (omega (arith, some, (none_ahead none).0)) | inr end ↦ end ]

  pub whole_end : IsFed p r → p.slots ≡ [] → (stop : ReadStop) → p.window.stop ≡ Some stop → IsOver driver plan b s_tells k_tells first stalled (flow_end.Stopped stop) p.counts r wrote
  whole_end fed none stop is =
      over_now driver plan b s_tells k_tells first stalled (flow_end.Stopped stop) p.counts r left wrote way p.made f.past f.carries
      (ends_whole plan b s_tells k_tells p now_out stop f.underway is (ended_now fed none).0 f.put none) few_put f.balance (λ whole. (none_ahead none).1) (λ no. cc)

  pub stalled_end : 4096 * (1 + (moved_of r.adapter).submitted) ≤ stalled → IsOver driver plan b s_tells k_tells first stalled flow_end.Stalled p.counts r wrote
  stalled_end many =
      let accepted = (driver.stats f.carries.serves.pair.dev).enqueued in
      record {
        carries = f.carries;
        ends = forwards_as plan b s_tells k_tells flow_end.Stalled p.counts left wrote way p.made f.past accepted (moved_of r.adapter).submitted (ahead r)
            (ends_early plan b s_tells k_tells p now_out flow_end.Stalled p.counts (λ w. w) (λ no. cc) f.underway refl) few_put f.carries.serves.counted f.balance (λ w. absurd w);
        patience = λ is. omega (arith, many, f.carries.serves.counted, f.balance, few_put);
      }

  -- ---- the adapter ran

  module _ (now : Route D) (moved : ℕ) (h : HasMoved driver (sessions_of plan) first stalled r now moved) (fewer : length (on_way driver now) ≤ length way) (wrote' : List ℕ) (ss : List Seat) (counts : Counts) where
    abbrev es : List (Entry Card)
    es = on_way driver now ++ map entry_of p.burst.ops

    balance_now : (moved_of now.adapter).submitted + ahead now ≡ p.made
    balance_now = omega (arith, f.balance, h.fewer, h.counts, few_put)

    pub steps_now : moved + steps driver now + 4 * (2 ^ 32 - p.made) ≡ steps_ahead driver p r
    steps_now = omega (arith, h.falls)

    pub went_on : HasWritten plan f.underway.waiting es ss p.counts counts (Appends plan b.big k_tells wrote wrote') → back_in now ≡ [] → WaitsAtFront ss → AllIn b.big ss
        → IsForwarding driver plan b s_tells k_tells first (stalled + from_bool (moved == 0)) (record p { slots = ss; counts = counts }) now left wrote'
    went_on w none_back front order =
        let u = f.underway in
        let says = Appends plan b.big k_tells wrote wrote' in
        record {
          carries = h.carries;
          past = f.past;
          at = f.at;
          underway = record {
            used = u.used;
            done = u.done ++ w.gone;
            waiting = w.left;
            taken = u.taken;
            split = split_now plan u.used u.done u.waiting u.split es ss p.counts counts says w;
            reads = u.reads;
            writes = writes_now plan u.used u.done u.waiting u.split b.big k_tells b.base wrote wrote' w.gone w.left u.writes w.says;
            stand = w.stand;
            counts = counts_now plan u.used u.done u.waiting u.split es ss p.counts counts says w u.counts;
            made = u.made;
            queued = u.queued;
            device = u.device;
            few = omega (arith, fewer, u.few);
            fresh = u.fresh;
            front = front;
            order = order;
            stopped = u.stopped;
            next = u.next;
            range = u.range;
            back = u.back;
            sizes = u.sizes;
            took = u.took;
            offers = u.offers;
          };
          put = f.put;
          size = f.size;
          none_back = none_back;
          balance = balance_now;
        }

    pub cut_end : HasWritten plan f.underway.waiting es ss p.counts counts (CutsNext plan b.big k_tells wrote wrote') → IsOver driver plan b s_tells k_tells first stalled flow_end.WriteFault counts now wrote'
    cut_end w =
        let u = f.underway in
        let says = CutsNext plan b.big k_tells wrote wrote' in
        let cut = split_now plan u.used u.done u.waiting u.split es ss p.counts counts says w in
        over_now driver plan b s_tells k_tells first stalled flow_end.WriteFault counts now left wrote' (on_way driver now) p.made f.past
        (still_stalled driver plan first stalled (from_bool (moved == 0)) now h.carries)
        (ends_cut plan b s_tells k_tells (beyond left wrote' (on_way driver now) p.made f.past) counts u.used u.taken (map log_entry p.burst.ops) (length (u.done ++ w.gone))
        (λ told. begun_first b.big b.bytes u.used p.window.waiting p.window.place left p.window.stop (u.reads told)) u.queued u.device u.took
        (λ told rs rest got. flows_now plan b s_tells k_tells p now_out u told rs rest got)
        (within plan u.used (u.done ++ w.gone) w.left cut)
        (counts_first plan u.used (u.done ++ w.gone) w.left cut counts (counts_now plan u.used u.done u.waiting u.split es ss p.counts counts says w u.counts))
        (cut_now plan u.used u.done u.waiting u.split b.big k_tells b.base wrote wrote' w.gone w.left cut u.writes w.says))
        few_put balance_now (λ whole. absurd whole) (λ no. cc)

-- ---- before the first turn

-- nothing was begun
pub forwards_none : (plan : Plan) (b : Before) (s_tells k_tells : Type 0) (counts : Counts) (left : List ℕ) (accepted : ℕ) → b.log ≡ None → counts ≡ counts_of [] → accepted ≡ 0
    → ForwardsAs plan b s_tells k_tells flow_end.OutOfMemory counts b.base accepted
forwards_none plan b s_tells k_tells counts left accepted log same none =
    forwards_as plan b s_tells k_tells flow_end.OutOfMemory counts left b.base [] 0 [] accepted 0 0
    (ends_unbegun plan b s_tells k_tells (beyond left b.base [] 0 []) counts refl (record { enqueued_is = omega arith; log_is = sym (ap (option_map (λ (l : List LogEntry). [])) log) }) refl same) (omega arith) (omega (arith, none)) (omega arith) (λ whole. absurd whole)

pub new_forwarding : {D : Type 0} (driver : Ghosts D Card) (plan : Plan) (b : Before) (s_tells k_tells : Type 0) (dev : D) (p : Passage) (r : Route D) (left wrote : List ℕ) → b.size ≡ 32 → b.log ≡ None → left ≡ b.bytes → wrote ≡ b.base
    → IsUnbegun 32 p → IsNewRoute driver dev r → driver.held dev ≡ [] → driver.stats dev ≡ no_stats → driver.sessions dev ≡ sessions_of plan → ((d : D) → driver.follows dev d → NeverIdle driver.admits driver.held d) → driver.follows dev dev
    → IsForwarding driver plan b s_tells k_tells dev 0 p r left wrote
new_forwarding driver plan b s_tells k_tells dev p r left wrote size log left_is wrote_is new route idle stats sessions works itself =
    let pair = route.pair in
    let burst : p.burst.ops ≡ [] = ap (λ (x : Burst (Op Card)). x.ops) new.burst in
    let count =
    ap (λ (ps : List (QueuePair Card _)). length (map entry_from (inside driver ps (out_of r.adapter)) ++ map entry_in (inbox_of r))) route.alone ∙ length-on_way driver pair (out_of r.adapter) (inbox_of r) in
    let held : length (driver.held pair.dev) ≡ 0 = ap (λ (d : _). length (driver.held d)) route.dev_is ∙ ap length idle in
    let none : on_way driver r ≡ [] = nil_from_length (on_way driver r) (omega (arith, count, held, ap length route.none_waits, ap length route.none_out, ap length route.none_in)) in
    record {
      carries = record {
        serves = record {
          pair = pair;
          alone = route.alone;
          id = route.id;
          mode = route.mode;
          table = ap driver.sessions route.dev_is ∙ sessions;
          back = subst (All (IsAnswer kind.Forward 0 (sessions_of plan))) (sym route.none_out) (All-nil (IsAnswer kind.Forward 0 (sessions_of plan)));
          few_out = omega (arith, ap length route.none_out);
          inbox = subst (All IsForFirst) (sym route.none_in) (All-nil IsForFirst);
          few_in = omega (arith, ap length route.none_in);
          wide = route.wide;
          counted = omega (arith, route.none_submitted, ap (λ (d : _). (driver.stats d).enqueued) route.dev_is, ap (λ (x : Stats). x.enqueued) stats);
        };
        works = works;
        follows = subst (driver.follows dev) (sym route.dev_is) itself;
        later = omega (arith, ap driver.stalls route.dev_is);
        stalls = omega (arith, ap driver.stalls route.dev_is);
      };
      past = [];
      at = record { drained = tt; rest = ap (map log_entry) burst };
      underway = new_underway plan b s_tells k_tells 32 p (beyond left wrote (on_way driver r) p.made []) (omega arith) size refl new
          (record { enqueued_is = omega (arith, new.made); log_is = sym (ap (option_map (λ (l : List LogEntry). [])) log) }) left_is wrote_is none;
      put = burst;
      size = size;
      none_back = route.none_back;
      balance = omega (arith, route.none_submitted, ap ahead_in route.alone, ap length route.none_waits, ap length route.none_in, new.made);
    }

-- ---- how long it may go on

abbrev pub turns_ahead : ℕ → ℕ → ℕ
turns_ahead steps stalled = steps + (4096 * (2 ^ 32 + 1) - stalled)

pub fewer_turns : (x now stalled moved r accepted : ℕ) → r ≡ from_bool (moved == 0) → accepted < 2 ^ 32 → moved + now ≡ x → stalled + r < 4096 * (1 + accepted) → turns_ahead now (stalled + r) < turns_ahead x stalled
fewer_turns x now stalled moved r accepted is few falls within =
    elim (counted moved r is) [ inl still ↦ omega (arith, still.0, still.1, few, falls, within) | inr some ↦ omega (arith, some.0, some.1, few, falls, within) ]
