-- What a run of an adapter over one device does.
use Rattle.std.proofs.Common.{◌≡◌, ◌==◌, ◌+◌, ◌-◌, ◌*◌, ◌<◌, ◌≤◌, ◌++◌, min, ℕ, Bool, true, false, zero, suc, List, [], ◌∷◌, length, map, take, drop, refl, ap, sym, subst, ◌∙◌, arith, append_assoc, length-append, length-take, length-drop, take-append-drop, option_map}
use Rattle.std.specs.Int.{from_bool}
use Rattle.std.specs.Prelude.{Some, IsPermutation, not}
use Rattle.std.specs.Option.{ForSome}
use Rattle.std.specs.List.{All, filter}
use Rattle.std.proofs.lemmas.List.{append-nil, length-map, map-append, nil_from_length}
use Rattle.std.proofs.lemmas.List.Elements.{All-append, All-drop, All-head, All-map, All-tail, All-take}
use Rattle.std.proofs.lemmas.List.Sorted.{IsPermutation-append_left, IsPermutation-map, length_permutation}
use Rattle.crypto_model.specs.Counts.{capped, Rose}
use Rattle.crypto_model.specs.Process.{Transform}
use Rattle.crypto_op.specs.declared.spec.Card.{Card}
use Rattle.crypto_op.specs.declared.op.Op.{Op}
use Rattle.crypto_op.specs.Op.{Entry, data_len_of, entry_of}
use Rattle.crypto_op.specs.Burst.{Burst}
use Rattle.dev_core.specs.declared.driver.Driver.{Ghosts}
use Rattle.dev_core.specs.declared.limits.LimitedCalls.{LimitedCalls}
use Rattle.dev_core.specs.declared.limits.Limits.{Limits}
use Rattle.dev_core.specs.declared.limits.Limits.TheVariants.{Always, Listed, Never}
use Rattle.event_adapter.specs.declared.event.Event.{Event}
use Rattle.event_adapter.specs.declared.event.EventKind.TheVariants as kind
use Rattle.event_adapter.specs.declared.mem_port.MemPort.{MemPort}
use Rattle.event_adapter.specs.declared.moved.Moved.{Moved}
use Rattle.event_adapter.specs.declared.moved.AdapterMode.TheVariants.{Forward}
use Rattle.event_adapter.specs.declared.port.EventPort.{Ghosts as PortGhosts}
use Rattle.event_adapter.specs.declared.queue_pair.QueuePair.{QueuePair}
use Rattle.event_adapter.specs.Inside.{bag_of, inside, is_known, least_room, strangers}
use Rattle.event_adapter.specs.Port.{told_room}
use Rattle.event_adapter.specs.Adapter.{mode_of, moved_of, out_of, pairs_of}
use Rattle.event_adapter.specs.declared.adapter.Adapter.{Adapter}
use Rattle.event_adapter.specs.Ran.{Ran, plus}
use Rattle.event_adapter.specs.Source.{IsAnswer, Source, entry_in, event_of, ops_for, source_of, tagged}
use Rattle.event_adapter.specs.Steps.{Along, Completed, Dealt, Each, Kept, Offered}
use Rattle.session_file.specs.declared.plan.Plan.{Plan}
use Rattle.packet_flow.specs.declared.route.Route.{Route}
use Rattle.packet_flow.specs.Numbered.{Numbered}
use Rattle.packet_flow.specs.Routes.{Carries, HasMoved, HasRun, IsForFirst, IsWide, Serves, ahead_in, back_in, entry_from, inbox_of, on_way, steps_in}
use Rattle.packet_flow.specs.Seats.{Seat}
use Rattle.packet_flow.specs.Slots.{StandFor}
use Rattle.packet_flow.specs.Turns.{NeverIdle}
use Rattle.packet_flow.proofs.Bags.{stand_moved}
use Rattle.packet_flow.proofs.InSlots.{same_told}
use Rattle.packet_flow.proofs.Turning.{stalled_on}

-- ---- one queue pair

pub alone : {P E : Type 0} (R : ℕ → P → P → List E → Type 0) (room : ℕ) (p : P) (qs : List P) (es : List E) → Along R room (p ∷ []) qs es → (q : P) × (qs ≡ q ∷ []) × R room p q es
alone R room p [] es a = absurd a
alone R room p (q ∷ []) es a = let all : es ≡ a.0 = a.2 ∙ ap (λ (l : List _). a.0 ++ l) a.4 ∙ append-nil a.0 in (q, refl, subst (R room p q) (sym all) a.3)
alone R room p (q ∷ x ∷ qs) es a = absurd a.4

each_alone : {P : Type 0} (R : P → P → Type 0) (p : P) (qs : List P) → Each R (p ∷ []) qs → (q : P) × (qs ≡ q ∷ []) × R p q
each_alone R p [] a = absurd (omega (arith, a.0))
each_alone R p (q ∷ []) a = (q, refl, a.1 0 p (omega arith))
each_alone R p (q ∷ x ∷ qs) a = absurd (omega (arith, a.0))

-- ---- the events for it

filter_all : {X : Type 0} (f : X → Bool) (xs : List X) → All (λ x. f x ≡ true) xs → filter f xs ≡ xs
filter_all f [] h = refl
filter_all f (x ∷ xs) h = rw (All-head (λ y. f y ≡ true) x xs h, filter_all f xs (All-tail (λ y. f y ≡ true) x xs h)) refl

filter_none : {X : Type 0} (f : X → Bool) (xs : List X) → All (λ x. f x ≡ false) xs → filter f xs ≡ []
filter_none f [] h = refl
filter_none f (x ∷ xs) h = rw (All-head (λ y. f y ≡ false) x xs h, filter_none f xs (All-tail (λ y. f y ≡ false) x xs h)) refl

all_for : (id : ℕ) (es : List (Event Card)) → id ≡ 0 → All IsForFirst es → length (ops_for id es) ≡ length es
all_for id es is h =
    let kept : filter (λ (e : Event Card). e.qp == id) es ≡ es = filter_all (λ (e : Event Card). e.qp == id) es (λ k d lt. let q = h k d lt in rw (q, is) (same_told 0)) in
    length-map (filter (λ (e : Event Card). e.qp == id) es) (λ (e : Event Card). e.op) ∙ ap length kept

none_strange : {D : Type 0} (p : QueuePair Card D) (es : List (Event Card)) → p.id ≡ 0 → All IsForFirst es → strangers (p ∷ []) es ≡ []
none_strange p es is h = filter_none (λ (e : Event Card). not (is_known (p ∷ []) e.qp)) es (λ k d lt. let q = h k d lt in rw (q, is) refl)

-- ---- what is on its way

entries_of_sources : (es : List (Event Card)) → map entry_from (map source_of es) ≡ map entry_in es
entries_of_sources [] = refl
entries_of_sources (e ∷ es) = ap (λ (l : List (Entry Card)). entry_in e ∷ l) (entries_of_sources es)

-- events leave the front of the inbox and others come back
pub bag_on : (before after : List (Source Card)) (back front rest : List (Event Card)) → IsPermutation (before ++ map source_of front) (map source_of back ++ after)
    → IsPermutation (map entry_from before ++ map entry_in (front ++ rest)) (map entry_in back ++ (map entry_from after ++ map entry_in rest))
bag_on before after back front rest h =
    let mapped = IsPermutation-map entry_from (before ++ map source_of front) (map source_of back ++ after) h in
    let left : map entry_from (before ++ map source_of front) ≡ map entry_from before ++ map entry_in front =
    map-append entry_from before (map source_of front) ∙ ap (λ (l : List (Entry Card)). map entry_from before ++ l) (entries_of_sources front) in
    let right : map entry_from (map source_of back ++ after) ≡ map entry_in back ++ map entry_from after =
    map-append entry_from (map source_of back) after ∙ ap (λ (l : List (Entry Card)). l ++ map entry_from after) (entries_of_sources back) in
    let told : IsPermutation (map entry_from before ++ map entry_in front) (map entry_in back ++ map entry_from after) =
    subst (IsPermutation (map entry_from before ++ map entry_in front)) right (subst (λ (l : List (Entry Card)). IsPermutation l (map entry_from (map source_of back ++ after))) left mapped) in
    rw (map-append entry_in front rest, ← append_assoc (map entry_from before) (map entry_in front) (map entry_in rest), ← append_assoc (map entry_in back) (map entry_from after) (map entry_in rest))
    (IsPermutation-append_left (map entry_in rest) (map entry_from before ++ map entry_in front) (map entry_in back ++ map entry_from after) told)

pub length-on_way : {D : Type 0} (driver : Ghosts D Card) (p : QueuePair Card D) (out inbox : List (Event Card))
    → length (map entry_from (inside driver (p ∷ []) out) ++ map entry_in inbox) ≡ length p.waiting.ops + length (driver.held p.dev) + length out + length inbox
length-on_way driver p out inbox =
    let own = map entry_of p.waiting.ops ++ driver.held p.dev in
    omega (
      arith,
      length-append (map entry_from (inside driver (p ∷ []) out)) (map entry_in inbox),
      length-map (inside driver (p ∷ []) out) entry_from,
      length-append (bag_of driver p ++ []) (map source_of out),
      length-append (bag_of driver p) [],
      length-map own (tagged p.id),
      length-append (map entry_of p.waiting.ops) (driver.held p.dev),
      length-map p.waiting.ops (entry_of {C = Card}),
      length-map out (source_of {C = Card}),
      length-map inbox (entry_in {C = Card}),
    )

-- ---- a port without limits

pub wide_room : (port : MemPort Card) → IsWide port
    → told_room port.takes.limits port.sends.limits (port.cap - (length port.inbox.items + length port.sent.items)) ≡ Some (128 - (length port.inbox.items + length port.sent.items))
wide_room port w = rw (w.takes, w.sends, w.cap) refl

told_is : (l k : Limits) (n m : ℕ) → told_room l k n ≡ Some m → (l ≡ Never) × (k ≡ Never) × (n ≡ m)
told_is Never Never n m is = let same : n ≡ m = cc in (refl, refl, same)
told_is Never (Always x) n m is = cc
told_is Never (Listed xs) n m is = cc
told_is (Always x) k n m is = cc
told_is (Listed xs) k n m is = cc

-- it stays one, where it tells the room that it should have
pub wide_on : (port : MemPort Card) (m : ℕ) → told_room port.takes.limits port.sends.limits (port.cap - (length port.inbox.items + length port.sent.items)) ≡ Some m
    → length port.inbox.items + length port.sent.items ≤ port.cap → m + (length port.inbox.items + length port.sent.items) ≡ 128 → IsWide port
wide_on port m told fits all =
    let is = told_is port.takes.limits port.sends.limits (port.cap - (length port.inbox.items + length port.sent.items)) m told in
    record { cap = omega (arith, is.2, fits, all); takes = is.0; sends = is.1 }

-- ---- a run over one queue pair, behind which all that was in the out buffer is sent

pub record RunsAlone {D : Type 0} (driver : Ghosts D Card) (p : QueuePair Card D) (qs : List (QueuePair Card D)) (inbox out : List (Event Card)) (m : Moved) : Type 0 where
  pub mid : QueuePair Card D
  pub later : QueuePair Card D
  pub q : QueuePair Card D
  pub accepted : List (Op Card)
  pub is : qs ≡ q ∷ []
  pub completed : Completed driver kind.Forward 64 p mid out
  pub offered : Offered driver 0 mid later accepted
  pub dealt : Dealt (take m.taken inbox) later q
  pub answered : m.completed ≡ length out
  pub submitted : m.submitted ≡ length accepted
  pub taken : m.taken ≡ min (min (min (32 - length later.waiting.ops) 32) (64 - length out)) (length inbox)

pub runs_alone : {D P : Type 0} (driver : Ghosts D Card) (port : PortGhosts P Card) (old new : P) (p : QueuePair Card D) (qs : List (QueuePair Card D)) (out0 out1 : List (Event Card)) (m : Moved) (s : ℕ)
    → Ran driver port Forward old new (p ∷ []) qs out0 out1 m → m.sent ≡ length out0 → p.id ≡ 0 → All IsForFirst (port.inbox old) → port.spare old ≡ Some s → RunsAlone driver p qs (port.inbox old) out1 m
runs_alone driver port old new p qs out0 out1 m s ran all id first told =
    let none : drop m.sent out0 ≡ [] = nil_from_length (drop m.sent out0) (omega (arith, length-drop m.sent out0, all)) in
    let front = take m.taken (port.inbox old) in
    let sent : out1 ≡ ran.answers = ran.out ∙ ap (λ (l : List (Event Card)). (l ++ ran.answers) ++ strangers (p ∷ []) front) none
    ∙ ap (λ (l : List (Event Card)). ran.answers ++ l) (none_strange p front id (All-take IsForFirst m.taken (port.inbox old) first)) ∙ append-nil ran.answers in
    let done = alone (Completed driver kind.Forward) (64 - length (drop m.sent out0)) p ran.mids ran.answers ran.completing in
    let given = alone (Offered driver) 0 done.0 ran.laters ran.accepted (subst (λ (l : List (QueuePair Card _)). Along (Offered driver) 0 l ran.laters ran.accepted) done.1 ran.offering) in
    let dealt = each_alone (Dealt front) given.0 qs (subst (λ (l : List (QueuePair Card _)). Each (Dealt front) l qs) given.1 ran.dealing) in
    record {
      mid = done.0;
      later = given.0;
      q = dealt.0;
      accepted = ran.accepted;
      is = dealt.1;
      completed = subst (λ (l : List (Event Card)). Completed driver kind.Forward 64 p done.0 l) (sym sent)
          (subst (λ (l : List (Event Card)). Completed driver kind.Forward (64 - length l) p done.0 ran.answers) none done.2);
      offered = given.2;
      dealt = dealt.2;
      answered = ran.completed ∙ ap length (sym sent);
      submitted = ran.submitted;
      taken = ran.told refl s told ∙ ap (λ (l : List (QueuePair Card _)). min (min (least_room l) (64 - length (drop m.sent out0 ++ ran.answers))) (length (port.inbox old))) given.1
          ∙ ap (λ (l : List (Event Card)). min (min (min (32 - length given.0.waiting.ops) 32) (64 - length (l ++ ran.answers))) (length (port.inbox old))) none
          ∙ ap (λ (l : List (Event Card)). min (min (min (32 - length given.0.waiting.ops) 32) (64 - length l)) (length (port.inbox old))) (sym sent);
    }

-- ---- its numbers

module _ {D : Type 0} (driver : Ghosts D Card) (p : QueuePair Card D) (qs : List (QueuePair Card D)) (inbox out : List (Event Card)) (m : Moved) (r : RunsAlone driver p qs inbox out m) where
  fewer_held : length out + length (driver.held r.mid.dev) ≡ length (driver.held p.dev)
  fewer_held = omega (arith, length_permutation (map entry_in out ++ driver.held r.mid.dev) (driver.held p.dev) r.completed.held, length-append (map entry_in out) (driver.held r.mid.dev), length-map out (entry_in {C = Card}))

  waited : length p.waiting.ops ≡ length r.accepted + length r.later.waiting.ops
  waited = omega (arith, ap (λ (b : Burst (Op Card)). length b.ops) r.completed.waiting, ap length r.offered.rest, length-append r.accepted r.later.waiting.ops)

  more_held : length (driver.held r.later.dev) ≡ length (driver.held r.mid.dev) + length r.accepted
  more_held =
      omega (arith, length_permutation (driver.held r.mid.dev ++ map entry_of r.accepted) (driver.held r.later.dev) r.offered.takes.held, length-append (driver.held r.mid.dev) (map entry_of r.accepted), length-map r.accepted (entry_of {C = Card}))

  held_now : length (driver.held r.q.dev) ≡ length (driver.held r.later.dev)
  held_now = ap (λ (d : D). length (driver.held d)) r.dealt.dev

  waits_now : p.id ≡ 0 → All IsForFirst inbox → length r.q.waiting.ops ≡ length r.later.waiting.ops + m.taken
  waits_now id first =
      let own : r.later.id ≡ 0 = r.offered.id ∙ r.completed.id ∙ id in
      omega (arith, ap length r.dealt.waiting, length-append r.later.waiting.ops (ops_for r.later.id (take m.taken inbox)), all_for r.later.id (take m.taken inbox) own (All-take IsForFirst m.taken inbox first), length-take m.taken inbox, r.taken)

  -- all that moved is a step less
  pub falls : (sent : ℕ) → p.id ≡ 0 → All IsForFirst inbox
      → (sent + m.completed + m.submitted + m.taken) + (4 * length (drop m.taken inbox) + (3 * length r.q.waiting.ops + 2 * length (driver.held r.q.dev) + 0) + length out)
      ≡ 4 * length inbox + (3 * length p.waiting.ops + 2 * length (driver.held p.dev) + 0) + sent
  falls sent id first = omega (arith, fewer_held, waited, more_held, held_now, waits_now id first, length-drop m.taken inbox, r.taken, r.answered, r.submitted)

  pub fewer_ahead : p.id ≡ 0 → All IsForFirst inbox → m.submitted + (length (drop m.taken inbox) + (length r.q.waiting.ops + 0)) ≡ length inbox + (length p.waiting.ops + 0)
  fewer_ahead id first = omega (arith, waited, waits_now id first, length-drop m.taken inbox, r.taken, r.submitted)

  pub few_moved : (sent : ℕ) → sent ≤ 64 → sent + m.completed + m.submitted + m.taken ≤ 256
  few_moved sent few = omega (arith, few, r.completed.within, r.answered, waited, p.within, r.submitted, r.taken)

  -- the device behind the run goes on from the one before
  pub kept_on : (driver.follows p.dev r.mid.dev → driver.follows r.mid.dev r.later.dev → driver.follows p.dev r.later.dev) → Kept driver m.submitted p.dev r.q.dev
  kept_on follows_on =
      let a = r.completed.kept in
      let b = r.offered.takes.kept in
      subst (Kept driver m.submitted p.dev) (sym r.dealt.dev) (record {
        follows = follows_on a.follows b.follows;
        stalls = omega (arith, a.stalls, b.stalls);
        sessions = b.sessions ∙ a.sessions;
        enqueued = omega (arith, a.enqueued, b.enqueued, r.submitted);
      })

  -- where nothing moved of what is on its way, the device stalled
  pub stuck : (sent : ℕ) → (driver.follows p.dev r.mid.dev → NeverIdle driver.admits driver.held r.mid.dev) → sent + m.completed + m.submitted + m.taken ≡ 0
      → 0 < length p.waiting.ops + length (driver.held p.dev) + sent + length inbox → Rose (driver.stalls p.dev) (driver.stalls r.q.dev)
  stuck sent works none some =
      let up = r.completed.kept.stalls in
      let on = r.offered.takes.kept.stalls in
      let end : driver.stalls r.q.dev ≡ driver.stalls r.later.dev = ap (λ (d : D). driver.stalls d) r.dealt.dev in
      by_held (length (driver.held p.dev)) refl up on end where
        by_held : (h : ℕ) → h ≡ length (driver.held p.dev) → driver.stalls p.dev ≤ driver.stalls r.mid.dev → driver.stalls r.mid.dev ≤ driver.stalls r.later.dev → driver.stalls r.q.dev ≡ driver.stalls r.later.dev
            → Rose (driver.stalls p.dev) (driver.stalls r.q.dev)
        by_held (suc h) is up on end = let rose = r.completed.cause (omega (arith, is, none, r.answered)) in omega (arith, rose, on, end)
        by_held zero is up on end = by_waiting (length r.mid.waiting.ops) refl where
          by_waiting : (w : ℕ) → w ≡ length r.mid.waiting.ops → Rose (driver.stalls p.dev) (driver.stalls r.q.dev)
          by_waiting (suc w) here =
              let lens = map (λ (op : Op Card). data_len_of op.spec) r.mid.waiting.ops in
              let idle = works r.completed.kept.follows lens (omega (arith, here, length-map r.mid.waiting.ops (λ (op : Op Card). data_len_of op.spec))) in
              let told = r.offered.cause (omega (arith, here)) idle.0 idle.1 in
              by_room idle.0 idle.2 told.1 where
                by_room : (a : ℕ) → (a ≡ 0 → 0 < length (driver.held r.mid.dev)) → (length r.accepted < a → Rose (driver.stalls r.mid.dev) (driver.stalls r.later.dev)) → Rose (driver.stalls p.dev) (driver.stalls r.q.dev)
                by_room zero holds rise = absurd (omega (arith, holds refl, fewer_held, is))
                by_room (suc a) holds rise = let rose = rise (omega (arith, none, r.submitted)) in omega (arith, rose, up, end)
          by_waiting zero here = absurd (omega (arith, none, some, r.taken, waited, here, ap (λ (b : Burst (Op Card)). length b.ops) r.completed.waiting, is, r.answered))

-- ---- a route

-- what a port in memory tells
abbrev pub mem_port : PortGhosts (MemPort Card) Card
mem_port = record {
  inbox = λ p. p.inbox.items;
  sent = λ p. p.sent.items;
  balks = λ p. p.balks;
  spare = λ p. told_room p.takes.limits p.sends.limits (p.cap - (length p.inbox.items + length p.sent.items));
}

module _ {D : Type 0} (driver : Ghosts D Card) (follows_on : (d e f : D) → driver.follows d e → driver.follows e f → driver.follows d f) (sessions : List (List Transform)) (first : D) (stalled : ℕ)
    (old new : Route D) (m : Moved) (c : Carries driver sessions first stalled old) (none_back : back_in old ≡ []) where
  abbrev total : ℕ
  total = m.sent + m.completed + m.submitted + m.taken

  room_told : told_room old.port.takes.limits old.port.sends.limits (old.port.cap - (length (inbox_of old) + length (back_in old))) ≡ Some (128 - length (inbox_of old))
  room_told = wide_room old.port c.serves.wide ∙ ap (λ (n : ℕ). Some (128 - n)) (let none : length (inbox_of old) + length (back_in old) ≡ length (inbox_of old) = omega (arith, ap length none_back) in none)

  pub all_sent : ForSome (mem_port.spare old.port) (λ s. length (out_of old.adapter) ≤ s → m.sent ≡ length (out_of old.adapter)) → m.sent ≡ length (out_of old.adapter)
  all_sent told = told (128 - length (inbox_of old)) room_told (omega (arith, c.serves.few_out, c.serves.few_in))

  way_before : length (on_way driver old) ≡ length c.serves.pair.waiting.ops + length (driver.held c.serves.pair.dev) + length (out_of old.adapter) + length (inbox_of old)
  way_before = ap (λ (ps : List (QueuePair Card D)). length (map entry_from (inside driver ps (out_of old.adapter)) ++ map entry_in (inbox_of old))) c.serves.alone ∙ length-on_way driver c.serves.pair (out_of old.adapter) (inbox_of old)

  module _ (r : RunsAlone driver c.serves.pair (pairs_of new.adapter) (inbox_of old) (out_of new.adapter) m) (all : m.sent ≡ length (out_of old.adapter)) (inbox : inbox_of new ≡ drop m.taken (inbox_of old))
      (sent : back_in new ≡ back_in old ++ take m.sent (out_of old.adapter)) (spare : mem_port.spare new.port ≡ option_map (λ s. (s - m.sent) + m.taken) (mem_port.spare old.port))
      (mode : mode_of new.adapter ≡ mode_of old.adapter) (moved : moved_of new.adapter ≡ plus (moved_of old.adapter) m) where
    kept : Kept driver m.submitted c.serves.pair.dev r.q.dev
    kept = kept_on driver c.serves.pair (pairs_of new.adapter) (inbox_of old) (out_of new.adapter) m r (follows_on c.serves.pair.dev r.mid.dev r.later.dev)

    inbox_len : length (inbox_of new) + m.taken ≡ length (inbox_of old)
    inbox_len = omega (arith, ap length inbox, length-drop m.taken (inbox_of old), r.taken)

    back_len : length (back_in new) ≡ m.sent
    back_len = omega (arith, ap length sent, length-append (back_in old) (take m.sent (out_of old.adapter)), ap length none_back, length-take m.sent (out_of old.adapter), all)

    serves_now : Serves driver sessions new
    serves_now =
        let s = c.serves in
        record {
          pair = r.q;
          alone = r.is;
          id = r.dealt.id ∙ r.offered.id ∙ r.completed.id ∙ s.id;
          mode = mode ∙ s.mode;
          table = kept.sessions ∙ s.table;
          back = subst (λ (t : List (List Transform)). All (IsAnswer kind.Forward 0 t) (out_of new.adapter)) s.table
              (subst (λ (i : ℕ). All (IsAnswer kind.Forward i (driver.sessions s.pair.dev)) (out_of new.adapter)) s.id r.completed.answers);
          few_out = r.completed.within;
          inbox = subst (All IsForFirst) (sym inbox) (All-drop IsForFirst m.taken (inbox_of old) s.inbox);
          few_in = omega (arith, inbox_len, s.few_in);
          wide = wide_on new.port ((128 - length (inbox_of old) - m.sent) + m.taken) (spare ∙ ap (option_map (λ (x : ℕ). (x - m.sent) + m.taken)) room_told) (omega (arith, new.port.fits, new.port.inbox.ok.0, new.port.sent.ok.0))
              (omega (arith, inbox_len, back_len, all, s.few_out, s.few_in));
          counted = omega (arith, s.counted, kept.enqueued, ap (λ (x : Moved). x.submitted) moved);
        }

    pub has_moved : 0 < length (on_way driver old) → HasMoved driver sessions first stalled old new total
    unfolding serves_now
    has_moved some =
        let s = c.serves in
        let stalls = stalled_on (driver.stalls first) (driver.stalls s.pair.dev) (driver.stalls r.q.dev) stalled total (from_bool (total == 0)) refl c.stalls kept.stalls
        (λ none. stuck driver s.pair (pairs_of new.adapter) (inbox_of old) (out_of new.adapter) m r m.sent (λ on. c.works r.mid.dev (follows_on first s.pair.dev r.mid.dev c.follows on)) none
        (omega (arith, some, way_before, all))) in
        record {
          carries = record { serves = serves_now; works = c.works; follows = follows_on first s.pair.dev r.q.dev c.follows kept.follows; later = omega (arith, c.later, kept.stalls); stalls = stalls };
          falls = omega (
            arith,
            falls driver s.pair (pairs_of new.adapter) (inbox_of old) (out_of new.adapter) m r m.sent s.id s.inbox,
            ap (steps_in driver) r.is,
            ap (steps_in driver) s.alone,
            ap length inbox,
            all,
          );
          accepted = m.submitted;
          fewer = omega (arith, fewer_ahead driver s.pair (pairs_of new.adapter) (inbox_of old) (out_of new.adapter) m r s.id s.inbox, ap ahead_in r.is, ap ahead_in s.alone, ap length inbox);
          counts = ap (λ (x : Moved). x.submitted) moved;
        }

    pub has_run : 0 < length (on_way driver old)
        → IsPermutation (inside driver (pairs_of old.adapter) (out_of old.adapter) ++ map source_of (take m.taken (inbox_of old))) (map source_of (take m.sent (out_of old.adapter)) ++ inside driver (pairs_of new.adapter) (out_of new.adapter))
        → HasRun driver sessions first stalled old new total
    has_run some bag =
        let front = take m.sent (out_of old.adapter) in
        let rest = drop m.taken (inbox_of old) in
        let before = inside driver (pairs_of old.adapter) (out_of old.adapter) in
        let after = inside driver (pairs_of new.adapter) (out_of new.adapter) in
        let back : back_in new ≡ front = sent ∙ ap (λ (l : List (Event Card)). l ++ front) none_back in
        let all : IsPermutation (on_way driver old) (map entry_in front ++ (map entry_from after ++ map entry_in rest)) =
        subst (λ (l : List (Event Card)). IsPermutation (map entry_from before ++ map entry_in l) (map entry_in front ++ (map entry_from after ++ map entry_in rest))) (take-append-drop m.taken (inbox_of old))
        (bag_on before after front (take m.taken (inbox_of old)) rest bag) in
        record {
          moves = has_moved some;
          answers = subst (All (IsAnswer kind.Forward 0 sessions)) (sym back) (All-take (IsAnswer kind.Forward 0 sessions) m.sent (out_of old.adapter) c.serves.back);
          same = subst (λ (l : List (Event Card)). IsPermutation (on_way driver old) (map entry_in l ++ on_way driver new)) (sym back)
              (subst (λ (l : List (Event Card)). IsPermutation (on_way driver old) (map entry_in front ++ (map entry_from after ++ map entry_in l))) (sym inbox) all);
        }

-- what a run of the adapter says, where it has one device
pub ran_once : {D : Type 0} (driver : Ghosts D Card) (follows_on : (d e f : D) → driver.follows d e → driver.follows e f → driver.follows d f) (sessions : List (List Transform)) (first : D) (stalled : ℕ)
    (old new : Route D) (m : Moved) (c : Carries driver sessions first stalled old) → back_in old ≡ []
    → ForSome (mem_port.spare old.port) (λ s. length (out_of old.adapter) ≤ s → m.sent ≡ length (out_of old.adapter))
    → Ran driver mem_port (mode_of old.adapter) old.port new.port (pairs_of old.adapter) (pairs_of new.adapter) (out_of old.adapter) (out_of new.adapter) m
    → RunsAlone driver c.serves.pair (pairs_of new.adapter) (inbox_of old) (out_of new.adapter) m
ran_once driver follows_on sessions first stalled old new m c none_back told step =
    let s = c.serves in
    let one : Ran driver mem_port Forward old.port new.port (s.pair ∷ []) (pairs_of new.adapter) (out_of old.adapter) (out_of new.adapter) m = rw (s.mode, s.alone) at step in
    runs_alone driver mem_port old.port new.port s.pair (pairs_of new.adapter) (out_of old.adapter) (out_of new.adapter) m (128 - length (inbox_of old)) one
    (all_sent driver follows_on sessions first stalled old new m c none_back told) s.id s.inbox (room_told driver follows_on sessions first stalled old new m c none_back)

-- ---- only what is in the port changes

module _ {D : Type 0} (driver : Ghosts D Card) (sessions : List (List Transform)) (mid new : Route D) (adapter : new.adapter ≡ mid.adapter) (cap : new.port.cap ≡ mid.port.cap)
    (limits : (new.port.takes ≡ mid.port.takes) × (new.port.sends ≡ mid.port.sends)) (inbox : All IsForFirst (inbox_of mid) → All IsForFirst (inbox_of new)) (few : length (inbox_of mid) ≤ 64 → length (inbox_of new) ≤ 64) where
  serves_too : (s : Serves driver sessions mid) → (t : Serves driver sessions new) × (t.pair ≡ s.pair)
  serves_too s = (
    record {
      pair = s.pair;
      alone = ap pairs_of adapter ∙ s.alone;
      id = s.id;
      mode = ap mode_of adapter ∙ s.mode;
      table = s.table;
      back = subst (λ (a : Adapter Card D). All (IsAnswer kind.Forward 0 sessions) (out_of a)) (sym adapter) s.back;
      few_out = omega (arith, ap (λ (a : Adapter Card D). length (out_of a)) adapter, s.few_out);
      inbox = inbox s.inbox;
      few_in = few s.few_in;
      wide = record { cap = cap ∙ s.wide.cap; takes = ap (λ (l : LimitedCalls). l.limits) limits.0 ∙ s.wide.takes; sends = ap (λ (l : LimitedCalls). l.limits) limits.1 ∙ s.wide.sends };
      counted = s.counted ∙ ap (λ (a : Adapter Card D). (moved_of a).submitted) (sym adapter);
    },
    refl,
  )

  pub carries_too : (first : D) (stalled : ℕ) → Carries driver sessions first stalled mid → Carries driver sessions first stalled new
  carries_too first stalled c =
      let t = serves_too c.serves in
      record {
        serves = t.0;
        works = c.works;
        follows = subst (λ (p : QueuePair Card D). driver.follows first p.dev) (sym t.1) c.follows;
        later = subst (λ (p : QueuePair Card D). driver.stalls first ≤ driver.stalls p.dev) (sym t.1) c.later;
        stalls = subst (λ (p : QueuePair Card D). capped (driver.stalls first + stalled) ≤ driver.stalls p.dev) (sym t.1) c.stalls;
      }

-- ---- what came back is taken from the port

module _ {D : Type 0} (driver : Ghosts D Card) (sessions : List (List Transform)) (mid new : Route D) (adapter : new.adapter ≡ mid.adapter) (inbox : inbox_of new ≡ inbox_of mid) where
  same_way : on_way driver new ≡ on_way driver mid
  same_way =
      ap (λ (a : Adapter Card D). map entry_from (inside driver (pairs_of a) (out_of a)) ++ map entry_in (inbox_of new)) adapter
      ∙ ap (λ (l : List (Event Card)). map entry_from (inside driver (pairs_of mid.adapter) (out_of mid.adapter)) ++ map entry_in l) inbox

  pub moved_too : (first : D) (stalled : ℕ) (old : Route D) (moved : ℕ) → new.port.cap ≡ mid.port.cap → (new.port.takes ≡ mid.port.takes) × (new.port.sends ≡ mid.port.sends)
      → HasMoved driver sessions first stalled old mid moved → HasMoved driver sessions first stalled old new moved
  moved_too first stalled old moved cap limits h =
      let pairs : pairs_of new.adapter ≡ pairs_of mid.adapter = ap pairs_of adapter in
      record {
        carries = carries_too driver sessions mid new adapter cap limits (subst (All IsForFirst) (sym inbox)) (λ few. omega (arith, few, ap length inbox)) first (stalled + from_bool (moved == 0)) h.carries;
        falls = omega (arith, h.falls, ap length inbox, ap (steps_in driver) pairs, ap (λ (a : Adapter Card D). length (out_of a)) adapter);
        accepted = h.accepted;
        fewer = omega (arith, h.fewer, ap length inbox, ap ahead_in pairs);
        counts = ap (λ (a : Adapter Card D). (moved_of a).submitted) adapter ∙ h.counts;
      }

  -- and the slots stand for what is on its way
  pub stand_settled : (plan : Plan) (ps : List Numbered) (before ss : List Seat) (way : List (Entry Card)) → IsPermutation way (map entry_in (back_in mid) ++ on_way driver mid)
      → ((qs : List Numbered) (rest : List (Entry Card)) → StandFor plan qs before (map entry_in (back_in mid) ++ rest) → StandFor plan qs ss rest) → StandFor plan ps before way → StandFor plan ps ss (on_way driver new)
  stand_settled plan ps before ss way same settles b =
      subst (StandFor plan ps ss) (sym same_way) (settles ps (on_way driver mid) (stand_moved plan ps before way (map entry_in (back_in mid) ++ on_way driver mid) same b))

  pub way_fewer : (way : List (Entry Card)) → IsPermutation way (map entry_in (back_in mid) ++ on_way driver mid) → length (on_way driver new) ≤ length way
  way_fewer way same = omega (arith, ap length same_way, length_permutation way (map entry_in (back_in mid) ++ on_way driver mid) same, length-append (map entry_in (back_in mid)) (on_way driver mid))

-- ---- operations are put into the port

abbrev pub new_event : Op Card → Event Card
new_event op = event_of kind.New 0 op

entries_of_new : (ops : List (Op Card)) → map entry_in (map new_event ops) ≡ map entry_of ops
entries_of_new [] = refl
entries_of_new (op ∷ ops) = ap (λ (l : List (Entry Card)). entry_of op ∷ l) (entries_of_new ops)

module _ {D : Type 0} (driver : Ghosts D Card) (sessions : List (List Transform)) (old new : Route D) (ops : List (Op Card)) (adapter : new.adapter ≡ old.adapter) (inbox : inbox_of new ≡ inbox_of old ++ map new_event ops) where
  pub more_way : on_way driver new ≡ on_way driver old ++ map entry_of ops
  more_way =
      let others = map entry_from (inside driver (pairs_of old.adapter) (out_of old.adapter)) in
      ap (λ (a : Adapter Card D). map entry_from (inside driver (pairs_of a) (out_of a)) ++ map entry_in (inbox_of new)) adapter
      ∙ ap (λ (l : List (Event Card)). others ++ map entry_in l) inbox
      ∙ ap (λ (l : List (Entry Card)). others ++ l) (map-append entry_in (inbox_of old) (map new_event ops) ∙ ap (λ (l : List (Entry Card)). map entry_in (inbox_of old) ++ l) (entries_of_new ops))
      ∙ sym (append_assoc others (map entry_in (inbox_of old)) (map entry_of ops))

  pub more_inbox : length (inbox_of new) ≡ length (inbox_of old) + length ops
  more_inbox = omega (arith, ap length inbox, length-append (inbox_of old) (map new_event ops), length-map ops new_event)

  pub carries_more : (first : D) (stalled : ℕ) → new.port.cap ≡ old.port.cap → (new.port.takes ≡ old.port.takes) × (new.port.sends ≡ old.port.sends) → length (inbox_of old) < 32 → length ops ≤ 32
      → Carries driver sessions first stalled old → Carries driver sessions first stalled new
  carries_more first stalled cap limits less fits c =
      carries_too driver sessions old new adapter cap limits
      (λ all. subst (All IsForFirst) (sym inbox) (All-append IsForFirst (inbox_of old) (map new_event ops) all (All-map IsForFirst new_event ops (λ k d lt. refl))))
      (λ few. omega (arith, more_inbox, less, fits)) first stalled c
