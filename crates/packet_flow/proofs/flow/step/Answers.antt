use Rattle.std.proofs.Common.{◌≡◌, ◌++◌, ℕ, Bool, List, length, map, Err, refl, ap, sym, subst, ◌∙◌, arith}
use Rattle.std.specs.List.{All}
use Rattle.std.proofs.lemmas.List.{nil_from_length}
use Rattle.std.proofs.lemmas.List.Elements.{All-drop}
use Rattle.crypto_op.specs.declared.spec.Card.{Card}
use Rattle.crypto_op.specs.declared.op.Op.{Op}
use Rattle.crypto_op.specs.Burst.{Burst}
use Rattle.crypto_op.specs.Op.{IsFresh, entry_of}
use Rattle.dev_core.specs.Burst.{front_log, log_entry}
use Rattle.capture_io.specs.declared.header.ReadStop.{ReadStop}
use Rattle.packet_flow.specs.Entries.{entries_from}
use Rattle.packet_flow.specs.declared.flow.FlowEnd.TheVariants as flow_end
use Rattle.packet_flow.specs.Passage.{outside}
use Rattle.packet_flow.specs.Seats.{AllIn}
use Rattle.packet_flow.specs.Writing.{Appends, CutsNext, HasWritten}
use Rattle.packet_flow.proofs.Answers.{counts_first, counts_now, cut_now, split_now, within, writes_now}
use Rattle.packet_flow.proofs.Begun.{few_answers, said_by}
use Rattle.packet_flow.proofs.Ends.{begun_first, ends_cut, ends_whole, flows_behind}
use Rattle.packet_flow.proofs.Turning.{enqueued_few, few_taken, few_held, queued_on, device_on, few_on, moved_by, some_moves, all_read, no_items, some_items, no_fault, if_err_at, not_err_at, at_rest, offers_on, took_on}
use Rattle.packet_flow.proofs.flow.step.Goals.{else-len-eq0-via-then-len-eq0+else-is_empty, else-len-eq0-via-else-len-eq0}
use Rattle.packet_flow.proofs.flow.step.Goals as goal

pub returns-in_err-fill-clause-ends : goal.returns-in_err-fill-clause-ends
returns-in_err-fill-clause-ends g c b past first big at ran u =
    if_err_at c.from_residual.result c.in_err-fill.field-0.0 _ c.from_residual.ensures.1 (past, ran, c.in_err-fill.ensures.ends b _ big refl refl u)

pub returns-in_err-fill-clause-never : goal.returns-in_err-fill-clause-never
returns-in_err-fill-clause-never g c =
    not_err_at c.from_residual.result c.in_err-fill.field-0.0 flow_end.Stalled c.from_residual.ensures.1 (λ is. c.in_err-fill.ensures.never (ap Err is))

pub returns-then-is_empty-clause-ends : goal.returns-then-is_empty-clause-ends
returns-then-is_empty-clause-ends g c b past first big at ran u0 =
    let p = c.fill.new.passage in
    let u = c.in_ok-fill.ensures.underway b _ big refl refl u0 in
    let none : length p.burst.ops ≡ 0 = omega (arith, c.len.ensures, c.if-len-eq0.true) in (
      past,
      ran,
      ends_whole c.args.plan.now b g.S.Source.tells g.K.Sink.tells p
          (outside (g.S.Source.left c.fill.new.src) (g.K.Sink.written c.fill.new.out) (g.D.Driver.held c.args.dev.now) (g.D.Driver.stats c.args.dev.now) (g.D.Driver.log c.args.dev.now) past)
          c.in-Some.stop u (sym c.stop.ensures ∙ c.in-Some.is) (all_read (length p.burst.ops) p.window.waiting p.window.stop c.in_ok-fill.ensures.full none)
          (nil_from_length p.burst.ops none) (no_items (length p.slots) p.slots c.is_empty.result refl c.is_empty.ensures c.if-is_empty.true),
    )

pub returns-then-is_empty-clause-ended : goal.returns-then-is_empty-clause-ended
returns-then-is_empty-clause-ended g c told is =
    let u = c.in_ok-fill.ensures.underway c.requires.underway.0 _ c.requires.underway.2 refl refl c.requires.underway.4 in
    let same : c.in-Some.stop ≡ ReadStop.End = cc in
    (u.stopped c.in-Some.stop (sym c.stop.ensures ∙ c.in-Some.is)).1 told same

pub returns-then-is_empty-clause-read_cause : goal.returns-then-is_empty-clause-read_cause
returns-then-is_empty-clause-read_cause g c is =
    let u = c.in_ok-fill.ensures.underway c.requires.underway.0 _ c.requires.underway.2 refl refl c.requires.underway.4 in
    let same : c.in-Some.stop ≡ ReadStop.Fault = cc in
    absurd (no_fault g.S.Source.tells (g.S.Source.left c.fill.new.src) c.in-Some.stop (u.stopped c.in-Some.stop (sym c.stop.ensures ∙ c.in-Some.is)) same)

pub turn-accepted-requires-clause-fresh : goal.turn-accepted-requires-clause-fresh
turn-accepted-requires-clause-fresh g c = (c.in_ok-fill.ensures.underway c.requires.underway.0 _ c.requires.underway.2 refl refl c.requires.underway.4).fresh

pub turn-accepted-requires-clause-empty : goal.turn-accepted-requires-clause-empty
turn-accepted-requires-clause-empty g c = (c.in_ok-fill.ensures.underway c.requires.underway.0 _ c.requires.underway.2 refl refl c.requires.underway.4).back

pub turn-accepted-requires-clause-size : goal.turn-accepted-requires-clause-size
turn-accepted-requires-clause-size g c = let u = c.in_ok-fill.ensures.underway c.requires.underway.0 _ c.requires.underway.2 refl refl c.requires.underway.4 in omega (arith, u.sizes.1, u.sizes.2)

pub turn-accepted-requires-clause-few : goal.turn-accepted-requires-clause-few
turn-accepted-requires-clause-few g c =
    let u = c.in_ok-fill.ensures.underway c.requires.underway.0 _ c.requires.underway.2 refl refl c.requires.underway.4 in
    omega (arith, few_held c.args.plan.now c.requires.underway.0 g.S.Source.tells g.K.Sink.tells c.fill.new.passage _ u)

pub turn-accepted-requires-clause-counted : goal.turn-accepted-requires-clause-counted
turn-accepted-requires-clause-counted g c =
    let u = c.in_ok-fill.ensures.underway c.requires.underway.0 _ c.requires.underway.2 refl refl c.requires.underway.4 in
    omega (arith, enqueued_few c.args.plan.now c.requires.underway.0 g.S.Source.tells g.K.Sink.tells c.fill.new.passage _ u)

pub turn-accepted-requires-clause-stand : goal.turn-accepted-requires-clause-stand
turn-accepted-requires-clause-stand g c =
    let u = c.in_ok-fill.ensures.underway c.requires.underway.0 _ c.requires.underway.2 refl refl c.requires.underway.4 in
    (u.waiting, u.stand)

pub write_ready-requires : goal.write_ready-requires
write_ready-requires g c =
    let u = c.in_ok-fill.ensures.underway c.requires.underway.0 _ c.requires.underway.2 refl refl c.requires.underway.4 in
    let stand = c.turn-accepted.ensures.stand u.waiting u.stand in
    record {
      few = few_answers c.args.plan.now c.requires.underway.0 g.S.Source.tells g.K.Sink.tells c.fill.new.passage _ u c.turn-accepted.new.slots _ stand;
      order = c.turn-accepted.ensures.order (subst (λ (x : Bool). AllIn x c.fill.new.passage.slots) c.requires.underway.2 u.order);
    }

pub returns-in_err-write_ready-clause-ends : goal.returns-in_err-write_ready-clause-ends
returns-in_err-write_ready-clause-ends g c b past first big at ran u0 =
    let p = c.fill.new.passage in
    let n = c.turn-accepted.result.0 in
    let plan = c.args.plan.now in
    let u = c.in_ok-fill.ensures.underway b _ big refl refl u0 in
    let stand = c.turn-accepted.ensures.stand u.waiting u.stand in
    let now = c.turn-accepted.ensures.calls first past ran in
    let o0 = outside (g.S.Source.left c.fill.new.src) (g.K.Sink.written c.fill.new.out) (g.D.Driver.held c.args.dev.now) (g.D.Driver.stats c.args.dev.now) (g.D.Driver.log c.args.dev.now) past in
    let es = g.D.Driver.held c.turn-accepted.new.dev ++ map entry_of c.turn-accepted.new.burst.ops in
    let wrote = g.K.Sink.written c.fill.new.out in
    let new = g.K.Sink.written c.write_ready.new.out in
    let Says : Bool → List ℕ → Type 0 = λ x old. HasWritten plan u.waiting es c.write_ready.new.self p.counts c.write_ready.new.counts (CutsNext plan x g.K.Sink.tells old new) in
    let h = said_by Says b.big c.args.header.now.big wrote wrote big refl (c.in_err-write_ready.ensures.cut plan u.waiting es stand) in
    let says = CutsNext plan b.big g.K.Sink.tells wrote new in
    let cut = split_now plan u.used u.done u.waiting u.split es c.write_ready.new.self p.counts c.write_ready.new.counts says h in
    if_err_at c.from_residual-in_err-write_ready.result flow_end.WriteFault _ c.from_residual-in_err-write_ready.ensures.1 (
      now.0,
      now.1,
      ends_cut plan b g.S.Source.tells g.K.Sink.tells
          (outside (g.S.Source.left c.fill.new.src) new (g.D.Driver.held c.turn-accepted.new.dev) (g.D.Driver.stats c.turn-accepted.new.dev) (g.D.Driver.log c.turn-accepted.new.dev) now.0)
          c.write_ready.new.counts u.used (u.taken ++ front_log n p.burst) (map log_entry c.turn-accepted.new.burst.ops) (length (u.done ++ h.gone))
          (λ told. begun_first b.big b.bytes u.used p.window.waiting p.window.place (g.S.Source.left c.fill.new.src) p.window.stop (u.reads told))
          (queued_on u.taken (entries_from plan 0 u.used) n p.burst c.turn-accepted.new.burst c.turn-accepted.ensures.rest u.queued)
          (device_on b u.taken n p.burst _ _ _ _ c.turn-accepted.ensures.within u.device c.turn-accepted.ensures.enqueued c.turn-accepted.ensures.log)
          (took_on plan b g.S.Source.tells g.K.Sink.tells c.args.passage.now p o0 u at c.in_ok-fill.ensures.filled n now.0 c.turn-accepted.ensures.within now.3)
          (flows_behind plan b g.S.Source.tells g.K.Sink.tells p o0 u now.0 (offers_on plan b g.S.Source.tells g.K.Sink.tells c.args.passage.now p o0 u at c.in_ok-fill.ensures.filled n now.0 c.turn-accepted.ensures.within now.3))
          (within plan u.used (u.done ++ h.gone) h.left cut)
          (counts_first plan u.used (u.done ++ h.gone) h.left cut c.write_ready.new.counts (counts_now plan u.used u.done u.waiting u.split es c.write_ready.new.self p.counts c.write_ready.new.counts says h u.counts))
          (cut_now plan u.used u.done u.waiting u.split b.big g.K.Sink.tells b.base wrote new h.gone h.left cut u.writes h.says),
    )

pub overflow_add-result : goal.overflow_add-result
overflow_add-result g c =
    let u = c.in_ok-fill.ensures.underway c.requires.underway.0 _ c.requires.underway.2 refl refl c.requires.underway.4 in
    omega (arith, few_held c.args.plan.now c.requires.underway.0 g.S.Source.tells g.K.Sink.tells c.fill.new.passage _ u, c.turn-accepted.ensures.within, c.turn-accepted.ensures.count)

pub returns-clause-underway : goal.returns-clause-underway
returns-clause-underway g c b past first big at ran u0 =
    let p = c.fill.new.passage in
    let n = c.turn-accepted.result.0 in
    let plan = c.args.plan.now in
    let u = c.in_ok-fill.ensures.underway b _ big refl refl u0 in
    let stand = c.turn-accepted.ensures.stand u.waiting u.stand in
    let es = g.D.Driver.held c.turn-accepted.new.dev ++ map entry_of c.turn-accepted.new.burst.ops in
    let wrote = g.K.Sink.written c.fill.new.out in
    let new = g.K.Sink.written c.write_ready.new.out in
    let Says : Bool → List ℕ → Type 0 = λ x old. HasWritten plan u.waiting es c.write_ready.new.self p.counts c.write_ready.new.counts (Appends plan x g.K.Sink.tells old new) in
    let h = said_by Says b.big c.args.header.now.big wrote wrote big refl (c.in_ok-write_ready.ensures.written plan u.waiting es stand) in
    let says = Appends plan b.big g.K.Sink.tells wrote new in
    let now = c.turn-accepted.ensures.calls first past ran in
    let o0 = outside (g.S.Source.left c.fill.new.src) (g.K.Sink.written c.fill.new.out) (g.D.Driver.held c.args.dev.now) (g.D.Driver.stats c.args.dev.now) (g.D.Driver.log c.args.dev.now) past in
    let filled = c.in_ok-fill.ensures.filled in (
      now.0,
      at_rest plan b g.S.Source.tells g.K.Sink.tells c.args.passage.now p o0 u at filled n c.turn-accepted.new.burst now.0 c.turn-accepted.ensures.rest now.2 now.3,
      now.1,
      record {
        used = u.used;
        done = u.done ++ h.gone;
        waiting = h.left;
        taken = u.taken ++ front_log n p.burst;
        split = split_now plan u.used u.done u.waiting u.split es c.write_ready.new.self p.counts c.write_ready.new.counts says h;
        reads = u.reads;
        writes = writes_now plan u.used u.done u.waiting u.split b.big g.K.Sink.tells b.base wrote new h.gone h.left u.writes h.says;
        stand = h.stand;
        counts = counts_now plan u.used u.done u.waiting u.split es c.write_ready.new.self p.counts c.write_ready.new.counts says h u.counts;
        made = u.made;
        queued = queued_on u.taken (entries_from plan 0 u.used) n p.burst c.turn-accepted.new.burst c.turn-accepted.ensures.rest u.queued;
        device = device_on b u.taken n p.burst _ _ _ _ c.turn-accepted.ensures.within u.device c.turn-accepted.ensures.enqueued c.turn-accepted.ensures.log;
        few = few_on u.taken n c.turn-accepted.result.1 (length (g.D.Driver.held c.args.dev.now)) (length (g.D.Driver.held c.turn-accepted.new.dev)) p.burst c.turn-accepted.ensures.within u.few c.turn-accepted.ensures.count;
        fresh = subst (λ (x : Burst (Op Card)). All IsFresh x.ops) (sym c.turn-accepted.ensures.rest) (All-drop IsFresh n p.burst.ops u.fresh);
        front = c.in_ok-write_ready.ensures.waits;
        order = subst (λ (x : Bool). AllIn x c.write_ready.new.self) (sym big) c.write_ready.ensures.order;
        stopped = u.stopped;
        next = u.next;
        range = u.range;
        back = ap (λ (x : Burst (Op Card)). x.ops) c.turn-accepted.ensures.emptied ∙ u.back;
        sizes = (ap (λ (x : Burst (Op Card)). x.cap) c.turn-accepted.ensures.rest ∙ u.sizes.0, ap (λ (x : Burst (Op Card)). x.cap) c.turn-accepted.ensures.emptied ∙ u.sizes.1, u.sizes.2);
        took = took_on plan b g.S.Source.tells g.K.Sink.tells c.args.passage.now p o0 u at filled n now.0 c.turn-accepted.ensures.within now.3;
        offers = offers_on plan b g.S.Source.tells g.K.Sink.tells c.args.passage.now p o0 u at filled n now.0 c.turn-accepted.ensures.within now.3;
      },
    )

pub returns-clause-moved : goal.returns-clause-moved
returns-clause-moved g c =
    let u = c.in_ok-fill.ensures.underway c.requires.underway.0 _ c.requires.underway.2 refl refl c.requires.underway.4 in
    moved_by c.turn-accepted.result.0 c.turn-accepted.result.1 (length (g.D.Driver.held c.args.dev.now)) (length (g.D.Driver.held c.turn-accepted.new.dev)) (length u.taken) (length c.fill.new.passage.burst.ops)
    (g.D.Driver.stats c.args.dev.now).enqueued (g.D.Driver.stats c.turn-accepted.new.dev).enqueued c.turn-accepted.ensures.within
    (few_taken c.args.plan.now c.requires.underway.0 g.S.Source.tells g.K.Sink.tells c.fill.new.passage _ u) c.turn-accepted.ensures.count u.device.enqueued_is c.turn-accepted.ensures.enqueued

pub returns-clause-cause : goal.returns-clause-cause
returns-clause-cause g c none =
    let p = c.fill.new.passage in
    let u = c.in_ok-fill.ensures.underway c.requires.underway.0 _ c.requires.underway.2 refl refl c.requires.underway.4 in
    c.turn-accepted.ensures.cause none (elim c.else-len-eq0.branch [
      | else-len-eq0-via-then-len-eq0+else-is_empty w ↦ some_moves entry_of c.args.plan.now u.waiting p.slots (g.D.Driver.held c.args.dev.now) p.burst.ops u.front
          (some_items (length p.slots) p.slots w.is_empty.result refl w.is_empty.ensures w.if-is_empty.false) u.stand
      | else-len-eq0-via-else-len-eq0 w ↦ omega (arith, c.len.ensures, w.if-len-eq0.false)
    ])
