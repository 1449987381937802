use Rattle.std.proofs.Common.{◌≡◌, ◌++◌, Bool, List, length, map, ℕ, None, refl, sym, subst, ◌∙◌, arith}
use Rattle.crypto_op.specs.Op.{entry_of}
use Rattle.capture_io.specs.declared.header.ReadStop.{ReadStop}
use Rattle.packet_flow.specs.declared.flow.FlowEnd.TheVariants as flow_end
use Rattle.packet_flow.specs.Routes.{on_way}
use Rattle.packet_flow.specs.Seats.{AllIn}
use Rattle.packet_flow.specs.Writing.{Appends, CutsNext, HasWritten}
use Rattle.packet_flow.proofs.Begun.{few_answers, said_by}
use Rattle.packet_flow.proofs.Forwards.{cut_end, ended_now, some_way, stand_back, stand_way, steps_now, went_on, whole_end}
use Rattle.packet_flow.proofs.Turning.{if_err_at, no_fault, no_items, some_items}
use Rattle.packet_flow.proofs.forwarding.turn.Goals as goal

pub unreachable-requires : goal.unreachable-requires
unreachable-requires g c =
    let h = c.requires.forwarding in
    let f = c.in_ok-feed.ensures.forwarding h.0 h.1 h.2 h.3 h.4 in
    let none = no_items (length c.feed.new.passage.slots) c.feed.new.passage.slots c.is_empty.result refl c.is_empty.ensures c.if-is_empty.true in
    let end = ended_now g.D.Driver c.args.plan.now h.0 g.S.Source.tells g.K.Sink.tells h.1 h.2 c.feed.new.passage c.feed.new.route _ _ f c.in_ok-feed.ensures.fed none in
    let no : None ≡ _ = sym c.in-None.is ∙ c.stop.ensures ∙ end.2 in
    cc

pub returns-then-is_empty-clause-ends : goal.returns-then-is_empty-clause-ends
returns-then-is_empty-clause-ends g c b first stalled big f0 =
    let f = c.in_ok-feed.ensures.forwarding b first stalled big f0 in
    whole_end g.D.Driver c.args.plan.now b g.S.Source.tells g.K.Sink.tells first stalled c.feed.new.passage c.feed.new.route _ _ f c.in_ok-feed.ensures.fed
    (no_items (length c.feed.new.passage.slots) c.feed.new.passage.slots c.is_empty.result refl c.is_empty.ensures c.if-is_empty.true) c.in-Some.stop (sym c.stop.ensures ∙ c.in-Some.is)

pub returns-then-is_empty-clause-ended : goal.returns-then-is_empty-clause-ended
returns-then-is_empty-clause-ended g c told is =
    let h = c.requires.forwarding in
    let u = (c.in_ok-feed.ensures.forwarding h.0 h.1 h.2 h.3 h.4).underway in
    let same : c.in-Some.stop ≡ ReadStop.End = cc in
    (u.stopped c.in-Some.stop (sym c.stop.ensures ∙ c.in-Some.is)).1 told same

pub returns-then-is_empty-clause-read_cause : goal.returns-then-is_empty-clause-read_cause
returns-then-is_empty-clause-read_cause g c is =
    let h = c.requires.forwarding in
    let u = (c.in_ok-feed.ensures.forwarding h.0 h.1 h.2 h.3 h.4).underway in
    let same : c.in-Some.stop ≡ ReadStop.Fault = cc in
    absurd (no_fault g.S.Source.tells (g.S.Source.left c.feed.new.src) c.in-Some.stop (u.stopped c.in-Some.stop (sym c.stop.ensures ∙ c.in-Some.is)) same)

pub carry-moved-requires-clause-carries : goal.carry-moved-requires-clause-carries
carry-moved-requires-clause-carries g c = let h = c.requires.forwarding in (h.1, h.2, (c.in_ok-feed.ensures.forwarding h.0 h.1 h.2 h.3 h.4).carries)

pub carry-moved-requires-clause-taken : goal.carry-moved-requires-clause-taken
carry-moved-requires-clause-taken g c = let h = c.requires.forwarding in (c.in_ok-feed.ensures.forwarding h.0 h.1 h.2 h.3 h.4).none_back

pub carry-moved-requires-clause-some : goal.carry-moved-requires-clause-some
carry-moved-requires-clause-some g c =
    let h = c.requires.forwarding in
    let f = c.in_ok-feed.ensures.forwarding h.0 h.1 h.2 h.3 h.4 in
    some_way g.D.Driver c.args.plan.now h.0 g.S.Source.tells g.K.Sink.tells h.1 h.2 c.feed.new.passage c.feed.new.route _ _ f
    (some_items (length c.feed.new.passage.slots) c.feed.new.passage.slots c.is_empty.result refl c.is_empty.ensures c.if-is_empty.false)

pub carry-moved-requires-clause-stand : goal.carry-moved-requires-clause-stand
carry-moved-requires-clause-stand g c =
    let h = c.requires.forwarding in
    let f = c.in_ok-feed.ensures.forwarding h.0 h.1 h.2 h.3 h.4 in
    (f.underway.waiting, stand_way g.D.Driver c.args.plan.now h.0 g.S.Source.tells g.K.Sink.tells h.1 h.2 c.feed.new.passage c.feed.new.route _ _ f)

pub write_ready-requires-clause-few : goal.write_ready-requires-clause-few
write_ready-requires-clause-few g c =
    let h = c.requires.forwarding in
    let f = c.in_ok-feed.ensures.forwarding h.0 h.1 h.2 h.3 h.4 in
    let stand = c.carry-moved.ensures.stand f.underway.waiting (stand_way g.D.Driver c.args.plan.now h.0 g.S.Source.tells g.K.Sink.tells h.1 h.2 c.feed.new.passage c.feed.new.route _ _ f) in
    few_answers c.args.plan.now h.0 g.S.Source.tells g.K.Sink.tells c.feed.new.passage _ f.underway c.carry-moved.new.slots _ stand

pub write_ready-requires-clause-order : goal.write_ready-requires-clause-order
write_ready-requires-clause-order g c =
    let h = c.requires.forwarding in
    let f = c.in_ok-feed.ensures.forwarding h.0 h.1 h.2 h.3 h.4 in
    c.carry-moved.ensures.order (subst (λ (x : Bool). AllIn x c.feed.new.passage.slots) h.3 f.underway.order)

pub returns-in_err-write_ready-clause-ends : goal.returns-in_err-write_ready-clause-ends
returns-in_err-write_ready-clause-ends g c b first stalled big f0 =
    let p = c.feed.new.passage in
    let r = c.feed.new.route in
    let now = c.carry-moved.new.self in
    let plan = c.args.plan.now in
    let f = c.in_ok-feed.ensures.forwarding b first stalled big f0 in
    let ps = f.underway.waiting in
    let left = g.S.Source.left c.feed.new.src in
    let wrote = g.K.Sink.written c.feed.new.out in
    let new = g.K.Sink.written c.write_ready.new.out in
    let stand = c.carry-moved.ensures.stand ps (stand_way g.D.Driver plan b g.S.Source.tells g.K.Sink.tells first stalled p r left wrote f) in
    let es = on_way g.D.Driver now ++ map entry_of p.burst.ops in
    let Says : Bool → List ℕ → Type 0 = λ x old. HasWritten plan ps es c.write_ready.new.self p.counts c.write_ready.new.counts (CutsNext plan x g.K.Sink.tells old new) in
    let w = said_by Says b.big c.args.header.now.big wrote wrote big refl
    (c.in_err-write_ready.ensures.cut plan ps es (stand_back g.D.Driver plan b g.S.Source.tells g.K.Sink.tells first stalled p r left wrote f ps c.carry-moved.new.slots (on_way g.D.Driver now) stand)) in
    if_err_at c.from_residual-in_err-write_ready.result flow_end.WriteFault _ c.from_residual-in_err-write_ready.ensures.1
    (cut_end g.D.Driver plan b g.S.Source.tells g.K.Sink.tells first stalled p r left wrote f now c.carry-moved.result (c.carry-moved.ensures.moves first stalled f.carries) c.carry-moved.ensures.fewer
    new c.write_ready.new.self c.write_ready.new.counts w)

pub returns-clause-forwarding : goal.returns-clause-forwarding
returns-clause-forwarding g c b first stalled big f0 =
    let p = c.feed.new.passage in
    let r = c.feed.new.route in
    let now = c.carry-moved.new.self in
    let plan = c.args.plan.now in
    let f = c.in_ok-feed.ensures.forwarding b first stalled big f0 in
    let ps = f.underway.waiting in
    let left = g.S.Source.left c.feed.new.src in
    let wrote = g.K.Sink.written c.feed.new.out in
    let new = g.K.Sink.written c.write_ready.new.out in
    let stand = c.carry-moved.ensures.stand ps (stand_way g.D.Driver plan b g.S.Source.tells g.K.Sink.tells first stalled p r left wrote f) in
    let es = on_way g.D.Driver now ++ map entry_of p.burst.ops in
    let Says : Bool → List ℕ → Type 0 = λ x old. HasWritten plan ps es c.write_ready.new.self p.counts c.write_ready.new.counts (Appends plan x g.K.Sink.tells old new) in
    let w = said_by Says b.big c.args.header.now.big wrote wrote big refl
    (c.in_ok-write_ready.ensures.written plan ps es (stand_back g.D.Driver plan b g.S.Source.tells g.K.Sink.tells first stalled p r left wrote f ps c.carry-moved.new.slots (on_way g.D.Driver now) stand)) in
    went_on g.D.Driver plan b g.S.Source.tells g.K.Sink.tells first stalled p r left wrote f now c.carry-moved.result (c.carry-moved.ensures.moves first stalled f.carries) c.carry-moved.ensures.fewer
    new c.write_ready.new.self c.write_ready.new.counts w c.carry-moved.ensures.taken c.in_ok-write_ready.ensures.waits
    (subst (λ (x : Bool). AllIn x c.write_ready.new.self) (sym big) c.write_ready.ensures.order)

pub returns-clause-steps : goal.returns-clause-steps
returns-clause-steps g c =
    let h = c.requires.forwarding in
    let f = c.in_ok-feed.ensures.forwarding h.0 h.1 h.2 h.3 h.4 in
    let falls = steps_now g.D.Driver c.args.plan.now h.0 g.S.Source.tells g.K.Sink.tells h.1 h.2 c.feed.new.passage c.feed.new.route _ _ f c.carry-moved.new.self c.carry-moved.result
    (c.carry-moved.ensures.moves h.1 h.2 f.carries) c.carry-moved.ensures.fewer (g.K.Sink.written c.write_ready.new.out) c.write_ready.new.self c.write_ready.new.counts in
    omega (arith, falls, c.in_ok-feed.ensures.steps)
