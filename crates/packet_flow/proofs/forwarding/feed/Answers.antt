use Rattle.std.proofs.Common.{Err, length, ap, refl, arith}
use Rattle.packet_flow.specs.Forwarding.{beyond}
use Rattle.packet_flow.specs.Routes.{on_way}
use Rattle.packet_flow.proofs.Forwards.{fed_now, few_put, is_fed, new_burst, over_now, same_steps}
use Rattle.packet_flow.proofs.Turning.{if_err_at}
use Rattle.packet_flow.specs.declared.route.Route.{Route}
use Rattle.packet_flow.proofs.forwarding.feed.Goals as goal

pub returns-in_err-fill-clause-ends : goal.returns-in_err-fill-clause-ends
returns-in_err-fill-clause-ends g c b first stalled big f =
    let plan = c.args.plan.now in
    let r = c.args.route.now in
    let left = g.S.Source.left c.args.src.now in
    let wrote = g.K.Sink.written c.args.out.now in
    if_err_at c.from_residual.result c.in_err-fill.field-0.0 _ c.from_residual.ensures.1
    (over_now g.D.Driver plan b g.S.Source.tells g.K.Sink.tells first stalled c.in_err-fill.field-0.0 c.fill.new.passage.counts r (g.S.Source.left c.fill.new.src) (g.K.Sink.written c.fill.new.out)
    (on_way g.D.Driver r) c.args.passage.now.made f.past f.carries (c.in_err-fill.ensures.ends b (beyond left wrote (on_way g.D.Driver r) c.args.passage.now.made f.past) big refl refl f.underway)
    (few_put g.D.Driver plan b g.S.Source.tells g.K.Sink.tells first stalled c.args.passage.now r left wrote f) f.balance (λ whole. absurd (c.in_err-fill.ensures.early whole))
    (λ is. c.in_err-fill.ensures.never (ap Err is)))

pub put_all-requires-clause-fresh : goal.put_all-requires-clause-fresh
put_all-requires-clause-fresh g c = let h = c.requires.forwarding in (c.in_ok-fill.ensures.underway h.0 _ h.3 refl refl h.4.underway).fresh

pub put_all-requires-clause-room : goal.put_all-requires-clause-room
put_all-requires-clause-room g c =
    let h = c.requires.forwarding in
    let u = c.in_ok-fill.ensures.underway h.0 _ h.3 refl refl h.4.underway in
    let new = new_burst g.D.Driver c.args.plan.now h.0 g.S.Source.tells g.K.Sink.tells h.1 h.2 c.args.passage.now c.fill.new.passage c.args.route.now _ _ _ _ h.4 u c.in_ok-fill.ensures.filled in
    omega (arith, new.0, h.4.carries.serves.wide.cap, c.if-waiting-ge-BURST.false, c.waiting.ensures, ap length h.4.none_back)

pub returns-clause-forwarding : goal.returns-clause-forwarding
returns-clause-forwarding g c b first stalled big f =
    let r = c.args.route.now in
    let u = c.in_ok-fill.ensures.underway b _ big refl refl f.underway in
    let put = c.put_all.ensures in
    let new : Route g.row.D.Denot = record { adapter = r.adapter; port = c.put_all.new.port } in
    fed_now g.D.Driver c.args.plan.now b g.S.Source.tells g.K.Sink.tells first stalled c.args.passage.now c.fill.new.passage r _ _ _ _ f u c.in_ok-fill.ensures.filled c.put_all.new.burst new
    put.emptied refl put.inbox (omega (arith, c.if-waiting-ge-BURST.false, c.waiting.ensures)) put.sent put.cap put.limits

pub returns-clause-fed : goal.returns-clause-fed
returns-clause-fed g c =
    let h = c.requires.forwarding in
    let r = c.args.route.now in
    let u = c.in_ok-fill.ensures.underway h.0 _ h.3 refl refl h.4.underway in
    let put = c.put_all.ensures in
    let new : Route g.row.D.Denot = record { adapter = r.adapter; port = c.put_all.new.port } in
    is_fed g.D.Driver c.args.plan.now h.0 g.S.Source.tells g.K.Sink.tells h.1 h.2 c.args.passage.now c.fill.new.passage r _ _ _ _ h.4 u c.in_ok-fill.ensures.filled c.put_all.new.burst new
    put.emptied refl put.inbox (omega (arith, c.if-waiting-ge-BURST.false, c.waiting.ensures))

pub returns-clause-steps : goal.returns-clause-steps
returns-clause-steps g c =
    let h = c.requires.forwarding in
    let r = c.args.route.now in
    let u = c.in_ok-fill.ensures.underway h.0 _ h.3 refl refl h.4.underway in
    let put = c.put_all.ensures in
    let new : Route g.row.D.Denot = record { adapter = r.adapter; port = c.put_all.new.port } in
    same_steps g.D.Driver c.args.plan.now h.0 g.S.Source.tells g.K.Sink.tells h.1 h.2 c.args.passage.now c.fill.new.passage r _ _ _ _ h.4 u c.in_ok-fill.ensures.filled c.put_all.new.burst new
    put.emptied refl put.inbox (omega (arith, c.if-waiting-ge-BURST.false, c.waiting.ensures))
