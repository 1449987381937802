use Rattle.std.proofs.Common.{◌+◌, ℕ, sym, subst, ◌∙◌, arith}
use Rattle.packet_flow.specs.Forwarding.{IsForwarding}
use Rattle.packet_flow.proofs.Forwards.{few_put, fewer_turns, stalled_end}
use Rattle.packet_flow.proofs.Turning.{counted_few}
use Rattle.packet_flow.proofs.forwarding.run_all.Goals as goal

pub turn-requires-clause-forwarding : goal.turn-requires-clause-forwarding
turn-requires-clause-forwarding g c = let h = c.requires.forwarding in (h.0, h.1, c.loop-moved.stalled, h.2, c.loop-moved.invariant.forwarding h.0 h.1 h.2 h.3)

pub returns-in-Err-clause-over : goal.returns-in-Err-clause-over
returns-in-Err-clause-over g c b first big f = (c.loop-moved.stalled, c.in-Err.ensures.ends b first c.loop-moved.stalled big (c.loop-moved.invariant.forwarding b first big f))

pub overflow_add-stalled : goal.overflow_add-stalled
overflow_add-stalled g c =
    let h = c.requires.forwarding in
    let f = c.loop-moved.invariant.forwarding h.0 h.1 h.2 h.3 in
    let few = few_put g.D.Driver c.args.plan.now h.0 g.S.Source.tells g.K.Sink.tells h.1 c.loop-moved.stalled c.loop-moved.passage c.loop-moved.route _ _ f in
    omega (arith, few, f.balance, c.loop-moved.invariant.patience, counted_few c.in-Ok.moved c.from-stalled.result c.from-stalled.ensures)

pub overflow_add-submitted : goal.overflow_add-submitted
overflow_add-submitted g c =
    let h = c.requires.forwarding in
    let f = c.in-Ok.ensures.forwarding h.0 h.1 c.loop-moved.stalled h.2 (c.loop-moved.invariant.forwarding h.0 h.1 h.2 h.3) in
    let few = few_put g.D.Driver c.args.plan.now h.0 g.S.Source.tells g.K.Sink.tells h.1 _ c.turn.new.passage c.turn.new.route _ _ f in
    omega (arith, few, f.balance, c.submitted.ensures)

pub overflow_mul-submitted : goal.overflow_mul-submitted
overflow_mul-submitted g c =
    let h = c.requires.forwarding in
    let f = c.in-Ok.ensures.forwarding h.0 h.1 c.loop-moved.stalled h.2 (c.loop-moved.invariant.forwarding h.0 h.1 h.2 h.3) in
    let few = few_put g.D.Driver c.args.plan.now h.0 g.S.Source.tells g.K.Sink.tells h.1 _ c.turn.new.passage c.turn.new.route _ _ f in
    omega (arith, few, f.balance, c.submitted.ensures)

pub returns-then-stalled-submitted-clause-over : goal.returns-then-stalled-submitted-clause-over
returns-then-stalled-submitted-clause-over g c b first big f0 =
    let p = c.turn.new.passage in
    let r = c.turn.new.route in
    let left = g.S.Source.left c.turn.new.src in
    let wrote = g.K.Sink.written c.turn.new.out in
    let many = c.loop-moved.stalled + c.from-stalled.result in
    let f = c.in-Ok.ensures.forwarding b first c.loop-moved.stalled big (c.loop-moved.invariant.forwarding b first big f0) in
    let f' : IsForwarding g.D.Driver c.args.plan.now b g.S.Source.tells g.K.Sink.tells first many p r left wrote =
    subst (λ (n : ℕ). IsForwarding g.D.Driver c.args.plan.now b g.S.Source.tells g.K.Sink.tells first (c.loop-moved.stalled + n) p r left wrote) (sym c.from-stalled.ensures) f in
    (many, stalled_end g.D.Driver c.args.plan.now b g.S.Source.tells g.K.Sink.tells first many p r left wrote f' (omega (arith, c.if-stalled-submitted.true, c.submitted.ensures)))

pub loop-moved-smaller : goal.loop-moved-smaller
loop-moved-smaller g c =
    let h = c.requires.forwarding in
    let f = c.in-Ok.ensures.forwarding h.0 h.1 c.loop-moved.stalled h.2 (c.loop-moved.invariant.forwarding h.0 h.1 h.2 h.3) in
    let few = few_put g.D.Driver c.args.plan.now h.0 g.S.Source.tells g.K.Sink.tells h.1 _ c.turn.new.passage c.turn.new.route _ _ f in
    fewer_turns _ _ c.loop-moved.stalled c.in-Ok.moved c.from-stalled.result c.submitted.result c.from-stalled.ensures (omega (arith, few, f.balance, c.submitted.ensures)) c.in-Ok.ensures.steps
    (omega (arith, c.if-stalled-submitted.false))

pub loop-moved-preserved : goal.loop-moved-preserved
loop-moved-preserved g c =
    let inv = c.loop-moved.invariant in
    record {
      forwarding = λ b first big f0.
          subst (λ (n : ℕ). IsForwarding g.D.Driver c.args.plan.now b g.S.Source.tells g.K.Sink.tells first (c.loop-moved.stalled + n) c.turn.new.passage c.turn.new.route (g.S.Source.left c.turn.new.src) (g.K.Sink.written c.turn.new.out))
          (sym c.from-stalled.ensures) (c.in-Ok.ensures.forwarding b first c.loop-moved.stalled big (inv.forwarding b first big f0));
      patience = omega (arith, c.if-stalled-submitted.false, c.submitted.ensures);
      read_later = omega (arith, inv.read_later, c.turn.ensures.read_later);
      write_later = omega (arith, inv.write_later, c.turn.ensures.write_later);
      write_steady = λ steady. c.turn.ensures.write_steady steady (λ is. cc) ∙ inv.write_steady steady;
    }
