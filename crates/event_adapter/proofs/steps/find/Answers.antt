use Rattle.std.proofs.Common.{sym, arith}
use Rattle.event_adapter.proofs.Deal.{known_at, none_more}
use Rattle.event_adapter.proofs.steps.find.Goals as goal

pub returns-then-index-id-clause-known : goal.returns-then-index-id-clause-known
returns-then-index-id-clause-known g c =
    let ps = c.args.pairs.now.items in
    sym (known_at ps c.args.id c.loop-i.i c.index.result.now (omega (arith, c.loop-i-test.true, c.args.pairs.now.ok.0)) c.index.ensures (omega (arith, c.if-index-id.true)))

pub loop-i-preserved : goal.loop-i-preserved
loop-i-preserved g c =
    let ps = c.args.pairs.now.items in
    record { none = none_more ps c.args.id c.loop-i.i c.index.result.now (omega (arith, c.loop-i-test.true, c.args.pairs.now.ok.0)) c.index.ensures (λ e. c.if-index-id.false e) c.loop-i.invariant.none }
