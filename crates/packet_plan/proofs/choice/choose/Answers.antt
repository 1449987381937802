use Rattle.std.proofs.Common.{ap, sym, ◌∙◌}
use Rattle.mbuf_chain.specs.Chain.{packet_of}
use Rattle.packet_plan.specs.Asked.{Chosen}
use Rattle.packet_plan.proofs.Choices.{chosen_at, chosen_none}
use Rattle.packet_plan.proofs.choice.choose.Goals as goal

pub returns-then-has_bytes-clause-choice : goal.returns-then-has_bytes-clause-choice
returns-then-has_bytes-clause-choice c =
    let at = chosen_at c.args.rules.now c.loop-i.i c.index-rules-i.result c.args.otherwise (packet_of c.args.packet.now) c.loop-i-test.true c.index-rules-i.is in
    let has = sym c.has_bytes.ensures ∙ c.if-has_bytes.true in
    ap (λ (x : Chosen). x.choice) (sym (rw has at at) ∙ c.loop-i.invariant)

pub returns-then-has_bytes-clause-flow : goal.returns-then-has_bytes-clause-flow
returns-then-has_bytes-clause-flow c =
    let at = chosen_at c.args.rules.now c.loop-i.i c.index-rules-i.result c.args.otherwise (packet_of c.args.packet.now) c.loop-i-test.true c.index-rules-i.is in
    let has = sym c.has_bytes.ensures ∙ c.if-has_bytes.true in
    ap (λ (x : Chosen). x.flow) (sym (rw has at at) ∙ c.loop-i.invariant)

pub loop-i-preserved : goal.loop-i-preserved
loop-i-preserved c =
    let at = chosen_at c.args.rules.now c.loop-i.i c.index-rules-i.result c.args.otherwise (packet_of c.args.packet.now) c.loop-i-test.true c.index-rules-i.is in
    let has = sym c.has_bytes.ensures ∙ c.if-has_bytes.false in
    sym (rw has at at) ∙ c.loop-i.invariant

pub returns-clause-choice : goal.returns-clause-choice
returns-clause-choice c =
    ap (λ (x : Chosen). x.choice) (sym (chosen_none c.args.rules.now c.loop-i.i c.args.otherwise (packet_of c.args.packet.now) c.loop-i-test.false) ∙ c.loop-i.invariant)

pub returns-clause-flow : goal.returns-clause-flow
returns-clause-flow c =
    ap (λ (x : Chosen). x.flow) (sym (chosen_none c.args.rules.now c.loop-i.i c.args.otherwise (packet_of c.args.packet.now) c.loop-i-test.false) ∙ c.loop-i.invariant)
