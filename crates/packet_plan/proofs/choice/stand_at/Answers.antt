use Rattle.std.proofs.Common.{drop, sym, ◌∙◌}
use Rattle.std.proofs.lemmas.Bool.{not-false, not-true}
use Rattle.mbuf_chain.specs.Chain.{packet_of}
use Rattle.packet_plan.proofs.Choices.{piece_at, same_more, one_differs, all_same}
use Rattle.packet_plan.proofs.choice.stand_at.Goals as goal

pub returns-then-ne : goal.returns-then-ne
returns-then-ne c =
    let text = drop c.args.at (packet_of c.args.packet.now) in
    let here = piece_at (packet_of c.args.packet.now) c.args.bytes.now c.piece-piece.result.now c.args.at c.loop-done.done _ c.piece-piece.ensures.value c.piece-piece.ensures.size
    c.piece-piece.ensures.range.1 c.loop-done.invariant.within c.loop-done.invariant.same in
    sym (one_differs text c.args.bytes.now c.piece-piece.result.now c.loop-done.done here (not-true _ (sym c.ne.ensures ∙ c.if-ne.true)))

pub loop-done-preserved : goal.loop-done-preserved
loop-done-preserved c =
    let text = drop c.args.at (packet_of c.args.packet.now) in
    let here = piece_at (packet_of c.args.packet.now) c.args.bytes.now c.piece-piece.result.now c.args.at c.loop-done.done _ c.piece-piece.ensures.value c.piece-piece.ensures.size
    c.piece-piece.ensures.range.1 c.loop-done.invariant.within c.loop-done.invariant.same in
    record {
      within = here.within;
      same = same_more text c.args.bytes.now c.piece-piece.result.now c.loop-done.done here (not-false _ (sym c.ne.ensures ∙ c.if-ne.false));
    }

pub returns : goal.returns
returns c = sym (all_same (drop c.args.at (packet_of c.args.packet.now)) c.args.bytes.now c.loop-done.done c.loop-done.invariant.within c.loop-done-test.false c.loop-done.invariant.same)
