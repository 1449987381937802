use Rattle.std.proofs.Common.{◌≡◌, [], sym, ap, ◌∙◌, arith}
use Rattle.mbuf_chain.specs.Pieces.{pieces_of}
use Rattle.mbuf_chain.proofs.Ranges.{no_pieces}
use Rattle.mbuf_chain.proofs.piece_iter.PieceIterIterator.next.Goals as goal

pub returns-clause-steps : goal.returns-clause-steps
returns-clause-steps c =
    let p = c.loop-self.self-inside in
    let none : pieces_of p.off p.len p.segs ≡ [] = ap (λ k. pieces_of p.off k p.segs) (omega arith) ∙ no_pieces p.off p.segs in
    (sym c.loop-self.invariant ∙ none, none)
