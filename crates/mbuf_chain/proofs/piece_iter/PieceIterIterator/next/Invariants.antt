use Rattle.std.proofs.Common.{◌≡◌, length}
use Rattle.mbuf_chain.specs.Pieces.{pieces_of}
use Rattle.mbuf_chain.proofs.piece_iter.PieceIterIterator.next.Given as goal

abbrev pub invariant-loop-self : goal.invariant-loop-self
invariant-loop-self l = pieces_of l.self-inside.off l.self-inside.len l.self-inside.segs ≡ l.fn.self

abbrev pub decreases-loop-self : goal.decreases-loop-self
decreases-loop-self l = length l.self-inside.segs
