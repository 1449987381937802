use Rattle.std.proofs.Common.{◌+◌, ◌≤◌, ◌++◌, length, sym, ap, subst, ◌∙◌, arith}
use Rattle.mbuf_chain.specs.Chain.{packet_of}
use Rattle.mbuf_chain.specs.Cursors.{At}
use Rattle.mbuf_chain.specs.Piece.{piece_len}
use Rattle.mbuf_chain.proofs.Pieces.{piece_len-at}
use Rattle.mbuf_chain.proofs.Spots.{first_left, lies_first}
use Rattle.mbuf_chain.proofs.cursor.Cursor.pass.Goals as goal

pub overflow_add-inside : goal.overflow_add-inside
overflow_add-inside c =
    let w = c.self.inside.walk in
    let inside = c.self.inside.inside in
    let n = c.args.n in
    let b = c.first.result.now in
    let left = first_left w inside n c.self.invariant (subst (λ (a : At). a.at + n ≤ length (packet_of a.chain)) (sym c.self.view_is) c.requires.within) c.requires.some in
    let h = lies_first w.done w.rest inside b c.self.invariant left c.first.ensures in
    let few = sym (piece_len-at (w.done ++ w.rest) (length (packet_of w.done) + inside) n (length w.done) inside b h)
    ∙ ap (λ (a : At). piece_len a.at n a.chain) c.self.view_is ∙ c.requires.one in
    omega (arith, few, c.len-most.ensures.whole, h.inside)
