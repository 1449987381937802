use Rattle.std.proofs.Common.{◌+◌, ◌-◌, ◌++◌, min, length, sym, ap, ◌∙◌}
use Rattle.mbuf_chain.specs.Chain.{packet_of}
use Rattle.mbuf_chain.specs.Cursors.{At}
use Rattle.std.proofs.Common.{◌≤◌, subst}
use Rattle.mbuf_chain.specs.Piece.{piece_len}
use Rattle.mbuf_chain.proofs.Pieces.{piece_len-at}
use Rattle.mbuf_chain.proofs.Spots.{first_left, lies_first}
use Rattle.mbuf_chain.proofs.cursor.Cursor.piece_len.Goals as goal

pub returns-clause-value : goal.returns-clause-value
returns-clause-value c =
    let w = c.self.inside.walk in
    let inside = c.self.inside.inside in
    let b = c.first.result.now in
    let h = lies_first w.done w.rest inside b c.self.invariant (first_left w inside c.args.len c.self.invariant (subst (λ (a : At). a.at + c.args.len ≤ length (packet_of a.chain)) (sym c.self.view_is) c.requires.within) c.requires.some) c.first.ensures in
    c.min.ensures ∙ ap (λ n. min c.args.len (n - inside)) c.len.ensures.value
    ∙ sym (piece_len-at (w.done ++ w.rest) (length (packet_of w.done) + inside) c.args.len (length w.done) inside b h)
    ∙ ap (λ (a : At). piece_len a.at c.args.len a.chain) c.self.view_is
