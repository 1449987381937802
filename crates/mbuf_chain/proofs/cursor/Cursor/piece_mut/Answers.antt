use Rattle.std.proofs.Common.{◌+◌, ◌-◌, ◌≤◌, ◌++◌, List, length, take, drop, min, refl, sym, ap, subst, ◌∙◌}
use Rattle.seg_list.specs.Buffer.{Buffer}
use Rattle.mbuf_chain.specs.Chain.{packet_of}
use Rattle.mbuf_chain.specs.Cursors.{At}
use Rattle.mbuf_chain.specs.Piece.{piece_laid, piece_len}
use Rattle.mbuf_chain.proofs.Pieces.{piece_lent}
use Rattle.mbuf_chain.proofs.Spots.{first_left, lies_first, laid_first}
use Rattle.mbuf_chain.proofs.cursor.Cursor.piece_mut.Goals as goal

pub returns : goal.returns
returns c =
    let w = c.self.inside.walk in
    let inside = c.self.inside.inside in
    let len = c.args.len in
    let b = c.first_mut-seg.result.now in
    let h = lies_first w.done w.rest inside b c.self.invariant (first_left w inside len c.self.invariant (subst (λ (a : At). a.at + len ≤ length (packet_of a.chain)) (sym c.self.view_is) c.requires.within) c.requires.some) c.first_mut-seg.ensures.value in
    let at = length (packet_of w.done) + inside in
    let p = piece_lent (w.done ++ w.rest) at len (length w.done) inside b c.part_mut.result.now h c.requires.some
    (c.part_mut.ensures.value ∙ ap (λ k. take k (drop inside b.body)) (c.min-n.ensures ∙ ap (λ j. min len (j - inside)) c.len.ensures.value)) in (
      (
        refl,
        λ bytes. ap (λ (chain : List Buffer). let a : At = record { chain = chain; at = at } in a) (laid_first w.done w.rest inside b bytes h)
            ∙ ap (λ (a : At). let x : At = record { chain = piece_laid a.at a.chain bytes; at = a.at } in x) c.self.view_is,
      ),
      record {
        writes_back = tt;
        value = p.0 ∙ ap (λ (a : At). take (piece_len a.at len a.chain) (drop a.at (packet_of a.chain))) c.self.view_is;
        size = p.1 ∙ ap (λ (a : At). piece_len a.at len a.chain) c.self.view_is;
        range = (p.2, p.3);
      },
    )
