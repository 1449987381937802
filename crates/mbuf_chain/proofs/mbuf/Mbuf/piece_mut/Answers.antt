use Rattle.std.proofs.Common.{List, refl, sym, ap, subst, ◌∙◌, take, drop, min, ◌-◌, slice_set}
use Rattle.seg_list.specs.Buffer.{Buffer, relaid_at}
use Rattle.mbuf_chain.proofs.Pieces.{piece_lent, piece_laid-at}
use Rattle.mbuf_chain.specs.Piece.{LiesAt}
use Rattle.mbuf_chain.proofs.Kept.{kept_laid}
use Rattle.mbuf_chain.proofs.mbuf.Mbuf.piece_mut.Goals as goal

pub invariant_of-self-lent : goal.invariant_of-self-lent
invariant_of-self-lent c = λ w.
    let b = c.get_mut-seg.result.now in
    kept_laid c.self.inside.segs c.self.inside.len c.args.off c.find-i.result.0 c.find-i.result.1 b w c.self.invariant (c.find-i.ensures.lies b (sym c.get_mut-seg.ensures.value))

pub returns : goal.returns
returns c =
    let b = c.get_mut-seg.result.now in
    let i = c.find-i.result.0 in
    let at = c.find-i.result.1 in
    let h : LiesAt c.self.inside.segs c.args.off i at b = c.find-i.ensures.lies b (sym c.get_mut-seg.ensures.value) in
    let h' : LiesAt c.args.self.now c.args.off i at b = subst (λ (segs : List Buffer). LiesAt segs c.args.off i at b) c.self.view_is h in
    let p = piece_lent c.args.self.now c.args.off c.args.len i at b c.part_mut.result.now h' c.requires.some
    (c.part_mut.ensures.value ∙ ap (λ k. take k (drop at b.body)) (c.min-n.ensures ∙ ap (λ j. min c.args.len (j - at)) c.len.ensures.value)) in (
      (refl, λ w. ap (λ (segs : List Buffer). slice_set segs i (relaid_at at b w)) c.self.view_is ∙ sym (piece_laid-at c.args.self.now c.args.off i at b w h')),
      record { writes_back = tt; value = p.0; size = p.1; range = (p.2, p.3) },
    )
