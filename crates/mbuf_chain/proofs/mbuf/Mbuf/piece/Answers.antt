use Rattle.std.proofs.Common.{◌≡◌, ℕ, ◌+◌, ◌-◌, List, length, take, drop, min, sym, ap, subst, ◌∙◌, arith}
use Rattle.seg_list.specs.Buffer.{Buffer}
use Rattle.mbuf_chain.proofs.Pieces.{piece_lent}
use Rattle.mbuf_chain.specs.Piece.{LiesAt}
use Rattle.mbuf_chain.proofs.mbuf.Mbuf.piece.Goals as goal

pub returns : goal.returns
returns c =
    let b = c.get.result.now in
    let at = c.find-i.result.1 in
    let n = c.min-n.result in
    let body = c.data-data.ensures.value in
    let h : LiesAt c.self.inside.segs c.args.off c.find-i.result.0 at b = c.find-i.ensures.lies b (sym c.get.ensures) in
    let h' : LiesAt c.args.self.now c.args.off c.find-i.result.0 at b = subst (λ (segs : List Buffer). LiesAt segs c.args.off c.find-i.result.0 at b) c.self.view_is h in
    let k : at + n - at ≡ min c.args.len (length b.body - at) = omega (arith) ∙ c.min-n.ensures ∙ ap (λ (ys : List ℕ). min c.args.len (length ys - at)) body in
    let p = piece_lent c.args.self.now c.args.off c.args.len c.find-i.result.0 at b (take (at + n - at) (drop at c.data-data.result.now)) h' c.requires.some
    (ap (λ j. take j (drop at c.data-data.result.now)) k ∙ ap (λ ys. take (min c.args.len (length b.body - at)) (drop at ys)) body) in
    record { value = p.0; size = p.1; range = (p.2, p.3) }
